-- Sources that count up, cut in two.
use Rattle.std.proofs.Common.{◌≡◌, ◌≢◌, ℕ, zero, suc, ◌+◌, ◌-◌, ◌<◌, ◌≤◌, ℤ, pos, ◌+ℤ◌, List, [], ◌∷◌, ◌++◌, length}
use Rattle.std.proofs.Common.{refl, sym, ap, ◌∙◌, ◌^◌, arith, to_z, of_z, FitsSigned, w64}
use Rattle.std.proofs.lemmas.Int.{ints, to_z-of_z, to_z_pos}
use Rattle.lambda_values.specs.declared.item.Item.{Item}
use Rattle.trace.specs.Cover.{counted, placed}
use Rattle.spliterator.specs.Splits.{IsSplit, split_items}

pub length-counted : (a : ℤ) (n : ℕ) → length (counted a n) ≡ n
length-counted a zero = refl
length-counted a (suc n) = ap suc (length-counted (a +ℤ pos 1) n)

pub length-placed : (i : ℕ) (vs : List ℤ) → length (placed i vs) ≡ length vs
length-placed i [] = refl
length-placed i (v ∷ vs) = ap suc (length-placed (suc i) vs)

pub placed_joined : (i : ℕ) (us vs : List ℤ) → placed i (us ++ vs) ≡ placed i us ++ placed (i + length us) vs
placed_joined i [] vs = let e : i ≡ i + 0 = omega arith in ap (λ (n : ℕ). placed n vs) e
placed_joined i (u ∷ us) vs =
    let e : suc i + length us ≡ i + suc (length us) = omega arith in
    ap (λ (xs : List Item). record { origin = i; value = u } ∷ xs)
    (placed_joined (suc i) us vs ∙ ap (λ (n : ℕ). placed (suc i) us ++ placed n vs) e)

pub counted_joined : (a : ℤ) (m n : ℕ) → counted a (m + n) ≡ counted a m ++ counted (a +ℤ pos m) n
counted_joined a zero n = let e : a ≡ a +ℤ pos 0 = omega (arith, ints) in let z : 0 + n ≡ n = omega arith in
    ap (counted a) z ∙ ap (λ b. counted b n) e
counted_joined a (suc m) n =
    let z : suc m + n ≡ suc (m + n) = omega arith in
    let e : (a +ℤ pos 1) +ℤ pos m ≡ a +ℤ pos (suc m) = omega (arith, ints) in
    ap (counted a) z ∙ ap (λ (vs : List ℤ). a ∷ vs)
    (counted_joined (a +ℤ pos 1) m n ∙ ap (λ b. counted (a +ℤ pos 1) m ++ counted b n) e)

pub length-split_items : (a : ℤ) (from to : ℕ) → length (split_items a from to) ≡ to - from
length-split_items a from to = length-placed from (counted (a +ℤ pos from) (to - from))
    ∙ length-counted (a +ℤ pos from) (to - from)

pub cut_at : (a : ℤ) (from middle to : ℕ) → from ≤ middle → middle ≤ to
    → split_items a from middle ++ split_items a middle to ≡ split_items a from to
cut_at a from middle to h k =
    let n : (middle - from) + (to - middle) ≡ to - from = omega arith in
    let e : (a +ℤ pos from) +ℤ pos (middle - from) ≡ a +ℤ pos middle = omega (arith, ints) in
    let p : from + length (counted (a +ℤ pos from) (middle - from)) ≡ middle =
    omega (arith, length-counted (a +ℤ pos from) (middle - from)) in
    sym (ap (λ m. placed from (counted (a +ℤ pos from) m)) (sym n)
    ∙ ap (placed from) (counted_joined (a +ℤ pos from) (middle - from) (to - middle))
    ∙ placed_joined from (counted (a +ℤ pos from) (middle - from))
    (counted ((a +ℤ pos from) +ℤ pos (middle - from)) (to - middle))
    ∙ (λ i. split_items a from middle ++ placed (p i) (counted (e i) (to - middle))))

some_items : (xs : List Item) (n : ℕ) → length xs ≡ n → 0 < n → xs ≢ []
some_items xs n e h k = absurd (let z : length xs ≡ 0 = ap length k in omega arith)

pub is_split : (a : ℤ) (from middle to : ℕ) → from < middle → middle < to
    → IsSplit (split_items a from middle) (split_items a middle to) (split_items a from to)
is_split a from middle to h k = record {
  joined = cut_at a from middle to (omega arith) (omega arith);
  handed_out = some_items (split_items a from middle) (middle - from) (length-split_items a from middle) (omega arith);
  kept = some_items (split_items a middle to) (to - middle) (length-split_items a middle to) (omega arith);
}

-- a slice of values cut in two
pub is_cut : (o : ℕ) (us vs ws : List ℤ) → ws ≡ us ++ vs → 0 < length us → 0 < length vs
    → IsSplit (placed o us) (placed (o + length us) vs) (placed o ws)
is_cut o us vs ws e h k = record {
  joined = sym (ap (placed o) e ∙ placed_joined o us vs);
  handed_out = some_items (placed o us) (length us) (length-placed o us) h;
  kept = some_items (placed (o + length us) vs) (length vs) (length-placed (o + length us) vs) k;
}

-- the first of the items at positions
pub first_item : (a v : ℤ) (from to : ℕ) → from < to → v ≡ a +ℤ pos from
    → split_items a from to ≡ record { origin = from; value = v } ∷ split_items a (from + 1) to
first_item a v from to h e = by_count (to - from) (omega arith) where
  by_count : (n : ℕ) → to - from ≡ n → split_items a from to
      ≡ record { origin = from; value = v } ∷ split_items a (from + 1) to
  by_count zero z = absurd (omega arith)
  by_count (suc n) z =
      let later : n ≡ to - (from + 1) = omega arith in
      let next : (a +ℤ pos from) +ℤ pos 1 ≡ a +ℤ pos (from + 1) = omega (arith, ints) in
      let at : suc from ≡ from + 1 = omega arith in
      ap (λ m. placed from (counted (a +ℤ pos from) m)) z
      ∙ (λ i. record { origin = from; value = sym e i } ∷ placed (at i) (counted (next i) (later i)))

-- what the program computes for the value at a position
pub value_at : (a : ℤ) (from : ℕ) → FitsSigned w64 a → from < 2 ^ 63 → FitsSigned w64 (a +ℤ pos from)
    → to_z w64 (of_z w64 (to_z w64 (of_z w64 a) +ℤ to_z w64 from)) ≡ a +ℤ pos from
value_at a from h k g = (λ i. to_z w64 (of_z w64 (to_z-of_z w64 a h i +ℤ to_z_pos w64 from k i)))
    ∙ to_z-of_z w64 (a +ℤ pos from) g
