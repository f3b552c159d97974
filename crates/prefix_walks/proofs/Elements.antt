-- Elements at positions of a list, and of two lists one after the other.
use Rattle.std.proofs.Common.{FitsSigned, w64, int_lt, unsigned_abs, ◌-ℤ◌, Bool, true, false, if◌then◌else◌, subst, ◌≡◌}
use Rattle.std.proofs.Common.{ℕ, zero, suc, ◌+◌, ◌-◌, ◌<◌, ◌≤◌, ◌^◌, min, ℤ, pos, List, [], ◌∷◌, ◌++◌, length}
use Rattle.std.proofs.Common.{length-append, take, drop, Option, Some, None, refl, sym, ap, ◌∙◌, arith}
use Rattle.std.proofs.lemmas.Int.{ints}
use Rattle.std.proofs.lemmas.List.{drop-drop, length-drop, take-append-drop, take-take, take_all}
use borrow.Author.Differences.{fits_in, fits_out}
use Rattle.lambda_values.specs.declared.item.Item.{Item}
use Rattle.trace.specs.Cover.{distance, placed}
use Rattle.trace.proofs.Sources.{length-placed}
use Rattle.batch_eval.proofs.RangeLemmas.{drop_placed, take_placed}
use Rattle.prefix_walks.specs.Pieces.{IsNotAfter, after, elements, span}

module _ {A : Type 0} where
  abbrev empty : List A
  empty = []

  pub take_none : (xs : List A) → take 0 xs ≡ []
  take_none [] = refl
  take_none (x ∷ xs) = refl

  pub drop_none : (xs : List A) → drop 0 xs ≡ xs
  drop_none [] = refl
  drop_none (x ∷ xs) = refl

  pub take_of_none : (n : ℕ) → take n empty ≡ empty
  take_of_none zero = refl
  take_of_none (suc n) = refl

  pub drop_of_none : (n : ℕ) → drop n empty ≡ empty
  drop_of_none zero = refl
  drop_of_none (suc n) = refl

  -- the first n elements of two lists
  pub take_both : (n : ℕ) (xs ys : List A) → take n (xs ++ ys) ≡ take n xs ++ take (n - length xs) ys
  take_both n [] ys = let e : n ≡ n - 0 = omega arith in
      ap (λ m. take m ys) e ∙ ap (λ (zs : List A). zs ++ take (n - 0) ys) (sym (take_of_none n))
  take_both zero (x ∷ xs) ys = let e : 0 - suc (length xs) ≡ 0 = omega arith in
      sym (ap (λ m. take m ys) e ∙ take_none ys)
  take_both (suc n) (x ∷ xs) ys = let e : n - length xs ≡ suc n - suc (length xs) = omega arith in
      ap (λ (zs : List A). x ∷ zs) (take_both n xs ys ∙ ap (λ m. take n xs ++ take m ys) e)

  -- two lists without their first n elements
  pub drop_both : (n : ℕ) (xs ys : List A) → drop n (xs ++ ys) ≡ drop n xs ++ drop (n - length xs) ys
  drop_both n [] ys = let e : n ≡ n - 0 = omega arith in
      ap (λ m. drop m ys) e ∙ ap (λ (zs : List A). zs ++ drop (n - 0) ys) (sym (drop_of_none n))
  drop_both zero (x ∷ xs) ys = let e : 0 - suc (length xs) ≡ 0 = omega arith in
      sym (ap (λ m. (x ∷ xs) ++ drop m ys) e ∙ ap (λ (zs : List A). (x ∷ xs) ++ zs) (drop_none ys))
  drop_both (suc n) (x ∷ xs) ys = let e : n - length xs ≡ suc n - suc (length xs) = omega arith in
      drop_both n xs ys ∙ ap (λ m. drop n xs ++ drop m ys) e

  -- to take more than there is is to take all
  pub take_same : (m n : ℕ) (xs : List A) → min m (length xs) ≡ min n (length xs) → take m xs ≡ take n xs
  take_same m n [] e = take_of_none m ∙ sym (take_of_none n)
  take_same zero zero (x ∷ xs) e = refl
  take_same zero (suc n) (x ∷ xs) e = absurd (omega arith)
  take_same (suc m) zero (x ∷ xs) e = absurd (omega arith)
  take_same (suc m) (suc n) (x ∷ xs) e = ap (λ (zs : List A). x ∷ zs) (take_same m n xs (omega arith))

  pub drop_same : (m n : ℕ) (xs : List A) → min m (length xs) ≡ min n (length xs) → drop m xs ≡ drop n xs
  drop_same m n [] e = drop_of_none m ∙ sym (drop_of_none n)
  drop_same zero zero (x ∷ xs) e = refl
  drop_same zero (suc n) (x ∷ xs) e = absurd (omega arith)
  drop_same (suc m) zero (x ∷ xs) e = absurd (omega arith)
  drop_same (suc m) (suc n) (x ∷ xs) e = drop_same m n xs (omega arith)

  -- positions within a list
  pub clamped : (from : ℕ) (to : Option ℕ) (xs : List A)
      → elements from to xs ≡ take (span from to (length xs)) (drop (min from (length xs)) xs)
  clamped from None xs =
      let d = drop_same from (min from (length xs)) xs (omega arith) in
      let l = length-drop (min from (length xs)) xs in
      d ∙ sym (take_all (length xs - from) (drop (min from (length xs)) xs) (omega arith))
  clamped from (Some to) xs =
      let d = drop_same from (min from (length xs)) xs (omega arith) in
      let l = length-drop (min from (length xs)) xs in
      ap (take (to - from)) d ∙ take_same (to - from) (min to (length xs) - from) (drop (min from (length xs)) xs)
      (omega arith)

  -- positions in two lists
  pub elements_both : (from : ℕ) (to : Option ℕ) (xs ys : List A)
      → elements from to (xs ++ ys) ≡ elements from to xs ++ elements (from - length xs) (after to (length xs)) ys
  elements_both from None xs ys = drop_both from xs ys
  elements_both from (Some to) xs ys =
      let l = length-drop from xs in
      let e : (to - from) - length (drop from xs) ≡ (to - length xs) - (from - length xs) = omega arith in
      ap (take (to - from)) (drop_both from xs ys) ∙ take_both (to - from) (drop from xs) (drop (from - length xs) ys)
      ∙ ap (λ m. take (to - from) (drop from xs) ++ take m (drop (from - length xs) ys)) e

  pub elements_none : (from : ℕ) (to : Option ℕ) → elements from to empty ≡ []
  elements_none from None = drop_of_none from
  elements_none from (Some to) = ap (take (to - from)) (drop_of_none from) ∙ take_of_none (to - from)

  pub drop_taken : (m n : ℕ) (xs : List A) → drop m (take n xs) ≡ take (n - m) (drop m xs)
  drop_taken m n [] = ap (drop m) (take_of_none n) ∙ drop_of_none m
      ∙ sym (ap (take (n - m)) (drop_of_none m) ∙ take_of_none (n - m))
  drop_taken zero n (x ∷ xs) = drop_none (take n (x ∷ xs))
      ∙ (let e : n ≡ n - 0 = omega arith in ap (λ k. take k (x ∷ xs)) e)
  drop_taken (suc m) zero (x ∷ xs) = let e : 0 - suc m ≡ 0 = omega arith in
      sym (ap (λ k. take k (drop m xs)) e ∙ take_none (drop m xs))
  drop_taken (suc m) (suc n) (x ∷ xs) = drop_taken m n xs
      ∙ (let e : n - m ≡ suc n - suc m = omega arith in ap (λ k. take k (drop m xs)) e)

  -- two pieces side by side
  pub elements_join : (from middle : ℕ) (to : Option ℕ) (xs : List A) → from ≤ middle → IsNotAfter middle to
      → elements from (Some middle) xs ++ elements middle to xs ≡ elements from to xs
  elements_join from middle None xs h k =
      let e : from + (middle - from) ≡ middle = omega arith in
      ap (λ (zs : List A). take (middle - from) (drop from xs) ++ zs)
      (ap (λ n. drop n xs) (sym e) ∙ sym (drop-drop (middle - from) from xs))
      ∙ take-append-drop (middle - from) (drop from xs)
  elements_join from middle (Some to) xs h k =
      let e : from + (middle - from) ≡ middle = omega arith in
      let f : to - middle ≡ (to - from) - (middle - from) = omega arith in
      let ys : List A = drop from xs in
      (λ i. sym (take-take (middle - from) (to - from) ys (omega arith)) i
      ++ (ap (λ n. take (to - middle) (drop n xs)) (sym e)
      ∙ ap (take (to - middle)) (sym (drop-drop (middle - from) from xs))
      ∙ ap (λ n. take n (drop (middle - from) ys)) f ∙ sym (drop_taken (middle - from) (to - from) ys)) i)
      ∙ take-append-drop (middle - from) (take (to - from) ys)

-- places go on in a piece
pub placed_both : (o : ℕ) (us vs : List ℤ) → placed o (us ++ vs) ≡ placed o us ++ placed (o + length us) vs
placed_both o [] vs = let e : o ≡ o + 0 = omega arith in ap (λ (n : ℕ). placed n vs) e
placed_both o (u ∷ us) vs =
    let e : suc o + length us ≡ o + suc (length us) = omega arith in
    ap (λ (xs : List Item). record { origin = o; value = u } ∷ xs)
    (placed_both (suc o) us vs ∙ ap (λ (n : ℕ). placed (suc o) us ++ placed n vs) e)

-- positions in the values of a source, and in those after it
placed_positions : (o from : ℕ) (to : Option ℕ) (us vs : List ℤ) (size start count : ℕ) → size ≡ length us
    → start ≡ min from size → count ≡ span from to size
    → elements from to (placed o (us ++ vs))
    ≡ placed (o + start) (take count (drop start us))
    ++ elements (from - size) (after to size) (placed (o + size) vs)
placed_positions o from to us vs size start count e s c =
    let l = length-placed o us in
    ap (elements from to) (placed_both o us vs) ∙ elements_both from to (placed o us) (placed (o + length us) vs)
    ∙ (λ i. (clamped from to (placed o us) ∙ (λ j. take (span from to (l j)) (drop (min from (l j)) (placed o us)))
    ∙ (λ j. take (span from to (sym e j)) (drop (min from (sym e j)) (placed o us)))
    ∙ (λ j. take (sym c j) (drop (sym s j) (placed o us))) ∙ ap (take count) (drop_placed start o us)
    ∙ take_placed count (o + start) (drop start us)) i
    ++ elements (from - (l ∙ sym e) i) (after to ((l ∙ sym e) i)) (placed (o + sym e i) vs))

-- these, of sources of at most 2^62 values
pub source_parts : (all us vs : List ℤ) (xs : List Item) (o from : ℕ) (to : Option ℕ) (size start count : ℕ)
    → all ≡ us ++ vs → o + length all ≤ 2 ^ 62 → size ≡ min (length us) (2 ^ 64 - 1) → start ≡ min from size
    → count ≡ span from to size → xs ≡ placed (o + start) (take count (drop start us))
    → elements from to (placed o all) ≡ xs ++ elements (from - size) (after to size) (placed (o + size) vs)
source_parts all us vs xs o from to size start count split few s a c x =
    let l = ap length split ∙ length-append us vs in
    let same : size ≡ length us = omega (arith, s, few, l) in
    ap (λ (ws : List ℤ). elements from to (placed o ws)) split
    ∙ placed_positions o from to us vs size start count same a c
    ∙ ap (λ (ys : List Item). ys ++ elements (from - size) (after to size) (placed (o + size) vs)) (sym x)

-- the last value of a range that has one
pub less_one_fits : (a b : ℤ) → FitsSigned w64 a → FitsSigned w64 b → 0 < distance a b → FitsSigned w64 (b -ℤ pos 1)
less_one_fits a b p q h = by_test (int_lt a b) refl
  where
    by_test : (t : Bool) → int_lt a b ≡ t → FitsSigned w64 (b -ℤ pos 1)
    by_test true e = let k : 0 < unsigned_abs (b -ℤ a) =
        subst (λ (m : ℕ). 0 < m) (ap (λ (t : Bool). if t then unsigned_abs (b -ℤ a) else 0) e) h in
        omega (arith, ints, fits_in, fits_out w64 a p, fits_out w64 b q, k, e)
    by_test false e = let k : 0 < 0 = subst (λ (m : ℕ). 0 < m)
        (ap (λ (t : Bool). if t then unsigned_abs (b -ℤ a) else 0) e) h in absurd (omega (arith, k))

-- positions after the first of two lists
pub past_first : {A : Type 0} (from : ℕ) (to : Option ℕ) (xs : List A) → length xs ≤ from → elements from to xs ≡ []
past_first from None xs h = let e : length xs - from ≡ 0 = omega arith in
    clamped from None xs ∙ ap (λ n. take n (drop (min from (length xs)) xs)) e
    ∙ take_none (drop (min from (length xs)) xs)
past_first from (Some to) xs h = let e : min to (length xs) - from ≡ 0 = omega arith in
    clamped from (Some to) xs ∙ ap (λ n. take n (drop (min from (length xs)) xs)) e
    ∙ take_none (drop (min from (length xs)) xs)
