-- The values that parts have left.
use Rattle.std.proofs.Common.{◌≡◌, ◌≢◌, ℕ, suc, ◌+◌, ◌-◌, ◌/◌, ◌<◌, ℤ, pos, ◌+ℤ◌, List, [], ◌∷◌, ◌++◌, length, get_or}
use Rattle.std.proofs.Common.{take, drop, length-append, append_assoc, refl, sym, ap, ◌∙◌, arith}
use Rattle.std.proofs.Math.Seq.{drop-cons}
use Rattle.lambda_values.specs.declared.item.Item.{Item}
use Rattle.trace.specs.Cover.{counted, placed}
use Rattle.spliterator.specs.declared.array_split.ArraySplit.{ArraySplit}
use Rattle.spliterator.specs.declared.plain_split.PlainSplit.{PlainSplit}
use Rattle.spliterator.specs.declared.plain_split.PlainSplit.TheVariants.{Range, Array}
use Rattle.spliterator.specs.declared.range_split.RangeSplit.{RangeSplit}
use Rattle.spliterator.specs.Splits.{IsSplit, split_items}
use Rattle.spliterator.specs.Parts.{plain_values, plain_items, all_values, front_before, front_of}
use Rattle.spliterator.proofs.SplitLemmas.{length-placed, length-split_items, is_cut}

abbrev pub item_values : List Item → List ℤ
item_values [] = []
item_values (x ∷ xs) = x.value ∷ item_values xs

placed_values : (o : ℕ) (vs : List ℤ) → item_values (placed o vs) ≡ vs
placed_values o [] = refl
placed_values o (v ∷ vs) = ap (λ (ws : List ℤ). v ∷ ws) (placed_values (suc o) vs)

values_joined : (xs ys : List Item) → item_values (xs ++ ys) ≡ item_values xs ++ item_values ys
values_joined [] ys = refl
values_joined (x ∷ xs) ys = ap (λ (ws : List ℤ). x.value ∷ ws) (values_joined xs ys)

pub plain_item_values : (p : PlainSplit) → item_values (plain_items p) ≡ plain_values p
plain_item_values (Range r) = placed_values r.from (counted (r.start +ℤ pos r.from) (r.to - r.from))
plain_item_values (Array a) = placed_values a.origin a.values.now

pub length-plain : (p : PlainSplit) → length (plain_items p) ≡ length (plain_values p)
length-plain (Range r) = length-placed r.from (counted (r.start +ℤ pos r.from) (r.to - r.from))
length-plain (Array a) = length-placed a.origin a.values.now

none_left : (vs : List ℤ) → length vs ≡ 0 → vs ≡ []
none_left [] h = refl
none_left (v ∷ vs) h = absurd (omega arith)

pub empty_plain : (p : PlainSplit) → length (plain_items p) ≡ 0 → plain_values p ≡ []
empty_plain p h = none_left (plain_values p) (sym (length-plain p) ∙ h)

-- a part that was split has the values of the two
pub split_values : (front back whole : PlainSplit) → IsSplit (plain_items front) (plain_items back) (plain_items whole)
    → plain_values front ++ plain_values back ≡ plain_values whole
split_values front back whole s =
    (λ i. sym (plain_item_values front) i ++ sym (plain_item_values back) i)
    ∙ sym (values_joined (plain_items front) (plain_items back)) ∙ ap item_values s.joined ∙ plain_item_values whole

pub next_part : (ps : List PlainSplit) (i : ℕ) (d : PlainSplit) → i < length ps
    → all_values (drop i ps) ≡ plain_values (get_or ps i d) ++ all_values (drop (i + 1) ps)
next_part ps i d h = ap all_values (drop-cons ps i d h)
    ∙ (let e : suc i ≡ i + 1 = omega arith in ap (λ n. plain_values (get_or ps i d) ++ all_values (drop n ps)) e)

pub part_size : (ps : List PlainSplit) (i : ℕ) (p : PlainSplit) → i < length ps → p ≡ get_or ps i p
    → length (all_values (drop i ps)) ≡ length (plain_items p) + length (all_values (drop (i + 1) ps))
part_size ps i p h e =
    ap length (next_part ps i p h ∙ ap (λ q. plain_values q ++ all_values (drop (i + 1) ps)) (sym e))
    ∙ length-append (plain_values p) (all_values (drop (i + 1) ps))
    ∙ ap (λ n. n + length (all_values (drop (i + 1) ps))) (sym (length-plain p))

-- nothing is left where the first part with items has none
pub nothing_left : (o : ℕ) (h : PlainSplit) (ts : List ℤ) → plain_items h ≡ [] → (plain_values h ≡ [] → ts ≡ [])
    → placed o (plain_values h ++ ts) ≡ []
nothing_left o h ts e last = let k : plain_values h ≡ [] = empty_plain h (ap length e) in
    λ i. placed o (k i ++ last k i)

-- the values after the first item was handed out
pub advanced : (h k : PlainSplit) (x : Item) → plain_items h ≡ x ∷ plain_items k
    → plain_values h ≡ x.value ∷ plain_values k
advanced h k x e = sym (plain_item_values h) ∙ ap item_values e
    ∙ ap (λ (vs : List ℤ). x.value ∷ vs) (plain_item_values k)

pub same_split : (a b c x y z : List Item) → a ≡ x → b ≡ y → c ≡ z → IsSplit x y z → IsSplit a b c
same_split a b c x y z p q r s = record {
  joined = (λ i. p i ++ q i) ∙ s.joined ∙ sym r;
  handed_out = λ e. s.handed_out (sym p ∙ e);
  kept = λ e. s.kept (sym q ∙ e);
}

-- a part is handed out whole
pub split_off : (o : ℕ) (us vs : List ℤ) → (us ≡ [] → vs ≡ []) → 0 < length vs
    → IsSplit (placed o us) (placed (o + length us) vs) (placed o (us ++ vs))
split_off o [] vs last h = absurd (let e : length vs ≡ 0 = ap length (last refl) in omega arith)
split_off o (u ∷ us) vs last h = is_cut o (u ∷ us) vs ((u ∷ us) ++ vs) refl (omega arith) h

some_values : (p : PlainSplit) → plain_items p ≢ [] → 0 < length (plain_values p)
some_values p h = by_items (plain_items p) refl where
  by_items : (xs : List Item) → plain_items p ≡ xs → 0 < length (plain_values p)
  by_items [] e = absurd (h e)
  by_items (x ∷ xs) e = let l = length-plain p in let k = ap length e in omega arith

-- a front of a part is handed out
pub split_front : (o : ℕ) (f b h : PlainSplit) (ts : List ℤ) → IsSplit (plain_items f) (plain_items b) (plain_items h)
    → IsSplit (placed o (plain_values f)) (placed (o + length (plain_values f)) (plain_values b ++ ts))
    (placed o (plain_values h ++ ts))
split_front o f b h ts s =
    let k : 0 < length (plain_values b) = some_values b s.kept in
    let l = length-append (plain_values b) ts in
    is_cut o (plain_values f) (plain_values b ++ ts) (plain_values h ++ ts)
    (ap (λ (vs : List ℤ). vs ++ ts) (sym (split_values f b h s)) ∙ append_assoc (plain_values f) (plain_values b) ts)
    (some_values f s.handed_out) (omega arith)

-- ---- where a concatenation is split

-- a part with values before others that have some
front_whole : (us others ws : List ℤ) → (us ≡ [] → ws ≡ []) → 0 < length ws → us ≡ front_before us others ws
front_whole [] others ws last h = absurd (let e : length ws ≡ 0 = ap length (last refl) in omega arith)
front_whole (u ∷ us) others [] last h = absurd (omega arith)
front_whole (u ∷ us) others (w ∷ ws) last h = refl

pub whole_front : (p : PlainSplit) (ps : List PlainSplit) → (plain_values p ≡ [] → all_values ps ≡ [])
    → 0 < length (all_values ps) → plain_values p ≡ front_of (p ∷ ps)
whole_front p ps last h = front_whole (plain_values p) (front_of ps) (all_values ps) last h

take_joined : (xs ys : List ℤ) → xs ≡ take (length xs) (xs ++ ys)
take_joined [] [] = refl
take_joined [] (y ∷ ys) = refl
take_joined (x ∷ xs) ys = ap (λ (zs : List ℤ). x ∷ zs) (take_joined xs ys)

-- the last part with values
front_half : (us others ws : List ℤ) → 0 < length us → length ws ≡ 0
    → take (length us / 2) us ≡ front_before us others ws
front_half [] others ws h e = absurd (omega arith)
front_half (u ∷ us) others [] h e = refl
front_half (u ∷ us) others (w ∷ ws) h e = absurd (omega arith)

pub half_front : (f b p : PlainSplit) (ps : List PlainSplit) → IsSplit (plain_items f) (plain_items b) (plain_items p)
    → length (plain_items f) ≡ length (plain_items p) / 2
    → length (all_values ps) ≡ 0 → plain_values f ≡ front_of (p ∷ ps)
half_front f b p ps s half none =
    let joined = split_values f b p s in
    let of_f = length-plain f in
    let of_p = length-plain p in
    let count : length (plain_values f) ≡ length (plain_values p) / 2 = omega arith in
    let many : 0 < length (plain_values f) = some_values f s.handed_out in
    let some : 0 < length (plain_values p) = omega arith in
    take_joined (plain_values f) (plain_values b)
    ∙ (λ i. take (count i) (joined i))
    ∙ front_half (plain_values p) (front_of ps) (all_values ps) some none

-- a part that is split in half, as its type splits
pub half_range : (p : PlainSplit) (r s : RangeSplit) → p ≡ Range r → s.to - s.from ≡ (r.to - r.from) / 2
    → length (split_items s.start s.from s.to) ≡ length (plain_items p) / 2
half_range p r s is half =
    length-split_items s.start s.from s.to ∙ half ∙ ap (λ n. n / 2) (sym (length-split_items r.start r.from r.to))
    ∙ ap (λ q. length (plain_items q) / 2) (sym is)

pub half_array : (p : PlainSplit) (a s : ArraySplit) → p ≡ Array a → length s.values.now ≡ length a.values.now / 2
    → length (placed s.origin s.values.now) ≡ length (plain_items p) / 2
half_array p a s is half =
    length-placed s.origin s.values.now ∙ half ∙ ap (λ n. n / 2) (sym (length-placed a.origin a.values.now))
    ∙ ap (λ q. length (plain_items q) / 2) (sym is)
