-- Folds and scans of lists side by side, and of a list at other positions.
use Rattle.std.proofs.Common.{◌≡◌, ℕ, suc, ℤ, ◌+◌, ◌-◌, ◌<◌, ◌≤◌, min, Bool, true, false, cond, not, ◌&&◌, nat_lt}
use Rattle.std.proofs.Common.{lt-ltb, le-ltb, List, [], ◌∷◌, ◌++◌, length, Option, Some, None, sym, refl, ap, ◌∙◌}
use Rattle.std.proofs.Common.{arith}
use mathlib.Core.Logic.{dite}
use native.Mathlib.Decide.{dec_le}
use Rattle.lambda_values.specs.declared.item.Item.{Item}
use Rattle.reduce_ops.specs.Operators.{IsAssociative}
use Rattle.reduce_ops.specs.Folds.{fold_from, fold_items}
use Rattle.prefix_scan.specs.Prefixes.{Range, is_within, put_on, running, revalued}
use Rattle.prefix_scan.specs.Scans.{fold_on, item_on, fold_at, scan_at, cut_to, joined_value}

-- ---- positions

pub within_yes : (from to q : ℕ) → from ≤ q → q < to → is_within (Some (from, to)) q ≡ true
within_yes from to q h k = ap (λ b. not b && nat_lt q to) (le-ltb q from h) ∙ lt-ltb q to k

pub within_before : (from to q : ℕ) → q < from → is_within (Some (from, to)) q ≡ false
within_before from to q h = ap (λ b. not b && nat_lt q to) (lt-ltb q from h)

and_false : (b : Bool) → (b && false) ≡ false
and_false true = refl
and_false false = refl

pub within_past : (from to q : ℕ) → to ≤ q → is_within (Some (from, to)) q ≡ false
within_past from to q h = ap (λ b. not (nat_lt q from) && b) (le-ltb q to h) ∙ and_false (not (nat_lt q from))

by_bool : (P : Bool → Type 0) → P true → P false → (b : Bool) → P b
by_bool P t n true = t
by_bool P t n false = n

-- a position of the range, seen from the piece that begins at q
pub cut_within : (r : Range) (q count j : ℕ) → j < count → is_within (cut_to r q count) j ≡ is_within r (q + j)
cut_within None q count j h = refl
cut_within (Some (from, to)) q count j h = dite (dec_le from (q + j))
    (λ a. dite (dec_le (q + j + 1) to)
    (λ b. within_yes (min count (from - q)) (min count (to - q)) j (omega arith) (omega arith)
    ∙ sym (within_yes from to (q + j) a (omega arith)))
    (λ b. within_past (min count (from - q)) (min count (to - q)) j (omega arith)
    ∙ sym (within_past from to (q + j) (omega arith))))
    (λ a. within_before (min count (from - q)) (min count (to - q)) j (omega arith)
    ∙ sym (within_before from to (q + j) (omega arith)))

module _ (f : ℤ → ℤ → ℤ) where
  -- a list at other positions that are in the range exactly where these are
  pub fold_as : (r : Range) (q : ℕ) (r' : Range) (q' : ℕ) (start : Option ℤ) (xs : List Item)
      → ((j : ℕ) → j < length xs → is_within r (q + j) ≡ is_within r' (q' + j))
      → fold_at f r q start xs ≡ fold_at f r' q' start xs
  fold_as r q r' q' start [] h = refl
  fold_as r q r' q' start (x ∷ xs) h =
      (let e : q + 0 ≡ q = omega arith in let e' : q' + 0 ≡ q' = omega arith in
      ap (λ b. fold_at f r (suc q) (fold_on f b start x) xs)
      (ap (is_within r) (sym e) ∙ h 0 (omega arith) ∙ ap (is_within r') e'))
      ∙ fold_as r (suc q) r' (suc q') (fold_on f (is_within r' q') start x) xs
      (λ j k. let e : suc q + j ≡ q + suc j = omega arith in let e' : suc q' + j ≡ q' + suc j = omega arith in
      ap (is_within r) e ∙ h (suc j) (omega arith) ∙ ap (is_within r') (sym e'))

  pub scan_as : (r : Range) (q : ℕ) (r' : Range) (q' : ℕ) (start : Option ℤ) (xs : List Item)
      → ((j : ℕ) → j < length xs → is_within r (q + j) ≡ is_within r' (q' + j))
      → scan_at f r q start xs ≡ scan_at f r' q' start xs
  scan_as r q r' q' start [] h = refl
  scan_as r q r' q' start (x ∷ xs) h =
      (let e : q + 0 ≡ q = omega arith in let e' : q' + 0 ≡ q' = omega arith in
      ap (λ b. item_on f b start x ∷ scan_at f r (suc q) (fold_on f b start x) xs)
      (ap (is_within r) (sym e) ∙ h 0 (omega arith) ∙ ap (is_within r') e'))
      ∙ ap (λ (l : List Item). item_on f (is_within r' q') start x ∷ l)
      (scan_as r (suc q) r' (suc q') (fold_on f (is_within r' q') start x) xs
      (λ j k. let e : suc q + j ≡ q + suc j = omega arith in let e' : suc q' + j ≡ q' + suc j = omega arith in
      ap (is_within r) e ∙ h (suc j) (omega arith) ∙ ap (is_within r') (sym e')))

  -- a piece by its own positions
  pub fold_cut : (r : Range) (q : ℕ) (start : Option ℤ) (xs : List Item)
      → fold_at f (cut_to r q (length xs)) 0 start xs ≡ fold_at f r q start xs
  fold_cut r q start xs = fold_as (cut_to r q (length xs)) 0 r q start xs
      (λ j k. let e : 0 + j ≡ j = omega arith in
      ap (is_within (cut_to r q (length xs))) e ∙ cut_within r q (length xs) j k)

  pub scan_cut : (r : Range) (q : ℕ) (start : Option ℤ) (xs : List Item)
      → scan_at f (cut_to r q (length xs)) 0 start xs ≡ scan_at f r q start xs
  scan_cut r q start xs = scan_as (cut_to r q (length xs)) 0 r q start xs
      (λ j k. let e : 0 + j ≡ j = omega arith in
      ap (is_within (cut_to r q (length xs))) e ∙ cut_within r q (length xs) j k)

  -- lists side by side
  pub fold_more : (r : Range) (q : ℕ) (start : Option ℤ) (xs ys : List Item)
      → fold_at f r q start (xs ++ ys) ≡ fold_at f r (q + length xs) (fold_at f r q start xs) ys
  fold_more r q start [] ys = let e : q ≡ q + 0 = omega arith in ap (λ n. fold_at f r n start ys) e
  fold_more r q start (x ∷ xs) ys =
      let e : suc q + length xs ≡ q + suc (length xs) = omega arith in
      let s : Option ℤ = fold_on f (is_within r q) start x in
      fold_more r (suc q) s xs ys ∙ ap (λ n. fold_at f r n (fold_at f r (suc q) s xs) ys) e

  pub scan_more : (r : Range) (q : ℕ) (start : Option ℤ) (xs ys : List Item)
      → scan_at f r q start (xs ++ ys) ≡ scan_at f r q start xs
      ++ scan_at f r (q + length xs) (fold_at f r q start xs) ys
  scan_more r q start [] ys = let e : q ≡ q + 0 = omega arith in ap (λ n. scan_at f r n start ys) e
  scan_more r q start (x ∷ xs) ys =
      let e : suc q + length xs ≡ q + suc (length xs) = omega arith in
      let s : Option ℤ = fold_on f (is_within r q) start x in
      ap (λ (l : List Item). item_on f (is_within r q) start x ∷ l)
      (scan_more r (suc q) s xs ys ∙ ap
      (λ n. scan_at f r (suc q) s xs ++ scan_at f r n (fold_at f r (suc q) s xs) ys) e)

  pub length-scan_at : (r : Range) (q : ℕ) (start : Option ℤ) (xs : List Item)
      → length (scan_at f r q start xs) ≡ length xs
  length-scan_at r q start [] = refl
  length-scan_at r q start (x ∷ xs) = ap suc (length-scan_at r (suc q) (fold_on f (is_within r q) start x) xs)

  -- without a range a fold is the fold of all items
  fold_all_from : (q : ℕ) (a : ℤ) (xs : List Item) → fold_at f None q (Some a) xs ≡ Some (fold_from f a xs)
  fold_all_from q a [] = refl
  fold_all_from q a (x ∷ xs) = fold_all_from (suc q) (f a x.value) xs

  pub fold_all : (q : ℕ) (xs : List Item) → fold_at f None q None xs ≡ fold_items f xs
  fold_all q [] = refl
  fold_all q (x ∷ xs) = fold_all_from (suc q) x.value xs

  -- ---- folds by operators that may be grouped in any way

  module _ (grouped : IsAssociative f) where
    put_joined : (a b : Option ℤ) (v : ℤ) → put_on f (joined_value f a b) v ≡ put_on f a (put_on f b v)
    put_joined None None v = refl
    put_joined None (Some b) v = refl
    put_joined (Some a) None v = refl
    put_joined (Some a) (Some b) v = grouped a b v

    -- what lies left may be folded in later
    fold_later : (r : Range) (q : ℕ) (a b : Option ℤ) (xs : List Item)
        → fold_at f r q (joined_value f a b) xs ≡ joined_value f a (fold_at f r q b xs)
    fold_later r q a b [] = refl
    fold_later r q a b (x ∷ xs) =
        by_bool (λ c. fold_at f r (suc q) (fold_on f c (joined_value f a b) x) xs
        ≡ joined_value f a (fold_at f r (suc q) (fold_on f c b x) xs))
        (ap (λ v. fold_at f r (suc q) (Some v) xs) (put_joined a b x.value)
        ∙ fold_later r (suc q) a (Some (put_on f b x.value)) xs)
        (fold_later r (suc q) a b xs)
        (is_within r q)

    pub fold_joined : (r : Range) (q : ℕ) (a : Option ℤ) (xs : List Item)
        → fold_at f r q a xs ≡ joined_value f a (fold_at f r q None xs)
    fold_joined r q a xs = fold_later r q a None xs

    pub fold_beside : (r : Range) (q : ℕ) (xs ys : List Item)
        → fold_at f r q None (xs ++ ys) ≡ joined_value f (fold_at f r q None xs) (fold_at f r (q + length xs) None ys)
    fold_beside r q xs ys = fold_more r q None xs ys ∙ fold_joined r (q + length xs) (fold_at f r q None xs) ys

  -- ---- scans as the definition has them

  from_more : (a : ℤ) (xs : List Item) (x : Item) → fold_from f a (xs ++ x ∷ []) ≡ f (fold_from f a xs) x.value
  from_more a [] x = refl
  from_more a (y ∷ xs) x = from_more (f a y.value) xs x

  items_more : (before : List Item) (x : Item)
      → Some (put_on f (fold_items f before) x.value) ≡ fold_items f (before ++ x ∷ [])
  items_more [] x = refl
  items_more (y ∷ ys) x = ap Some (sym (from_more y.value ys x))

  pub scan_is : (r : Range) (q : ℕ) (before xs : List Item)
      → scan_at f r q (fold_items f before) xs ≡ running f r q before xs
  scan_is r q before [] = refl
  scan_is r q before (x ∷ xs) =
      by_bool (λ b. item_on f b (fold_items f before) x ∷ scan_at f r (suc q) (fold_on f b (fold_items f before) x) xs
      ≡ cond b (revalued x (put_on f (fold_items f before) x.value) ∷ running f r (suc q) (before ++ x ∷ []) xs)
      (x ∷ running f r (suc q) before xs))
      (ap (λ (l : List Item). revalued x (put_on f (fold_items f before) x.value) ∷ l)
      (ap (λ s. scan_at f r (suc q) s xs) (items_more before x) ∙ scan_is r (suc q) (before ++ x ∷ []) xs))
      (ap (λ (l : List Item). x ∷ l) (scan_is r (suc q) before xs))
      (is_within r q)
