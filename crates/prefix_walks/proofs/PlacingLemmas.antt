-- Items whose places count up or are listed.
use Rattle.std.proofs.Common.{◌≡◌, ℕ, zero, suc, ℤ, pos, ◌+◌, ◌<◌, ◌≤◌, Bool, true, false, List, [], ◌∷◌, ◌++◌, length}
use Rattle.std.proofs.Common.{length-append, slice_get, get_or, set, map, take, drop, Option, Some, None, add-one, refl}
use Rattle.std.proofs.Common.{sym, ap, ◌∙◌, arith}
use Rattle.std.proofs.lemmas.List.{length-drop, length-map, length-take, length-take-le, map-append, take_at, take_more}
use Rattle.std.proofs.lemmas.List.{take_more_set}
use Rattle.std.proofs.lemmas.List.FromFn.{length-range_with_len}
use Rattle.std.proofs.lemmas.Option.{slice_get_within, get_or_from_slice_get}
use Rattle.std.specs.List.{range_with_len}
use Rattle.lambda_values.specs.declared.item.Item.{Item}
use Rattle.trace.specs.Cover.{placed}
use Rattle.trace.proofs.Ranges.{placed_get}
use Rattle.prefix_scan.specs.Prefixes.{Range, is_within}
use Rattle.prefix_scan.specs.Scans.{fold_on, item_on, scan_at}
use Rattle.batch_eval.specs.Batches.{item_at, laid_items}
use Rattle.batch_eval.proofs.FewLemmas.{items_lanes}
use Rattle.prefix_walks.specs.Placing.{FitsPlaces, IsAt, IsBuffer, items_at, listed, places_for, places_from}
use Rattle.prefix_walks.proofs.Elements.{placed_both}

placed_values : (first : ℕ) (vs : List ℤ) → map (λ (x : Item). x.value) (placed first vs) ≡ vs
placed_values first [] = refl
placed_values first (v ∷ vs) = ap (λ (us : List ℤ). v ∷ us) (placed_values (suc first) vs)

values_listed : (ps : List ℕ) (vs : List ℤ) → length ps ≡ length vs → map (λ (x : Item). x.value) (listed ps vs) ≡ vs
values_listed [] [] h = refl
values_listed [] (v ∷ vs) h = absurd (omega (arith, h))
values_listed (p ∷ ps) [] h = absurd (omega (arith, h))
values_listed (p ∷ ps) (v ∷ vs) h = ap (λ (l : List ℤ). v ∷ l) (values_listed ps vs (omega (arith, h)))

-- the values of the items, and how many there are
pub values_at : (start : Option ℕ) (ps : List ℕ) (vs : List ℤ) → (start ≡ None → length ps ≡ length vs)
    → map (λ (x : Item). x.value) (items_at start ps vs) ≡ vs
values_at (Some first) ps vs h = placed_values first vs
values_at None ps vs h = values_listed ps vs (h refl)

pub length_at : (start : Option ℕ) (ps : List ℕ) (vs : List ℤ) → (start ≡ None → length ps ≡ length vs)
    → length (items_at start ps vs) ≡ length vs
length_at start ps vs h = sym (length-map (items_at start ps vs) (λ (x : Item). x.value))
    ∙ ap length (values_at start ps vs h)

-- items after others
listed_both : (ps qs : List ℕ) (us vs : List ℤ) → length ps ≡ length us
    → listed (ps ++ qs) (us ++ vs) ≡ listed ps us ++ listed qs vs
listed_both [] qs [] vs h = refl
listed_both [] qs (u ∷ us) vs h = absurd (omega (arith, h))
listed_both (p ∷ ps) qs [] vs h = absurd (omega (arith, h))
listed_both (p ∷ ps) qs (u ∷ us) vs h = ap (λ (l : List Item). record { origin = p; value = u } ∷ l)
    (listed_both ps qs us vs (omega (arith, h)))

pub listed_more : (ps : List ℕ) (vs : List ℤ) (x : Item) → length ps ≡ length vs
    → listed (ps ++ x.origin ∷ []) (vs ++ x.value ∷ []) ≡ listed ps vs ++ x ∷ []
listed_more ps vs x h = listed_both ps (x.origin ∷ []) vs (x.value ∷ []) h

listed_own : (xs : List Item) → listed (map (λ (x : Item). x.origin) xs) (map (λ (x : Item). x.value) xs) ≡ xs
listed_own [] = refl
listed_own (x ∷ xs) = ap (λ (l : List Item). x ∷ l) (listed_own xs)

-- items by their values, and by the places that are listed for them
pub items_own : (start : Option ℕ) (xs : List Item) (vs : List ℤ) → IsAt start xs vs
    → items_at start (places_for start xs) vs ≡ xs
items_own (Some first) xs vs at = sym (at.count_up first refl)
items_own None xs vs at = ap (listed (map (λ (x : Item). x.origin) xs)) (sym at.values) ∙ listed_own xs

pub fits_own : (start : Option ℕ) (xs : List Item) (vs : List ℤ) → IsAt start xs vs
    → FitsPlaces start (places_for start xs) vs
fits_own (Some first) xs vs at = record { below = at.below; paired = λ e. cc }
fits_own None xs vs at =
    let l : length (map (λ (x : Item). x.origin) xs) ≡ length vs =
    length-map xs (λ (x : Item). x.origin) ∙ sym (length-map xs (λ (x : Item). x.value)) ∙ ap length at.values in
    record { below = λ first e. cc; paired = λ e. l }

-- items after others that are placed in their way
pub both_own : (first start : Option ℕ) (ps : List ℕ) (us : List ℤ) (xs : List Item) (vs : List ℤ)
    → FitsPlaces first ps us → IsAt start xs vs → ((p : ℕ) → first ≡ Some p → start ≡ Some (p + length us))
    → (first ≡ None → start ≡ None)
    → items_at first (ps ++ places_for start xs) (us ++ vs) ≡ items_at first ps us ++ xs
both_own (Some p) start ps us xs vs fits at go on =
    placed_both p us vs ∙ ap (λ (l : List Item). placed p us ++ l) (sym (at.count_up (p + length us) (go p refl)))
both_own None start ps us xs vs fits at go on =
    ap (λ s. listed (ps ++ places_for s xs) (us ++ vs)) (on refl)
    ∙ listed_both ps (map (λ (x : Item). x.origin) xs) us vs (fits.paired refl)
    ∙ ap (λ (l : List Item). listed ps us ++ l)
    (ap (listed (map (λ (x : Item). x.origin) xs)) (sym at.values) ∙ listed_own xs)

pub both_fit : (first start : Option ℕ) (ps : List ℕ) (us : List ℤ) (xs : List Item) (vs : List ℤ)
    → FitsPlaces first ps us → IsAt start xs vs → ((p : ℕ) → first ≡ Some p → start ≡ Some (p + length us))
    → (first ≡ None → start ≡ None)
    → FitsPlaces first (ps ++ places_for start xs) (us ++ vs)
both_fit (Some p) start ps us xs vs fits at go on =
    let other = fits_own start xs vs at in
    let lp = length-append ps (places_for start xs) in
    let lv = length-append us vs in
    record {
      below = λ q e. (let same : p ≡ q = cc in let b = at.below (p + length us) (go p refl) in
          omega (arith, same, b, lv));
      paired = λ e. cc;
    }
both_fit None start ps us xs vs fits at go on =
    let other = fits_own start xs vs at in
    let lp = length-append ps (places_for start xs) in
    let lv = length-append us vs in
    let l = fits.paired refl in
    let m = other.paired (on refl) in
    record {
      below = λ q e. cc;
      paired = λ e. omega (arith, lp, lv, l, m);
    }

-- places that count up, listed
counted_listed : (first : ℕ) (vs : List ℤ) → listed (range_with_len first (length vs)) vs ≡ placed first vs
counted_listed first [] = refl
counted_listed first (v ∷ vs) = ap (λ (l : List Item). record { origin = first; value = v } ∷ l)
    (ap (λ n. listed (range_with_len n (length vs)) vs) (add-one first) ∙ counted_listed (suc first) vs)

from_listed : (start : Option ℕ) (ps : List ℕ) (vs : List ℤ) → length ps ≡ length vs
    → listed (places_from start ps) vs ≡ items_at start ps vs
from_listed (Some first) ps vs h = ap (λ n. listed (range_with_len first n) vs) h ∙ counted_listed first vs
from_listed None ps vs h = refl

length_from : (start : Option ℕ) (ps : List ℕ) → length (places_from start ps) ≡ length ps
length_from (Some first) ps = length-range_with_len first (length ps)
length_from None ps = refl

-- ---- a buffer

module _ (start : Option ℕ) (places : List ℕ) (values : List ℤ) (n : ℕ) (is : IsBuffer start places values n) where
  pub front_places : length (take n places) ≡ n
  front_places = length-take-le n places (omega (arith, is.few, is.places_size))

  pub front_values : length (take n values) ≡ n
  front_values = length-take-le n values (omega (arith, is.few, is.values_size))

  pub front_paired : start ≡ None → length (take n places) ≡ length (take n values)
  front_paired e = front_places ∙ sym front_values

  pub length_front : length (items_at start (take n places) (take n values)) ≡ n
  length_front = length_at start (take n places) (take n values) front_paired ∙ front_values

  -- an item more
  pub one_added : (ps : List ℕ) (x : Item) → ps ≡ places_from start (take n places) → n < 1024
      → listed (take (n + 1) (set (ps ++ drop n places) n x.origin)) (take (n + 1) (set values n x.value))
      ≡ items_at start (take n places) (take n values) ++ x ∷ []
  one_added ps x e more =
      let m : length ps ≡ n = ap length e ∙ length_from start (take n places) ∙ front_places in
      let l = length-append ps (drop n places) in
      let d = length-drop n places in
      let front : take (n + 1) (set (ps ++ drop n places) n x.origin) ≡ ps ++ x.origin ∷ [] =
      take_more_set (ps ++ drop n places) n x.origin (omega (arith, m, l, d, is.places_size, more))
      ∙ ap (λ (qs : List ℕ). qs ++ x.origin ∷ []) (take_at ps (drop n places) n m) in
      let back = take_more_set values n x.value (omega (arith, is.values_size, more)) in
      (λ j. listed (front j) (back j)) ∙ listed_more ps (take n values) x (m ∙ sym front_values)
      ∙ ap (λ (xs : List Item). xs ++ x ∷ [])
      (ap (λ qs. listed qs (take n values)) e
      ∙ from_listed start (take n places) (take n values) (front_places ∙ sym front_values))

-- the item at a position
listed_get : (ps : List ℕ) (vs : List ℤ) (k : ℕ) → length ps ≡ length vs → k < length vs
    → slice_get (listed ps vs) k ≡ Some (item_at None ps vs k)
listed_get [] [] k h below = absurd (omega (arith, below))
listed_get [] (v ∷ vs) k h below = absurd (omega (arith, h))
listed_get (p ∷ ps) [] k h below = absurd (omega (arith, h))
listed_get (p ∷ ps) (v ∷ vs) zero h below = refl
listed_get (p ∷ ps) (v ∷ vs) (suc k) h below = listed_get ps vs k (omega (arith, h)) (omega (arith, below))

get_at : (start : Option ℕ) (ps : List ℕ) (vs : List ℤ) (k : ℕ) → (start ≡ None → length ps ≡ length vs) → k < length vs
    → slice_get (items_at start ps vs) k ≡ Some (item_at start ps vs k)
get_at (Some first) ps vs k h below = placed_get first vs k (pos 0) (get_or vs k (pos 0)) below refl
get_at None ps vs k h below = listed_get ps vs k (h refl) below

-- the items, lane by lane
pub laid_at : (start : Option ℕ) (ps : List ℕ) (vs : List ℤ) → (start ≡ None → length ps ≡ length vs)
    → items_at start ps vs ≡ laid_items start ps vs
laid_at start ps vs h = items_lanes (items_at start ps vs) (length vs) (item_at start ps vs)
    (sym (length_at start ps vs h)) (λ k below. let z : 0 + k ≡ k = omega arith in
    ap (slice_get (items_at start ps vs)) z ∙ get_at start ps vs k h below)

-- a scan moves no item
at_place : (f : ℤ → ℤ → ℤ) (b : Bool) (s : Option ℤ) (p : ℕ) (v : ℤ)
    → record { origin = p; value = (item_on f b s (record { origin = p; value = v })).value }
    ≡ item_on f b s (record { origin = p; value = v })
at_place f true s p v = refl
at_place f false s p v = refl

pub scanned_at : (f : ℤ → ℤ → ℤ) (r : Range) (q : ℕ) (s : Option ℤ) (start : Option ℕ) (ps : List ℕ) (vs : List ℤ)
    → items_at start ps (map (λ (x : Item). x.value) (scan_at f r q s (items_at start ps vs)))
    ≡ scan_at f r q s (items_at start ps vs)
scanned_at f r q s (Some p) ps [] = refl
scanned_at f r q s (Some p) ps (v ∷ vs) =
    (λ j. at_place f (is_within r q) s p v j
    ∷ scanned_at f r (suc q) (fold_on f (is_within r q) s (record { origin = p; value = v })) (Some (suc p)) ps vs
    j)
scanned_at f r q s None [] vs = refl
scanned_at f r q s None (p ∷ ps) [] = refl
scanned_at f r q s None (p ∷ ps) (v ∷ vs) =
    (λ j. at_place f (is_within r q) s p v j
    ∷ scanned_at f r (suc q) (fold_on f (is_within r q) s (record { origin = p; value = v })) None ps vs j)

-- a sink that had no items takes some
pub first_taken : (xs items old new : List Item) → (length xs ≤ 1024 → old ≡ xs) → 0 ≡ length old
    → (length items ≤ 1024 → new ≡ items) → length (xs ++ items) ≤ 1024 → new ≡ xs ++ items
first_taken xs items old new took none hold few =
    let l = length-append xs items in
    let had = took (omega (arith, l, few)) in
    let same : length old ≡ length xs = ap length had in
    hold (omega (arith, l, few)) ∙ by_none xs (omega (arith, same, none))
  where
    by_none : (xs : List Item) → 0 ≡ length xs → items ≡ xs ++ items
    by_none [] h = refl
    by_none (x ∷ xs) h = absurd (omega (arith, h))

-- one item more of those whose places count up
pub places_next : (place i : ℕ) (xs : List Item) (x : Item) → i < length xs → slice_get xs i ≡ Some x
    → x.origin ≡ place + i → take i xs ≡ placed place (map (λ (y : Item). y.value) (take i xs))
    → take (i + 1) xs ≡ placed place (map (λ (y : Item). y.value) (take (i + 1) xs))
places_next place i xs x h at o t =
    let us = map (λ (y : Item). y.value) (take i xs) in
    let more : take (i + 1) xs ≡ take i xs ++ x ∷ [] =
    take_more xs i x (slice_get_within xs i x at)
    ∙ ap (λ (z : Item). take i xs ++ z ∷ []) (get_or_from_slice_get xs i x x at) in
    let l : length us ≡ i = let m = length-map (take i xs) (λ (y : Item). y.value) in let n = length-take i xs in
    omega (arith, m, n, h) in
    let values : map (λ (y : Item). y.value) (take (i + 1) xs) ≡ us ++ x.value ∷ [] =
    ap (map (λ (y : Item). y.value)) more ∙ map-append (λ (y : Item). y.value) (take i xs) (x ∷ []) in
    let here : place + length us ≡ x.origin = omega (arith, l, o) in
    more ∙ (λ j. t j ++ record { origin = sym here j; value = x.value } ∷ [])
    ∙ sym (ap (placed place) values ∙ placed_both place us (x.value ∷ []))
