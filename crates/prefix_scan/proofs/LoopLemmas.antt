-- One item more of a loop over a list, and the items at positions outside of a range.
use Rattle.std.proofs.Common.{◌≡◌, ◌≢◌, ℕ, zero, suc, ℤ, ◌+◌, ◌<◌, ◌≤◌, true, false, List, [], ◌∷◌, ◌++◌, length, take}
use Rattle.std.proofs.Common.{drop, get_or, set, Option, Some, refl, sym, ap, ◌∙◌, append_assoc, arith}
use Rattle.std.proofs.lemmas.List.{take-append-drop, drop-set-lt, length-drop, length-set, length-take}
use mathlib.Core.Logic.{dite}
use native.Mathlib.Decide.{dec_le}
use Rattle.lambda_values.specs.declared.item.Item.{Item}
use Rattle.prefix_scan.specs.Prefixes.{Range, is_within, put_on, revalued}
use Rattle.prefix_scan.specs.Scans.{AreWithin, fold_on, item_on, fold_at, scan_at}
use Rattle.prefix_scan.proofs.ScanLemmas.{fold_more, scan_more}

pub drop_next : {A : Type 0} (i : ℕ) (xs : List A) (d : A) → i < length xs → drop i xs ≡ get_or xs i d ∷ drop (suc i) xs
drop_next i [] d h = absurd (omega arith)
drop_next zero (x ∷ xs) d h = ap (λ l. x ∷ l) (sym (drop_zero xs))
  where
    drop_zero : {A : Type 0} (xs : List A) → drop 0 xs ≡ xs
    drop_zero [] = refl
    drop_zero (x ∷ xs) = refl
drop_next (suc i) (x ∷ xs) d h = drop_next i xs d (omega arith)

pub take_set : {A : Type 0} (i : ℕ) (xs : List A) (y : A) → i < length xs
    → take (suc i) (set xs i y) ≡ take i xs ++ y ∷ []
take_set i [] y h = absurd (omega arith)
take_set zero (x ∷ xs) y h = ap (λ l. y ∷ l) (take_zero xs)
  where
    take_zero : {A : Type 0} (xs : List A) → take 0 xs ≡ []
    take_zero [] = refl
    take_zero (x ∷ xs) = refl
take_set (suc i) (x ∷ xs) y h = ap (λ l. x ∷ l) (take_set i xs y (omega arith))

pub drop_past : {A : Type 0} (i : ℕ) (xs : List A) → length xs ≤ i → drop i xs ≡ []
drop_past zero [] h = refl
drop_past (suc i) [] h = refl
drop_past zero (x ∷ xs) h = absurd (omega arith)
drop_past (suc i) (x ∷ xs) h = drop_past i xs (omega arith)

-- this many positions, from q on, are all outside the range
abbrev pub Outside : Range → ℕ → ℕ → Type 0
Outside r q count = (j : ℕ) → j < count → is_within r (q + j) ≡ false

pub later_outside : (r : Range) (q count : ℕ) → Outside r q (suc count) → Outside r (suc q) count
later_outside r q count h = λ j k. let e : suc q + j ≡ q + suc j = omega arith in
    ap (is_within r) e ∙ h (suc j) (omega arith)

pub first_outside : (r : Range) (q count : ℕ) → Outside r q (suc count) → is_within r q ≡ false
first_outside r q count h = let e : q ≡ q + 0 = omega arith in ap (is_within r) e ∙ h 0 (omega arith)

-- all of them, if the range has no position
pub none_within : (r : Range) (count from to : ℕ) → AreWithin r count from to → from ≡ to → Outside r 0 count
none_within r count from to w e = λ j k. let z : 0 + j ≡ j = omega arith in
    ap (is_within r) z ∙ dite (dec_le to j) (λ h. w.past j h k) (λ h. w.before j (omega (arith, e, h)))

module _ (f : ℤ → ℤ → ℤ) (r : Range) where
  fold_outside : (q : ℕ) (s : Option ℤ) (xs : List Item) → Outside r q (length xs) → fold_at f r q s xs ≡ s
  fold_outside q s [] h = refl
  fold_outside q s (x ∷ xs) h =
      ap (λ b. fold_at f r (suc q) (fold_on f b s x) xs) (first_outside r q (length xs) h)
      ∙ fold_outside (suc q) s xs (later_outside r q (length xs) h)

  scan_outside : (q : ℕ) (s : Option ℤ) (xs : List Item) → Outside r q (length xs) → scan_at f r q s xs ≡ xs
  scan_outside q s [] h = refl
  scan_outside q s (x ∷ xs) h =
      ap (λ b. item_on f b s x ∷ scan_at f r (suc q) (fold_on f b s x) xs) (first_outside r q (length xs) h)
      ∙ ap (λ (l : List Item). x ∷ l) (scan_outside (suc q) s xs (later_outside r q (length xs) h))

  -- no item at a position of the range
  pub fold_none : (count from to : ℕ) (s : Option ℤ) (xs : List Item) → AreWithin r count from to → count ≡ length xs
      → from ≡ to → s ≡ fold_at f r 0 s xs
  fold_none count from to s xs w n e = sym
      (fold_outside 0 s xs (λ j k. none_within r count from to w e j (omega (arith, n, k))))

  pub scan_none : (count from to : ℕ) (s : Option ℤ) (xs : List Item) → AreWithin r count from to → count ≡ length xs
      → from ≡ to → xs ≡ scan_at f r 0 s xs
  scan_none count from to s xs w n e = sym
      (scan_outside 0 s xs (λ j k. none_within r count from to w e j (omega (arith, n, k))))

  -- after the last position of the range
  left_outside : (count from to i : ℕ) (xs : List Item) → AreWithin r count from to → count ≡ length xs → to ≤ i
      → Outside r i (length (drop i xs))
  left_outside count from to i xs w n h = λ j k. let l = length-drop i xs in
      w.past (i + j) (omega (arith, h)) (omega (arith, n, k, l))

  pub fold_left : (count from to i : ℕ) (s : Option ℤ) (xs : List Item) → AreWithin r count from to → count ≡ length xs
      → to ≤ i → fold_at f r i s (drop i xs) ≡ s
  fold_left count from to i s xs w n h = fold_outside i s (drop i xs) (left_outside count from to i xs w n h)

  pub scan_left : (count from to i : ℕ) (s : Option ℤ) (xs : List Item) → AreWithin r count from to → count ≡ length xs
      → to ≤ i → take i xs ++ scan_at f r i s (drop i xs) ≡ xs
  scan_left count from to i s xs w n h =
      ap (λ l. take i xs ++ l) (scan_outside i s (drop i xs) (left_outside count from to i xs w n h))
      ∙ take-append-drop i xs

  -- one item at a position of the range
  within_step : (i : ℕ) (s : Option ℤ) (xs : List Item) (d : Item) (next : ℤ) → i < length xs → is_within r i ≡ true
      → next ≡ put_on f s (get_or xs i d).value
      → fold_at f r (i + 1) (Some next) (drop (i + 1) xs) ≡ fold_at f r i s (drop i xs)
  within_step i s xs d next h w e =
      let k : i + 1 ≡ suc i = omega arith in
      let x = get_or xs i d in
      (λ j. fold_at f r (k j) (Some (e j)) (drop (k j) xs))
      ∙ ap (λ b. fold_at f r (suc i) (fold_on f b s x) (drop (suc i) xs)) (sym w)
      ∙ sym (ap (fold_at f r i s) (drop_next i xs d h))

  scan_within : (i : ℕ) (s : Option ℤ) (xs : List Item) (d y : Item) (next : ℤ) → i < length xs → is_within r i ≡ true
      → next ≡ put_on f s (get_or xs i d).value → y ≡ revalued (get_or xs i d) next
      → take (i + 1) (set xs i y) ++ scan_at f r (i + 1) (Some next) (drop (i + 1) (set xs i y))
      ≡ take i xs ++ scan_at f r i s (drop i xs)
  scan_within i s xs d y next h w e g =
      let k : i + 1 ≡ suc i = omega arith in
      let x = get_or xs i d in
      let v : ℤ = put_on f s x.value in
      let rest : List Item = scan_at f r (suc i) (Some v) (drop (suc i) xs) in
      let z : y ≡ revalued x v = g ∙ ap (revalued x) e in
      (λ j. take (k j) (set xs i (z j)) ++ scan_at f r (k j) (Some (e j)) (drop (k j) (set xs i (z j))))
      ∙ ap (λ l. take (suc i) (set xs i (revalued x v)) ++ scan_at f r (suc i) (Some v) l)
      (drop-set-lt (suc i) xs i (revalued x v) (omega arith))
      ∙ ap (λ l. l ++ rest) (take_set i xs (revalued x v) h)
      ∙ append_assoc (take i xs) (revalued x v ∷ []) rest
      ∙ ap (λ b. take i xs ++ item_on f b s x ∷ scan_at f r (suc i) (fold_on f b s x) (drop (suc i) xs)) (sym w)
      ∙ ap (λ l. take i xs ++ l) (sym (ap (scan_at f r i s) (drop_next i xs d h)))

  -- the items before the range
  front_outside : (count from to : ℕ) (xs : List Item) → AreWithin r count from to → Outside r 0 (length (take from xs))
  front_outside count from to xs w = λ j k. let l = length-take from xs in let z : 0 + j ≡ j = omega arith in
      ap (is_within r) z ∙ w.before j (omega (arith, k, l))

  fold_front : (count from to : ℕ) (s : Option ℤ) (xs : List Item) → AreWithin r count from to → count ≡ length xs
      → fold_at f r from s (drop from xs) ≡ fold_at f r 0 s xs
  fold_front count from to s xs w n =
      let l = length-take from xs in
      let o = w.ordered in let u = w.whole in
      let z : 0 + length (take from xs) ≡ from = omega (arith, l, n, o, u) in
      sym (ap (fold_at f r 0 s) (sym (take-append-drop from xs))
      ∙ fold_more f r 0 s (take from xs) (drop from xs)
      ∙ (λ j. fold_at f r (z j) (fold_outside 0 s (take from xs) (front_outside count from to xs w) j) (drop from xs)))

  scan_front : (count from to : ℕ) (s : Option ℤ) (xs : List Item) → AreWithin r count from to → count ≡ length xs
      → take from xs ++ scan_at f r from s (drop from xs) ≡ scan_at f r 0 s xs
  scan_front count from to s xs w n =
      let l = length-take from xs in
      let o = w.ordered in let u = w.whole in
      let z : 0 + length (take from xs) ≡ from = omega (arith, l, n, o, u) in
      let h = front_outside count from to xs w in
      sym (ap (scan_at f r 0 s) (sym (take-append-drop from xs))
      ∙ scan_more f r 0 s (take from xs) (drop from xs)
      ∙ (λ j. scan_outside 0 s (take from xs) h j
      ++ scan_at f r (z j) (fold_outside 0 s (take from xs) h j) (drop from xs)))

  -- the first item of the range, and one more
  pub fold_first : (count from to : ℕ) (s : Option ℤ) (xs : List Item) (d : Item) (next : ℤ) → AreWithin r count from to
      → count ≡ length xs → from ≢ to → next ≡ put_on f s (get_or xs from d).value
      → fold_at f r (from + 1) (Some next) (drop (from + 1) xs) ≡ fold_at f r 0 s xs
  fold_first count from to s xs d next w n h e =
      let o = w.ordered in let u = w.whole in
      let k : from < to = omega (arith, o, h) in
      within_step from s xs d next (omega (arith, k, u, n)) (w.inside from (omega arith) k) e
      ∙ fold_front count from to s xs w n

  pub fold_next : (count from to i : ℕ) (a : ℤ) (xs : List Item) (d : Item) (next : ℤ) → AreWithin r count from to
      → count ≡ length xs → from + 1 ≤ i → i < to → next ≡ f a (get_or xs i d).value
      → fold_at f r (i + 1) (Some next) (drop (i + 1) xs) ≡ fold_at f r i (Some a) (drop i xs)
  fold_next count from to i a xs d next w n h k e =
      let u = w.whole in
      within_step i (Some a) xs d next (omega (arith, k, u, n)) (w.inside i (omega (arith, h)) k) e

  pub scan_first : (count from to : ℕ) (s : Option ℤ) (xs : List Item) (d y : Item) (next : ℤ)
      → AreWithin r count from to → count ≡ length xs → from ≢ to → next ≡ put_on f s (get_or xs from d).value
      → y ≡ revalued (get_or xs from d) next
      → take (from + 1) (set xs from y) ++ scan_at f r (from + 1) (Some next) (drop (from + 1) (set xs from y))
      ≡ scan_at f r 0 s xs
  scan_first count from to s xs d y next w n h e g =
      let o = w.ordered in let u = w.whole in
      let k : from < to = omega (arith, o, h) in
      scan_within from s xs d y next (omega (arith, k, u, n)) (w.inside from (omega arith) k) e g
      ∙ scan_front count from to s xs w n

  pub scan_next : (count from to i : ℕ) (a : ℤ) (xs : List Item) (d y : Item) (next : ℤ) → AreWithin r count from to
      → count ≡ length xs → from + 1 ≤ i → i < to → next ≡ f a (get_or xs i d).value → y ≡ revalued (get_or xs i d) next
      → take (i + 1) (set xs i y) ++ scan_at f r (i + 1) (Some next) (drop (i + 1) (set xs i y))
      ≡ take i xs ++ scan_at f r i (Some a) (drop i xs)
  scan_next count from to i a xs d y next w n h k e g =
      let u = w.whole in
      scan_within i (Some a) xs d y next (omega (arith, k, u, n)) (w.inside i (omega (arith, h)) k) e g

  -- what the loop of a scan keeps, at its begin and after one more item
  pub begun : (count from to : ℕ) (s : Option ℤ) (xs : List Item) (d y : Item) (next : ℤ) → AreWithin r count from to
      → count ≡ length xs → from ≢ to → next ≡ put_on f s (get_or xs from d).value
      → y ≡ revalued (get_or xs from d) next
      → (length (set xs from y) ≡ length xs)
      × (fold_at f r (from + 1) (Some next) (drop (from + 1) (set xs from y)) ≡ fold_at f r 0 s xs)
      × (take (from + 1) (set xs from y) ++ scan_at f r (from + 1) (Some next) (drop (from + 1) (set xs from y))
      ≡ scan_at f r 0 s xs)
  begun count from to s xs d y next w n h e g = (
    length-set xs from y,
    ap (fold_at f r (from + 1) (Some next)) (drop-set-lt (from + 1) xs from y (omega arith))
        ∙ fold_first count from to s xs d next w n h e,
    scan_first count from to s xs d y next w n h e g,
  )

  pub gone_on : (count from to i : ℕ) (a : ℤ) (all xs : List Item) (d y : Item) (next : ℤ) (folded : Option ℤ)
      (scanned : List Item) → AreWithin r count from to → count ≡ length all → from + 1 ≤ i → i < to
      → next ≡ f a (get_or xs i d).value → y ≡ revalued (get_or xs i d) next
      → length xs ≡ length all → fold_at f r i (Some a) (drop i xs) ≡ folded
      → take i xs ++ scan_at f r i (Some a) (drop i xs) ≡ scanned
      → (length (set xs i y) ≡ length all) × (fold_at f r (i + 1) (Some next) (drop (i + 1) (set xs i y)) ≡ folded)
      × (take (i + 1) (set xs i y) ++ scan_at f r (i + 1) (Some next) (drop (i + 1) (set xs i y)) ≡ scanned)
  gone_on count from to i a all xs d y next folded scanned w n h k e g l o z =
      let m : count ≡ length xs = n ∙ sym l in (
        length-set xs i y ∙ l,
        ap (fold_at f r (i + 1) (Some next)) (drop-set-lt (i + 1) xs i y (omega arith))
            ∙ fold_next count from to i a xs d next w m h k e ∙ o,
        scan_next count from to i a xs d y next w m h k e g ∙ z,
      )
