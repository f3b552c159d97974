-- Folds and scans of values alone.
use Rattle.std.proofs.Common.{◌≡◌, ◌≢◌, ℕ, suc, ℤ, ◌+◌, ◌<◌, ◌≤◌, Bool, true, false, List, [], ◌∷◌, ◌++◌, length, map}
use Rattle.std.proofs.Common.{take, drop, get_or, set, Option, Some, refl, sym, ap, ◌∙◌, append_assoc, arith}
use Rattle.std.proofs.lemmas.List.{take-append-drop, drop-set-lt, length-drop, length-set, length-take}
use Rattle.lambda_values.specs.declared.item.Item.{Item}
use Rattle.prefix_scan.specs.Prefixes.{Range, is_within, put_on}
use Rattle.prefix_scan.specs.Scans.{AreWithin, fold_on, item_on, fold_at, scan_at, fold_value_on, value_on}
use Rattle.prefix_scan.specs.Scans.{fold_values_at, scan_values_at}
use Rattle.prefix_scan.proofs.LoopLemmas.{Outside, later_outside, first_outside, none_within, drop_next, take_set}

module _ (f : ℤ → ℤ → ℤ) (r : Range) where
  -- values are scanned as the items that have them
  pub values_folded : (q : ℕ) (s : Option ℤ) (xs : List Item)
      → fold_values_at f r q s (map (λ x. x.value) xs) ≡ fold_at f r q s xs
  values_folded q s [] = refl
  values_folded q s (x ∷ xs) = ap (λ o. fold_values_at f r (suc q) o (map (λ y. y.value) xs)) (same (is_within r q))
      ∙ values_folded (suc q) (fold_on f (is_within r q) s x) xs
    where
      same : (b : Bool) → fold_value_on f b s x.value ≡ fold_on f b s x
      same true = refl
      same false = refl

  pub values_scanned : (q : ℕ) (s : Option ℤ) (xs : List Item)
      → scan_values_at f r q s (map (λ x. x.value) xs) ≡ map (λ x. x.value) (scan_at f r q s xs)
  values_scanned q s [] = refl
  values_scanned q s (x ∷ xs) =
      (λ j. one (is_within r q) j ∷ scan_values_at f r (suc q) (same (is_within r q) j) (map (λ y. y.value) xs))
      ∙ ap (λ l. (item_on f (is_within r q) s x).value ∷ l) (values_scanned (suc q) (fold_on f (is_within r q) s x) xs)
    where
      same : (b : Bool) → fold_value_on f b s x.value ≡ fold_on f b s x
      same true = refl
      same false = refl

      one : (b : Bool) → value_on f b s x.value ≡ (item_on f b s x).value
      one true = refl
      one false = refl

  -- lists side by side
  fold_more : (q : ℕ) (start : Option ℤ) (xs ys : List ℤ)
      → fold_values_at f r q start (xs ++ ys) ≡ fold_values_at f r (q + length xs) (fold_values_at f r q start xs) ys
  fold_more q start [] ys = let e : q ≡ q + 0 = omega arith in ap (λ n. fold_values_at f r n start ys) e
  fold_more q start (x ∷ xs) ys =
      let e : suc q + length xs ≡ q + suc (length xs) = omega arith in
      let s : Option ℤ = fold_value_on f (is_within r q) start x in
      fold_more (suc q) s xs ys ∙ ap (λ n. fold_values_at f r n (fold_values_at f r (suc q) s xs) ys) e

  scan_more : (q : ℕ) (start : Option ℤ) (xs ys : List ℤ)
      → scan_values_at f r q start (xs ++ ys)
      ≡ scan_values_at f r q start xs ++ scan_values_at f r (q + length xs) (fold_values_at f r q start xs) ys
  scan_more q start [] ys = let e : q ≡ q + 0 = omega arith in ap (λ n. scan_values_at f r n start ys) e
  scan_more q start (x ∷ xs) ys =
      let e : suc q + length xs ≡ q + suc (length xs) = omega arith in
      let s : Option ℤ = fold_value_on f (is_within r q) start x in
      ap (λ (l : List ℤ). value_on f (is_within r q) start x ∷ l)
      (scan_more (suc q) s xs ys ∙ ap
      (λ n. scan_values_at f r (suc q) s xs ++ scan_values_at f r n (fold_values_at f r (suc q) s xs) ys) e)

  fold_outside : (q : ℕ) (s : Option ℤ) (xs : List ℤ) → Outside r q (length xs) → fold_values_at f r q s xs ≡ s
  fold_outside q s [] h = refl
  fold_outside q s (x ∷ xs) h =
      ap (λ b. fold_values_at f r (suc q) (fold_value_on f b s x) xs) (first_outside r q (length xs) h)
      ∙ fold_outside (suc q) s xs (later_outside r q (length xs) h)

  scan_outside : (q : ℕ) (s : Option ℤ) (xs : List ℤ) → Outside r q (length xs) → scan_values_at f r q s xs ≡ xs
  scan_outside q s [] h = refl
  scan_outside q s (x ∷ xs) h =
      ap (λ b. value_on f b s x ∷ scan_values_at f r (suc q) (fold_value_on f b s x) xs)
      (first_outside r q (length xs) h)
      ∙ ap (λ (l : List ℤ). x ∷ l) (scan_outside (suc q) s xs (later_outside r q (length xs) h))

  -- no item at a position of the range
  pub fold_none : (count from to : ℕ) (s : Option ℤ) (xs : List ℤ) → AreWithin r count from to → count ≡ length xs
      → from ≡ to → s ≡ fold_values_at f r 0 s xs
  fold_none count from to s xs w n e = sym
      (fold_outside 0 s xs (λ j k. none_within r count from to w e j (omega (arith, n, k))))

  pub scan_none : (count from to : ℕ) (s : Option ℤ) (xs : List ℤ) → AreWithin r count from to → count ≡ length xs
      → from ≡ to → xs ≡ scan_values_at f r 0 s xs
  scan_none count from to s xs w n e = sym
      (scan_outside 0 s xs (λ j k. none_within r count from to w e j (omega (arith, n, k))))

  -- after the last position of the range
  left_outside : (count from to i : ℕ) (xs : List ℤ) → AreWithin r count from to → count ≡ length xs → to ≤ i
      → Outside r i (length (drop i xs))
  left_outside count from to i xs w n h = λ j k. let l = length-drop i xs in
      w.past (i + j) (omega (arith, h)) (omega (arith, n, k, l))

  pub fold_left : (count from to i : ℕ) (s : Option ℤ) (xs : List ℤ) → AreWithin r count from to → count ≡ length xs
      → to ≤ i → fold_values_at f r i s (drop i xs) ≡ s
  fold_left count from to i s xs w n h = fold_outside i s (drop i xs) (left_outside count from to i xs w n h)

  pub scan_left : (count from to i : ℕ) (s : Option ℤ) (xs : List ℤ) → AreWithin r count from to → count ≡ length xs
      → to ≤ i → take i xs ++ scan_values_at f r i s (drop i xs) ≡ xs
  scan_left count from to i s xs w n h =
      ap (λ l. take i xs ++ l) (scan_outside i s (drop i xs) (left_outside count from to i xs w n h))
      ∙ take-append-drop i xs

  -- one item at a position of the range
  within_step : (i : ℕ) (s : Option ℤ) (xs : List ℤ) (d : ℤ) (next : ℤ) → i < length xs → is_within r i ≡ true
      → next ≡ put_on f s (get_or xs i d)
      → fold_values_at f r (i + 1) (Some next) (drop (i + 1) xs) ≡ fold_values_at f r i s (drop i xs)
  within_step i s xs d next h w e =
      let k : i + 1 ≡ suc i = omega arith in
      let x = get_or xs i d in
      (λ j. fold_values_at f r (k j) (Some (e j)) (drop (k j) xs))
      ∙ ap (λ b. fold_values_at f r (suc i) (fold_value_on f b s x) (drop (suc i) xs)) (sym w)
      ∙ sym (ap (fold_values_at f r i s) (drop_next i xs d h))

  scan_within : (i : ℕ) (s : Option ℤ) (xs : List ℤ) (d y : ℤ) (next : ℤ) → i < length xs → is_within r i ≡ true
      → next ≡ put_on f s (get_or xs i d) → y ≡ next
      → take (i + 1) (set xs i y) ++ scan_values_at f r (i + 1) (Some next) (drop (i + 1) (set xs i y))
      ≡ take i xs ++ scan_values_at f r i s (drop i xs)
  scan_within i s xs d y next h w e g =
      let k : i + 1 ≡ suc i = omega arith in
      let x = get_or xs i d in
      let v : ℤ = put_on f s x in
      let rest : List ℤ = scan_values_at f r (suc i) (Some v) (drop (suc i) xs) in
      let z : y ≡ v = g ∙ e in
      (λ j. take (k j) (set xs i (z j)) ++ scan_values_at f r (k j) (Some (e j)) (drop (k j) (set xs i (z j))))
      ∙ ap (λ l. take (suc i) (set xs i (v)) ++ scan_values_at f r (suc i) (Some v) l)
      (drop-set-lt (suc i) xs i (v) (omega arith))
      ∙ ap (λ l. l ++ rest) (take_set i xs (v) h)
      ∙ append_assoc (take i xs) (v ∷ []) rest
      ∙ ap (λ b. take i xs ++ value_on f b s x ∷ scan_values_at f r (suc i) (fold_value_on f b s x) (drop (suc i) xs))
      (sym w)
      ∙ ap (λ l. take i xs ++ l) (sym (ap (scan_values_at f r i s) (drop_next i xs d h)))

  -- the items before the range
  front_outside : (count from to : ℕ) (xs : List ℤ) → AreWithin r count from to → Outside r 0 (length (take from xs))
  front_outside count from to xs w = λ j k. let l = length-take from xs in let z : 0 + j ≡ j = omega arith in
      ap (is_within r) z ∙ w.before j (omega (arith, k, l))

  fold_front : (count from to : ℕ) (s : Option ℤ) (xs : List ℤ) → AreWithin r count from to → count ≡ length xs
      → fold_values_at f r from s (drop from xs) ≡ fold_values_at f r 0 s xs
  fold_front count from to s xs w n =
      let l = length-take from xs in
      let o = w.ordered in let u = w.whole in
      let z : 0 + length (take from xs) ≡ from = omega (arith, l, n, o, u) in
      sym (ap (fold_values_at f r 0 s) (sym (take-append-drop from xs))
      ∙ fold_more 0 s (take from xs) (drop from xs)
      ∙ (λ j. fold_values_at f r (z j) (fold_outside 0 s (take from xs) (front_outside count from to xs w) j)
      (drop from xs)))

  scan_front : (count from to : ℕ) (s : Option ℤ) (xs : List ℤ) → AreWithin r count from to → count ≡ length xs
      → take from xs ++ scan_values_at f r from s (drop from xs) ≡ scan_values_at f r 0 s xs
  scan_front count from to s xs w n =
      let l = length-take from xs in
      let o = w.ordered in let u = w.whole in
      let z : 0 + length (take from xs) ≡ from = omega (arith, l, n, o, u) in
      let h = front_outside count from to xs w in
      sym (ap (scan_values_at f r 0 s) (sym (take-append-drop from xs))
      ∙ scan_more 0 s (take from xs) (drop from xs)
      ∙ (λ j. scan_outside 0 s (take from xs) h j
      ++ scan_values_at f r (z j) (fold_outside 0 s (take from xs) h j) (drop from xs)))

  -- the first item of the range, and one more
  pub fold_first : (count from to : ℕ) (s : Option ℤ) (xs : List ℤ) (d : ℤ) (next : ℤ) → AreWithin r count from to
      → count ≡ length xs → from ≢ to → next ≡ put_on f s (get_or xs from d)
      → fold_values_at f r (from + 1) (Some next) (drop (from + 1) xs) ≡ fold_values_at f r 0 s xs
  fold_first count from to s xs d next w n h e =
      let o = w.ordered in let u = w.whole in
      let k : from < to = omega (arith, o, h) in
      within_step from s xs d next (omega (arith, k, u, n)) (w.inside from (omega arith) k) e
      ∙ fold_front count from to s xs w n

  pub fold_next : (count from to i : ℕ) (a : ℤ) (xs : List ℤ) (d : ℤ) (next : ℤ) → AreWithin r count from to
      → count ≡ length xs → from + 1 ≤ i → i < to → next ≡ f a (get_or xs i d)
      → fold_values_at f r (i + 1) (Some next) (drop (i + 1) xs) ≡ fold_values_at f r i (Some a) (drop i xs)
  fold_next count from to i a xs d next w n h k e =
      let u = w.whole in
      within_step i (Some a) xs d next (omega (arith, k, u, n)) (w.inside i (omega (arith, h)) k) e

  pub scan_first : (count from to : ℕ) (s : Option ℤ) (xs : List ℤ) (d y : ℤ) (next : ℤ) → AreWithin r count from to
      → count ≡ length xs → from ≢ to → next ≡ put_on f s (get_or xs from d) → y ≡ next
      → take (from + 1) (set xs from y) ++ scan_values_at f r (from + 1) (Some next) (drop (from + 1) (set xs from y))
      ≡ scan_values_at f r 0 s xs
  scan_first count from to s xs d y next w n h e g =
      let o = w.ordered in let u = w.whole in
      let k : from < to = omega (arith, o, h) in
      scan_within from s xs d y next (omega (arith, k, u, n)) (w.inside from (omega arith) k) e g
      ∙ scan_front count from to s xs w n

  pub scan_next : (count from to i : ℕ) (a : ℤ) (xs : List ℤ) (d y : ℤ) (next : ℤ) → AreWithin r count from to
      → count ≡ length xs → from + 1 ≤ i → i < to → next ≡ f a (get_or xs i d) → y ≡ next
      → take (i + 1) (set xs i y) ++ scan_values_at f r (i + 1) (Some next) (drop (i + 1) (set xs i y))
      ≡ take i xs ++ scan_values_at f r i (Some a) (drop i xs)
  scan_next count from to i a xs d y next w n h k e g =
      let u = w.whole in
      scan_within i (Some a) xs d y next (omega (arith, k, u, n)) (w.inside i (omega (arith, h)) k) e g

  -- what the loop of a scan keeps, at its begin and after one more item
  pub begun : (count from to : ℕ) (s : Option ℤ) (xs : List ℤ) (d y : ℤ) (next : ℤ) → AreWithin r count from to
      → count ≡ length xs → from ≢ to → next ≡ put_on f s (get_or xs from d) → y ≡ next
      → (length (set xs from y) ≡ length xs)
      × (fold_values_at f r (from + 1) (Some next) (drop (from + 1) (set xs from y)) ≡ fold_values_at f r 0 s xs)
      × (take (from + 1) (set xs from y) ++ scan_values_at f r (from + 1) (Some next) (drop (from + 1) (set xs from y))
      ≡ scan_values_at f r 0 s xs)
  begun count from to s xs d y next w n h e g = (
    length-set xs from y,
    ap (fold_values_at f r (from + 1) (Some next)) (drop-set-lt (from + 1) xs from y (omega arith))
        ∙ fold_first count from to s xs d next w n h e,
    scan_first count from to s xs d y next w n h e g,
  )

  pub gone_on : (count from to i : ℕ) (a : ℤ) (all xs : List ℤ) (d y : ℤ) (next : ℤ) (folded : Option ℤ)
      (scanned : List ℤ) → AreWithin r count from to → count ≡ length all → from + 1 ≤ i → i < to
      → next ≡ f a (get_or xs i d) → y ≡ next
      → length xs ≡ length all → fold_values_at f r i (Some a) (drop i xs) ≡ folded
      → take i xs ++ scan_values_at f r i (Some a) (drop i xs) ≡ scanned
      → (length (set xs i y) ≡ length all)
      × (fold_values_at f r (i + 1) (Some next) (drop (i + 1) (set xs i y)) ≡ folded)
      × (take (i + 1) (set xs i y) ++ scan_values_at f r (i + 1) (Some next) (drop (i + 1) (set xs i y)) ≡ scanned)
  gone_on count from to i a all xs d y next folded scanned w n h k e g l o z =
      let m : count ≡ length xs = n ∙ sym l in (
        length-set xs i y ∙ l,
        ap (fold_values_at f r (i + 1) (Some next)) (drop-set-lt (i + 1) xs i y (omega arith))
            ∙ fold_next count from to i a xs d next w m h k e ∙ o,
        scan_next count from to i a xs d y next w m h k e g ∙ z,
      )
