-- What slices make of items after which a walk goes on, as a window of these items.
use Rattle.std.proofs.Common.{◌≡◌, ℕ, ◌-◌, min, is_some, List, [], ◌∷◌, length, take, drop, Some, None, refl, sym, ap}
use Rattle.std.proofs.Common.{◌∙◌, arith}
use Rattle.std.proofs.lemmas.List.{drop_all, length-drop, take_all}
use mathlib.Core.Logic.{dite}
use native.Mathlib.Decide.{dec_le}
use Rattle.lambda_values.specs.Earlier.{Numbers}
use Rattle.lambda_values.specs.Term.{Truth}
use Rattle.lambda_values.specs.declared.item.Item.{Item}
use Rattle.trace.specs.declared.item.Fault.{Fault}
use Rattle.trace.specs.declared.item.End.{End}
use Rattle.trace.specs.declared.item.End.TheVariants as end
use Rattle.trace.specs.Stops.{stop_at, kept_before, kept_from}
use Rattle.trace.specs.Trace.{Trace, trace, append}
use Rattle.trace.proofs.StopLemmas.{stop_within}
use Rattle.slice_ops.specs.Slices.{limited, skipped, taken, dropped, front_ends}
use Rattle.slice_ops.proofs.JoinLemmas.{limited_enough, limit_stays}
use Rattle.slice_ops.proofs.RestLemmas.{limit_goes_on, skip_goes_on, then_closed, take_closes, take_goes_on, drop_opens}
use Rattle.slice_ops.proofs.RestLemmas.{drop_goes_on}

abbrev pub window : ℕ → ℕ → List Item → List Item
window from to xs = take (to - from) (drop from xs)

whole_drop : (xs : List Item) → drop 0 xs ≡ xs
whole_drop [] = refl
whole_drop (x ∷ xs) = refl

no_take : (xs : List Item) → take 0 xs ≡ []
no_take [] = refl
no_take (x ∷ xs) = refl

pub front_window : (m : ℕ) (xs : List Item) → window 0 m xs ≡ take m xs
front_window m xs = let z : m - 0 ≡ m = omega arith in (λ i. take (z i) (whole_drop xs i))

pub whole_window : (m : ℕ) (xs : List Item) → m ≡ length xs → window 0 m xs ≡ xs
whole_window m xs h = front_window m xs ∙ take_all m xs (omega arith)

pub back_window : (m n : ℕ) (xs : List Item) → n ≡ length xs → window m n xs ≡ drop m xs
back_window m n xs h = let l = length-drop m xs in take_all (n - m) (drop m xs) (omega arith)

pub empty_window : (m : ℕ) (xs : List Item) → window m m xs ≡ []
empty_window m xs = let z : m - m ≡ 0 = omega arith in ap (λ n. take n (drop m xs)) z ∙ no_take (drop m xs)

module _ (xs : List Item) (later : Trace) where
  abbrev whole : Trace
  whole = trace xs end.Done

  -- a window of the items, and how the walk ends after it
  abbrev seen : List Item → End → Trace → Trace
  seen ys e u = append (trace ys e) u

  as_window : (ys zs : List Item) (e : End) (u t : Trace) → zs ≡ ys → t ≡ seen ys e u → t ≡ seen zs e u
  as_window ys zs e u t same is = is ∙ ap (λ (vs : List Item). seen vs e u) (sym same)

  pub limit_cut : (k m left : ℕ) → m ≡ min k (length xs) → left ≡ k - length xs
      → limited k (append whole later) ≡ append (trace (window 0 m xs) end.Done) (limited left later)
  limit_cut k m left h l = dite (dec_le k (length xs))
      (λ many.
      let here : m ≡ k = omega (arith, many, h) in
      let none_left : left ≡ 0 = omega (arith, many, l) in
      as_window (take k xs) (window 0 m xs) end.Done (limited left later) (limited k (append whole later))
      (front_window m xs ∙ ap (λ n. take n xs) here)
      (limit_stays k xs end.Done later many ∙ limited_enough k whole many
      ∙ sym (then_closed (trace (take k xs) end.Done) later)
      ∙ ap (λ n. append (trace (take k xs) end.Done) (limited n later)) (sym none_left)))
      (λ few.
      let all : m ≡ length xs = omega (arith, few, h) in
      as_window xs (window 0 m xs) end.Done (limited left later) (limited k (append whole later))
      (whole_window m xs all)
      (limit_goes_on k whole later (omega (arith, few)) ∙ ap (λ n. append whole (limited n later)) (sym l)))

  pub skip_cut : (k m n left : ℕ) → m ≡ min k (length xs) → n ≡ length xs → left ≡ k - length xs
      → skipped k (append whole later) ≡ append (trace (window m n xs) end.Done) (skipped left later)
  skip_cut k m n left h size l =
      as_window (drop k xs) (window m n xs) end.Done (skipped left later) (skipped k (append whole later))
      (back_window m n xs size ∙ same)
      (skip_goes_on k whole later ∙ ap (λ j. append (trace (drop k xs) end.Done) (skipped j later)) (sym l))
    where
      same : drop m xs ≡ drop k xs
      same = dite (dec_le k (length xs))
          (λ within. let here : m ≡ k = omega (arith, within, h) in ap (λ j. drop j xs) here)
          (λ past. drop_all m xs (omega (arith, past, h)) ∙ sym (drop_all k xs (omega (arith, past))))

  module _ (p : Truth) (n : ℕ) (env : Numbers) where
    pub take_cut : (front : ℕ) (e : End) → stop_at (front_ends p n env) xs ≡ Some (front, e)
        → taken p n env (append whole later) ≡ append (trace (window 0 front xs) e) (limited 0 later)
    take_cut front e is =
        as_window (take front xs) (window 0 front xs) e (limited 0 later) (taken p n env (append whole later))
        (front_window front xs)
        (take_closes p n env whole later (ap is_some is) ∙ ap (λ o. append (kept_before o whole) (limited 0 later)) is)

    pub take_whole : (m : ℕ) → m ≡ length xs → stop_at (front_ends p n env) xs ≡ None
        → taken p n env (append whole later) ≡ append (trace (window 0 m xs) end.Done) (taken p n env later)
    take_whole m size is =
        as_window xs (window 0 m xs) end.Done (taken p n env later) (taken p n env (append whole later))
        (whole_window m xs size)
        (take_goes_on p n env whole later (ap is_some is)
        ∙ ap (λ o. append (kept_before o whole) (taken p n env later)) is)

    pub drop_cut : (front m : ℕ) → m ≡ length xs → stop_at (front_ends p n env) xs ≡ Some (front, end.Done)
        → dropped p n env (append whole later) ≡ append (trace (window front m xs) end.Done) (skipped 0 later)
    drop_cut front m size is =
        let few = stop_within (front_ends p n env) xs front end.Done is in
        let l = length-drop front xs in
        as_window (drop front xs) (window front m xs) end.Done (skipped 0 later) (dropped p n env (append whole later))
        (back_window front m xs size)
        (drop_opens p n env whole (trace (drop front xs) end.Done) later (sym (ap (λ o. kept_from o whole) is))
        (omega (arith, few, l)))

    pub drop_faulted : (front : ℕ) (f : Fault) → stop_at (front_ends p n env) xs ≡ Some (front, end.Fault f)
        → dropped p n env (append whole later)
        ≡ append (trace (window front front xs) (end.Fault f)) (dropped p n env later)
    drop_faulted front f is =
        as_window [] (window front front xs) (end.Fault f) (dropped p n env later)
        (dropped p n env (append whole later)) (empty_window front xs)
        (drop_goes_on p n env whole (trace [] (end.Fault f)) later (sym (ap (λ o. kept_from o whole) is)) (omega arith))

    pub drop_whole : (m : ℕ) → stop_at (front_ends p n env) xs ≡ None
        → dropped p n env (append whole later) ≡ append (trace (window m m xs) end.Done) (dropped p n env later)
    drop_whole m is =
        as_window [] (window m m xs) end.Done (dropped p n env later) (dropped p n env (append whole later))
        (empty_window m xs)
        (drop_goes_on p n env whole (trace [] end.Done) later (sym (ap (λ o. kept_from o whole) is)) (omega arith))
