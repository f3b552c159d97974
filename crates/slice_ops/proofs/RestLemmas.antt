-- What slices make of a walk and what comes after it.
use Rattle.std.proofs.Common.{◌≡◌, ℕ, ◌-◌, ◌<◌, ◌≤◌, Bool, true, false, nat_lt, is_some, List, [], ◌∷◌, ◌++◌, length}
use Rattle.std.proofs.Common.{length-append, take, drop, Option, Some, None, refl, sym, ap, ◌∙◌, arith}
use Rattle.std.proofs.Math.Seq.{drop-append-add}
use Rattle.std.proofs.lemmas.List.{drop_all, drop-append-le, length-drop}
use Rattle.lambda_values.specs.Earlier.{Numbers}
use Rattle.lambda_values.specs.Term.{Truth}
use Rattle.lambda_values.specs.declared.item.Item.{Item}
use Rattle.trace.specs.declared.item.End.{End}
use Rattle.trace.specs.declared.item.End.TheVariants as end
use Rattle.trace.specs.Stops.{shift, stop_at, kept_before, kept_from}
use Rattle.trace.specs.Trace.{Trace, trace, nothing, then_on, append}
use Rattle.trace.proofs.CutLemmas.{take_past, drop_past}
use Rattle.trace.proofs.JoinLemmas.{append_nothing, append_faulted}
use Rattle.trace.proofs.StopLemmas.{stop_within}
use Rattle.slice_ops.specs.Slices.{limited, skipped, taken, dropped, front_ends}
use Rattle.slice_ops.proofs.JoinLemmas.{at_least, is_above, is_below, limited_enough, limited_few, front_stays}
use Rattle.slice_ops.proofs.JoinLemmas.{still_stops, after_front, fronts_join, not_some, the_some}

take_none : (xs : List Item) → take 0 xs ≡ []
take_none [] = refl
take_none (x ∷ xs) = refl

drop_none : (xs : List Item) → drop 0 xs ≡ xs
drop_none [] = refl
drop_none (x ∷ xs) = refl

-- after the last item that passes nothing comes, not even a fault
pub closed : (t : Trace) → limited 0 t ≡ nothing
closed t = limited_enough 0 t (omega arith) ∙ ap (λ (xs : List Item). trace xs end.Done) (take_none t.items)

pub then_closed : (b later : Trace) → append b (limited 0 later) ≡ b
then_closed b later = ap (append b) (closed later) ∙ append_nothing b

-- ---- limit

module _ (k : ℕ) (xs : List Item) (few : length xs < k) (later : Trace) where
  limit_over : (b : Bool) → nat_lt (length later.items) (k - length xs) ≡ b
      → limited k (trace (xs ++ later.items) later.ending) ≡ then_on xs end.Done (limited (k - length xs) later)
  limit_over true h =
      let below : length later.items < k - length xs = is_above (length later.items) (k - length xs) h in
      let l = length-append xs later.items in
      limited_few k (trace (xs ++ later.items) later.ending) (is_below (length (xs ++ later.items)) k (omega arith))
      ∙ sym (ap (then_on xs end.Done) (limited_few (k - length xs) later h))
  limit_over false h =
      let many : k - length xs ≤ length later.items = at_least (length later.items) (k - length xs) h in
      let l = length-append xs later.items in
      limited_enough k (trace (xs ++ later.items) later.ending) (omega arith)
      ∙ ap (λ (ys : List Item). trace ys end.Done) (take_past xs later.items k (omega arith))
      ∙ sym (ap (then_on xs end.Done) (limited_enough (k - length xs) later many))

  limit_on : (e : End) → limited k (then_on xs e later) ≡ then_on xs e (limited (k - length xs) later)
  limit_on end.Done = limit_over (nat_lt (length later.items) (k - length xs)) refl
  limit_on (end.Fault f) = limited_few k (trace xs (end.Fault f)) (is_below (length xs) k few)

pub limit_goes_on : (k : ℕ) (a later : Trace) → length a.items < k
    → limited k (append a later) ≡ append a (limited (k - length a.items) later)
limit_goes_on k a later h = limit_on k a.items h later a.ending

-- ---- skip

module _ (k : ℕ) (xs ys : List Item) where
  drop_by : (b : Bool) → nat_lt (length xs) k ≡ b → drop k (xs ++ ys) ≡ drop k xs ++ drop (k - length xs) ys
  drop_by true h =
      let past : length xs < k = is_above (length xs) k h in
      drop_past xs ys k (omega arith) ∙ ap (λ (zs : List Item). zs ++ drop (k - length xs) ys)
      (sym (drop_all k xs (omega arith)))
  drop_by false h =
      let within : k ≤ length xs = at_least (length xs) k h in
      let none_left : k - length xs ≡ 0 = omega arith in
      drop-append-le k xs ys within ∙ ap (λ (zs : List Item). drop k xs ++ zs)
      (sym (ap (λ n. drop n ys) none_left ∙ drop_none ys))

  drop_over : drop k (xs ++ ys) ≡ drop k xs ++ drop (k - length xs) ys
  drop_over = drop_by (nat_lt (length xs) k) refl

skip_on : (k : ℕ) (xs : List Item) (e : End) (later : Trace)
    → skipped k (then_on xs e later) ≡ then_on (drop k xs) e (skipped (k - length xs) later)
skip_on k xs end.Done later = ap (λ (ys : List Item). trace ys later.ending) (drop_over k xs later.items)
skip_on k xs (end.Fault f) later = refl

-- the number of items that are still dropped
pub skip_goes_on : (k : ℕ) (a later : Trace)
    → skipped k (append a later) ≡ append (skipped k a) (skipped (k - length a.items) later)
skip_goes_on k a later = skip_on k a.items a.ending later

skip_nothing : (xs : List Item) (e : End) (later : Trace) → then_on xs e (skipped 0 later) ≡ then_on xs e later
skip_nothing xs end.Done later = ap (λ (ys : List Item). trace (xs ++ ys) later.ending) (drop_none later.items)
skip_nothing xs (end.Fault f) later = refl

-- ---- takeWhile and dropWhile

module _ (p : Truth) (n : ℕ) (env : Numbers) where
  pub take_closes : (a later : Trace) → is_some (stop_at (front_ends p n env) a.items) ≡ true
      → taken p n env (append a later) ≡ append (taken p n env a) (limited 0 later)
  take_closes a later h =
      let g = front_ends p n env in
      let s = the_some (stop_at g a.items) h in
      front_stays g a.items a.ending later s.0 s.1 ∙ sym (then_closed (taken p n env a) later)

  pub take_goes_on : (a later : Trace) → is_some (stop_at (front_ends p n env) a.items) ≡ false
      → taken p n env (append a later) ≡ append (taken p n env a) (taken p n env later)
  take_goes_on a later h = by_end a.ending refl
      ∙ sym (ap (λ (t : Trace). append t (taken p n env later)) (ap (λ o. kept_before o a) passes))
    where
      passes : stop_at (front_ends p n env) a.items ≡ None
      passes = not_some (stop_at (front_ends p n env) a.items) h

      by_end : (e : End) → a.ending ≡ e → taken p n env (append a later) ≡ append a (taken p n env later)
      by_end end.Done k = sym (fronts_join n env a later p k passes)
      by_end (end.Fault f) k = ap (taken p n env) (append_faulted a later f k) ∙ ap (λ o. kept_before o a) passes
          ∙ sym (append_faulted a (taken p n env later) f k)

module _ (g : Item → Option End) where
  -- the items from a stop on
  from_stop : (xs : List Item) (e : End) (later : Trace) (q : ℕ) → q ≤ length xs
      → trace (drop q (then_on xs e later).items) (then_on xs e later).ending ≡ then_on (drop q xs) e later
  from_stop xs end.Done later q h = ap (λ (ys : List Item). trace ys later.ending) (drop-append-le q xs later.items h)
  from_stop xs (end.Fault f) later q h = refl

  after_stop : (xs : List Item) (e : End) (later : Trace) (q : ℕ × End) → stop_at g xs ≡ Some q
      → kept_from (stop_at g (then_on xs e later).items) (then_on xs e later) ≡ kept_from (Some q) (then_on xs e later)
  after_stop xs e later q h = ap (λ o. kept_from o (then_on xs e later)) (still_stops g xs e later q h)

  opened_on : (xs : List Item) (e : End) (later : Trace) (o : Option (ℕ × End)) → stop_at g xs ≡ o
      → 1 ≤ length (kept_from o (trace xs e)).items
      → kept_from (stop_at g (then_on xs e later).items) (then_on xs e later)
      ≡ append (kept_from o (trace xs e)) (skipped 0 later)
  opened_on xs e later None is h = absurd (omega arith)
  opened_on xs e later (Some (q, end.Done)) is h =
      let at = stop_within g xs q end.Done is in
      after_stop xs e later (q, end.Done) is ∙ from_stop xs e later q (omega arith)
      ∙ sym (skip_nothing (drop q xs) e later)
  opened_on xs e later (Some (q, end.Fault f)) is h = absurd (omega arith)

  -- the stop is one of the items to come
  from_later : (xs : List Item) (later : Trace) (o : Option (ℕ × End))
      → kept_from (shift (length xs) o) (trace (xs ++ later.items) later.ending) ≡ kept_from o later
  from_later xs later None = refl
  from_later xs later (Some (q, end.Done)) =
      ap (λ (ys : List Item). trace ys later.ending) (drop-append-add xs later.items q)
  from_later xs later (Some (q, end.Fault f)) = refl

  unopened_on : (xs : List Item) (e : End) (later : Trace) (o : Option (ℕ × End)) → stop_at g xs ≡ o
      → length (kept_from o (trace xs e)).items < 1
      → kept_from (stop_at g (then_on xs e later).items) (then_on xs e later)
      ≡ append (kept_from o (trace xs e)) (kept_from (stop_at g later.items) later)
  unopened_on xs end.Done later None is h =
      ap (λ o. kept_from o (trace (xs ++ later.items) later.ending)) (after_front g xs later.items is)
      ∙ from_later xs later (stop_at g later.items)
  unopened_on xs (end.Fault f) later None is h = ap (λ o. kept_from o (trace xs (end.Fault f))) is
  unopened_on xs e later (Some (q, end.Done)) is h =
      let at = stop_within g xs q end.Done is in
      let l = length-drop q xs in
      absurd (omega arith)
  unopened_on xs e later (Some (q, end.Fault f)) is h = after_stop xs e later (q, end.Fault f) is

module _ (p : Truth) (n : ℕ) (env : Numbers) where
  -- an item that is left opens the rest
  pub drop_opens : (a new later : Trace) → new ≡ dropped p n env a → 1 ≤ length new.items
      → dropped p n env (append a later) ≡ append new (skipped 0 later)
  drop_opens a new later is h =
      let size = ap (λ (t : Trace). length t.items) is in
      opened_on (front_ends p n env) a.items a.ending later (stop_at (front_ends p n env) a.items) refl (omega arith)
      ∙ ap (λ (t : Trace). append t (skipped 0 later)) (sym is)

  pub drop_goes_on : (a new later : Trace) → new ≡ dropped p n env a → length new.items < 1
      → dropped p n env (append a later) ≡ append new (dropped p n env later)
  drop_goes_on a new later is h =
      let size = ap (λ (t : Trace). length t.items) is in
      unopened_on (front_ends p n env) a.items a.ending later (stop_at (front_ends p n env) a.items) refl (omega arith)
      ∙ ap (λ (t : Trace). append t (dropped p n env later)) (sym is)
