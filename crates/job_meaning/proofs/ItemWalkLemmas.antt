-- The walk of one thread, item by item, gives what the stages give one after the other.
use Rattle.std.proofs.Common.{◌≡◌, ℕ, zero, suc, ◌-◌, ◌==◌, Bool, true, false, nat_lt, if◌then◌else◌, is_some, List, []}
use Rattle.std.proofs.Common.{◌∷◌, ◌++◌, length, take, None, refl, sym, ap, ◌∙◌, arith}
use Rattle.std.specs.Prelude.{◌||◌}
use Rattle.std.specs.Option.{option_or}
use Rattle.std.proofs.lemmas.Bool.{eqb-true}
use Rattle.lambda_values.specs.Earlier.{Numbers}
use Rattle.lambda_values.specs.Term.{Truth}
use Rattle.lambda_values.specs.declared.item.Item.{Item}
use Rattle.trace.specs.declared.item.End.{End}
use Rattle.trace.specs.declared.item.End.TheVariants as end
use Rattle.trace.specs.Stages.{of_item, through}
use Rattle.trace.specs.Stops.{stop_at}
use Rattle.trace.specs.Trace.{Trace, trace, nothing, append}
use Rattle.trace.proofs.JoinLemmas.{each_append}
use Rattle.slice_ops.specs.Slices.{AbstractSlice, limit, skip, take_while, drop_while, front_ends, limited, skipped}
use Rattle.slice_ops.specs.Slices.{taken, dropped, sliced}
use Rattle.slice_ops.proofs.JoinLemmas.{at_least, is_above, limit_stays, limited_few}
use Rattle.slice_ops.proofs.RestLemmas.{closed, then_closed, limit_goes_on, skip_goes_on, take_closes, take_goes_on}
use Rattle.slice_ops.proofs.RestLemmas.{drop_opens, drop_goes_on}
use Rattle.sort_ops.specs.Firsts.{distinct_walk}
use Rattle.sort_ops.specs.Parts.{values_in}
use Rattle.sort_ops.proofs.FirstLemmas.{distinct_cut}
use Rattle.find_ops.specs.Finds.{Find, decision_of}
use Rattle.find_ops.proofs.DecisionLemmas.{decision_joined}
use Rattle.job_language.specs.Jobs.{AbstractJobStage, item, slice, prefix, sorted, distinct}
use Rattle.job_meaning.specs.ItemWalks.{HasNoBarrier, alone, decided_in, is_over, slice_after, stages_after, walked}
use Rattle.job_meaning.specs.Walks.{after_stages}

-- ---- one slice over a walk and what comes after it

limit_cut : (k : ℕ) (a later : Trace) (b : Bool) → nat_lt (length a.items) k ≡ b
    → limited k (append a later) ≡ append (limited k a) (limited (k - length a.items) later)
limit_cut k a later true h =
    limit_goes_on k a later (is_above (length a.items) k h)
    ∙ sym (ap (λ (t : Trace). append t (limited (k - length a.items) later)) (limited_few k a h))
limit_cut k a later false h =
    let many = at_least (length a.items) k h in
    let none_left : k - length a.items ≡ 0 = omega arith in
    limit_stays k a.items a.ending later many ∙ sym (then_closed (limited k a) later)
    ∙ ap (λ (j : ℕ). append (limited k a) (limited j later)) (sym none_left)

module _ (p : Truth) (n : ℕ) (env : Numbers) (a later : Trace) where
  take_cut : (b : Bool) → is_some (stop_at (front_ends p n env) a.items) ≡ b
      → taken p n env (append a later) ≡ append (taken p n env a)
      (sliced (if b then limit 0 else take_while p) n env later)
  take_cut true h = take_closes p n env a later h
  take_cut false h = take_goes_on p n env a later h

  drop_cut : (b : Bool) → nat_lt (length (dropped p n env a).items) 1 ≡ b
      → dropped p n env (append a later)
      ≡ append (dropped p n env a) (sliced (if b then drop_while p else skip 0) n env later)
  drop_cut true h = drop_goes_on p n env a (dropped p n env a) later refl
      (is_above (length (dropped p n env a).items) 1 h)
  drop_cut false h = drop_opens p n env a (dropped p n env a) later refl
      (at_least (length (dropped p n env a).items) 1 h)

slice_cut : (d : AbstractSlice) (n : ℕ) (env : Numbers) (a later : Trace)
    → sliced d n env (append a later) ≡ append (sliced d n env a) (sliced (slice_after d n env a) n env later)
slice_cut (limit k) n env a later = limit_cut k a later (nat_lt (length a.items) k) refl
slice_cut (skip k) n env a later = skip_goes_on k a later
slice_cut (take_while p) n env a later = take_cut p n env a later (is_some (stop_at (front_ends p n env) a.items)) refl
slice_cut (drop_while p) n env a later = drop_cut p n env a later (nat_lt (length (dropped p n env a).items) 1) refl

-- ---- all stages over a walk and what comes after it

stages_cut : (n : ℕ) (gs : List AbstractJobStage) (env : Numbers) (a later : Trace) → HasNoBarrier gs
    → after_stages n gs env (append a later)
    ≡ append (after_stages n gs env a) (after_stages n (stages_after n gs env a) env later)
stages_cut n [] env a later good = refl
stages_cut n (item g ∷ gs) env a later good =
    ap (after_stages (suc n) gs env) (each_append (of_item n g env) a later)
    ∙ stages_cut (suc n) gs env (through n g env a) (through n g env later) good
stages_cut n (slice d ∷ gs) env a later good =
    ap (after_stages (suc n) gs env) (slice_cut d n env a later)
    ∙ stages_cut (suc n) gs env (sliced d n env a) (sliced (slice_after d n env a) n env later) good
stages_cut n (prefix r f ∷ gs) env a later good = absurd good
stages_cut n (sorted ∷ gs) env a later good = absurd good
stages_cut n (distinct seen ∷ gs) env a later good =
    ap (after_stages (suc n) gs env) (distinct_cut seen a later)
    ∙ stages_cut (suc n) gs env (distinct_walk seen a) (distinct_walk (values_in a.items ++ seen) later) good

good_after : (n : ℕ) (gs : List AbstractJobStage) (env : Numbers) (t : Trace) → HasNoBarrier gs
    → HasNoBarrier (stages_after n gs env t)
good_after n [] env t good = tt
good_after n (item g ∷ gs) env t good = good_after (suc n) gs env (through n g env t) good
good_after n (slice d ∷ gs) env t good = good_after (suc n) gs env (sliced d n env t) good
good_after n (prefix r f ∷ gs) env t good = absurd good
good_after n (sorted ∷ gs) env t good = absurd good
good_after n (distinct seen ∷ gs) env t good = good_after (suc n) gs env (distinct_walk seen t) good

-- ---- after a slice has ended

none_taken : (k : ℕ) (b : Bool) → (if b then nothing else trace (take k []) end.Done) ≡ nothing
none_taken k true = refl
none_taken zero false = refl
none_taken (suc k) false = refl

none_dropped : (k : ℕ) → skipped k nothing ≡ nothing
none_dropped zero = refl
none_dropped (suc k) = refl

slice_of_nothing : (d : AbstractSlice) (n : ℕ) (env : Numbers) → sliced d n env nothing ≡ nothing
slice_of_nothing (limit k) n env = none_taken k (nat_lt 0 k)
slice_of_nothing (skip k) n env = none_dropped k
slice_of_nothing (take_while p) n env = refl
slice_of_nothing (drop_while p) n env = refl

stages_of_nothing : (n : ℕ) (gs : List AbstractJobStage) (env : Numbers) → HasNoBarrier gs
    → after_stages n gs env nothing ≡ nothing
stages_of_nothing n [] env good = refl
stages_of_nothing n (item g ∷ gs) env good = stages_of_nothing (suc n) gs env good
stages_of_nothing n (slice d ∷ gs) env good =
    ap (after_stages (suc n) gs env) (slice_of_nothing d n env) ∙ stages_of_nothing (suc n) gs env good
stages_of_nothing n (prefix r f ∷ gs) env good = absurd good
stages_of_nothing n (sorted ∷ gs) env good = absurd good
stages_of_nothing n (distinct seen ∷ gs) env good = stages_of_nothing (suc n) gs env good

limit_over : (k n : ℕ) (gs : List AbstractJobStage) (env : Numbers) (t : Trace) → HasNoBarrier gs
    → (is_over gs ≡ true → after_stages n gs env (limited k t) ≡ nothing)
    → (b : Bool) → (k == 0) ≡ b → (b || is_over gs) ≡ true → after_stages n gs env (limited k t) ≡ nothing
limit_over k n gs env t good later true h over =
    ap (λ (j : ℕ). after_stages n gs env (limited j t)) (eqb-true k 0 h) ∙ ap (after_stages n gs env) (closed t)
    ∙ stages_of_nothing n gs env good
limit_over k n gs env t good later false h over = later over

pub over_nothing : (n : ℕ) (gs : List AbstractJobStage) (env : Numbers) (t : Trace) → HasNoBarrier gs
    → is_over gs ≡ true → after_stages n gs env t ≡ nothing
over_nothing n [] env t good over = absurd (let e : false ≡ true = over in cc)
over_nothing n (item g ∷ gs) env t good over = over_nothing (suc n) gs env (through n g env t) good over
over_nothing n (slice (limit k) ∷ gs) env t good over =
    limit_over k (suc n) gs env t good (over_nothing (suc n) gs env (limited k t) good) (k == 0) refl over
over_nothing n (slice (skip k) ∷ gs) env t good over = over_nothing (suc n) gs env (skipped k t) good over
over_nothing n (slice (take_while p) ∷ gs) env t good over = over_nothing (suc n) gs env (taken p n env t) good over
over_nothing n (slice (drop_while p) ∷ gs) env t good over = over_nothing (suc n) gs env (dropped p n env t) good over
over_nothing n (prefix r f ∷ gs) env t good over = absurd good
over_nothing n (sorted ∷ gs) env t good over = absurd good
over_nothing n (distinct seen ∷ gs) env t good over = over_nothing (suc n) gs env (distinct_walk seen t) good over

-- ---- the walk

walk_step : (n : ℕ) (gs : List AbstractJobStage) (env : Numbers) (x : Item) (xs : List Item) (e : End) (later : Trace)
    → HasNoBarrier gs → after_stages n (stages_after n gs env (alone x)) env (trace xs e) ≡ later
    → (b : Bool) → is_over gs ≡ b → after_stages n gs env (trace (x ∷ xs) e)
    ≡ (if b then nothing else append (after_stages n gs env (alone x)) later)
walk_step n gs env x xs e later good is true h = over_nothing n gs env (trace (x ∷ xs) e) good h
walk_step n gs env x xs e later good is false h =
    stages_cut n gs env (alone x) (trace xs e) good ∙ ap (append (after_stages n gs env (alone x))) is

pub by_items : (n : ℕ) (gs : List AbstractJobStage) (env : Numbers) (xs : List Item) (e : End) → HasNoBarrier gs
    → after_stages n gs env (trace xs e) ≡ walked n gs env xs e
by_items n gs env [] e good = refl
by_items n gs env (x ∷ xs) e good =
    let next = stages_after n gs env (alone x) in
    walk_step n gs env x xs e (walked n next env xs e) good
    (by_items n next env xs e (good_after n gs env (alone x) good)) (is_over gs) refl

pub decided_by_items : (d : Find) (m n : ℕ) (gs : List AbstractJobStage) (env : Numbers) (xs : List Item) (e : End)
    → HasNoBarrier gs → decision_of d m env (after_stages n gs env (trace xs e)) ≡ decided_in d m n gs env xs e
decided_by_items d m n gs env [] e good = refl
decided_by_items d m n gs env (x ∷ xs) e good =
    let next = stages_after n gs env (alone x) in
    let first = after_stages n gs env (alone x) in
    let rest = after_stages n next env (trace xs e) in
    ap (decision_of d m env) (walk_step n gs env x xs e rest good refl (is_over gs) refl)
    ∙ by_over first rest (is_over gs)
    ∙ ap (λ o. if is_over gs then None else option_or (decision_of d m env first) o)
    (decided_by_items d m n next env xs e (good_after n gs env (alone x) good))
  where
    by_over : (first rest : Trace) (b : Bool)
        → decision_of d m env (if b then nothing else append first rest)
        ≡ (if b then None else option_or (decision_of d m env first) (decision_of d m env rest))
    by_over first rest true = refl
    by_over first rest false = decision_joined d m env first rest
