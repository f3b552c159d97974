-- What a leg makes of the positions that a search before it leaves.
use Rattle.std.proofs.Common.{◌≡◌, Bool, true, if◌then◌else◌, ℕ, zero, suc, ◌+◌, List, [], length, drop, refl, sym, ap}
use Rattle.std.proofs.Common.{◌∙◌}
use Rattle.lambda_values.specs.Earlier.{Numbers}
use Rattle.lambda_values.specs.Term.{Truth, opposite, row}
use Rattle.lambda_values.specs.declared.item.Item.{Item}
use Rattle.trace.specs.Cover.{placed}
use Rattle.trace.specs.declared.item.End.{End}
use Rattle.trace.specs.declared.item.End.TheVariants as end
use Rattle.trace.specs.Stages.{map, filter, pipe, stages_of, through}
use Rattle.trace.specs.Trace.{Trace, trace, nothing}
use Rattle.trace.proofs.JoinLemmas.{pipe_ended}
use Rattle.batch_eval.specs.Faultless.{AreFaultless}
use Rattle.slice_ops.specs.Slices.{dropped, skipped, taken}
use Rattle.prefix_walks.specs.declared.window.Window.{Window}
use Rattle.job_language.specs.Jobs.{AbstractPlainSource}
use Rattle.job_meaning.specs.Walks.{source_walk}
use Rattle.job_routes.specs.declared.leg.Leg.{Leg}
use Rattle.job_routes.specs.declared.numbered_stages.NumberedStages.{NumberedStages}
use Rattle.job_routes.specs.declared.outcome.Outcome.{Outcome}
use Rattle.job_routes.specs.declared.route.PlaceSide.{PlaceSide}
use Rattle.job_routes.specs.declared.route.PlaceSide.TheVariants as side
use Rattle.job_routes.specs.Legs.{given_answer, left_by_search, leg_in, leg_outcome, number_after, searched}
use Rattle.job_routes.specs.Legs.{walk_through, windowed}
use Rattle.job_routes.specs.Searches.{Finds, IsCopy, failing}
use Rattle.job_routes.proofs.PlaceOfItem.{of_window}
use Rattle.job_routes.proofs.SearchLemmas.{drop_left, finds_place, place_in, skip_left, take_calm, take_left}
use Rattle.job_routes.proofs.SearchLemmas.{without_item, without_stop}

-- what is left by a search whose stages are copies
pub search_left : (d : PlaceSide) (w : Window) (s copy : NumberedStages) (does : Numbers → Trace → Trace) (search : Leg)
    → IsCopy s copy → Finds w copy does search → (env : Numbers) (t : Trace)
    → searched d (leg_in search) env t
    ≡ left_by_search d w.from (place_in (does env (walk_through s env (windowed w.from w.to t))))
    (windowed w.from w.to t)
search_left d w s copy does search copied finds env t =
    let u : Trace = windowed w.from w.to t in
    ap (λ (b : Bool). if b then nothing
    else left_by_search d search.window.from (given_answer (leg_outcome (leg_in search) env t))
    (windowed search.window.from search.window.to t)) finds.ends
    ∙ (λ i. left_by_search d (finds.window i).from (given_answer (finds.outcome env t i))
    (windowed (finds.window i).from (finds.window i).to t))
    ∙ ap (λ (o : Outcome). left_by_search d w.from (given_answer o) u)
    (finds_place (suc (number_after copy)) env (does env (walk_through copy env u)))
    ∙ (λ i. left_by_search d w.from (place_in (does env (pipe (copied.first i) (copied.stages i) env u))) u)

-- the number of the slice
same_number : (s copy : NumberedStages) → IsCopy s copy → number_after copy ≡ number_after s
same_number s copy copied = λ i. copied.first i + length (copied.stages i)

pub test_left : (d : PlaceSide) (w : Window) (s copy : NumberedStages) (p q : Truth) (search : Leg) → IsCopy s copy
    → q ≡ p
    → Finds w copy (failing copy q) search → (env : Numbers) (t : Trace) → searched d (leg_in search) env t
    ≡ left_by_search d w.from (place_in (failing s p env (walk_through s env (windowed w.from w.to t))))
    (windowed w.from w.to t)
test_left d w s copy p q search copied same finds env t =
    let u : Trace = windowed w.from w.to t in
    search_left d w s copy (failing copy q) search copied finds env t
    ∙ (λ i. left_by_search d w.from
    (place_in (through (same_number s copy copied i) (filter (opposite (same i))) env (walk_through s env u))) u)

-- where the stages of a search have no fault, its walk ends as its source does
pub calm_ending : (s copy last : NumberedStages) (p q : Truth) → IsCopy s copy → q ≡ p
    → AreFaultless true (stages_of last.list.items)
    → ((env : Numbers) (t : Trace) → walk_through last env t
    ≡ through (suc (number_after copy)) (map row) env (failing copy q env (walk_through copy env t)))
    → (env : Numbers) (t : Trace)
    → (through (suc (number_after s)) (map row) env (failing s p env (walk_through s env t))).ending ≡ t.ending
calm_ending s copy last p q copied same calm walk env t =
    ap (λ (u : Trace). u.ending) (sym (walk env t
    ∙ (λ i. through (suc (same_number s copy copied i)) (map row) env
    (through (same_number s copy copied i) (filter (opposite (same i))) env
    (pipe (copied.first i) (copied.stages i) env t)))))
    ∙ ap (λ (u : Trace). u.ending) ((calm env).0 last.first env refl t.items t.ending)

module _ (s copy : NumberedStages) (copied : IsCopy s copy) (env : Numbers) (w : Window)
    (ss : List AbstractPlainSource) where
  abbrev goes : Trace → Trace
  goes t = walk_through s env t

  abbrev m : ℕ
  m = number_after s

  goes_ended : (e : End) → goes (trace [] e) ≡ trace [] e
  goes_ended e = pipe_ended s.first (stages_of s.list.items) env e

  abbrev u : Trace
  u = windowed w.from w.to (source_walk ss)

  no_rest : (k : ℕ) → drop {A = Item} k [] ≡ []
  no_rest zero = refl
  no_rest (suc k) = refl

  pub take_window : (p : Truth) → through m (filter p) env
      (goes (left_by_search side.Before w.from (place_in (failing s p env (goes u))) u)) ≡ taken p m env (goes u)
  take_window p = of_window
      (λ (t : Trace). through m (filter p) env
      (goes (left_by_search side.Before w.from (place_in (failing s p env (goes t))) t)) ≡ taken p m env (goes t))
      w.from w.to ss
      (λ e. (λ i. through m (filter p) env
      (goes (left_by_search side.Before w.from (place_in (failing s p env (goes_ended e i))) (trace [] e))))
      ∙ ap (λ (t : Trace). through m (filter p) env (goes t)) (without_stop w.from e (trace [] e))
      ∙ ap (through m (filter p) env) (goes_ended e)
      ∙ sym (ap (taken p m env) (goes_ended e)))
      (λ us few. take_left s.first (stages_of s.list.items) env copied.places w.from us few m p)

  pub calm_window : (p : Truth)
      → ((t : Trace) → (through (suc m) (map row) env (failing s p env (goes t))).ending ≡ t.ending)
      → goes (left_by_search side.Before w.from (place_in (failing s p env (goes u))) u) ≡ taken p m env (goes u)
  calm_window p calm = of_window
      (λ (t : Trace). goes (left_by_search side.Before w.from (place_in (failing s p env (goes t))) t)
      ≡ taken p m env (goes t))
      w.from w.to ss
      (λ e. (λ i. goes (left_by_search side.Before w.from (place_in (failing s p env (goes_ended e i))) (trace [] e)))
      ∙ ap goes (without_stop w.from e (trace [] e)) ∙ goes_ended e ∙ sym (ap (taken p m env) (goes_ended e)))
      (λ us few. take_calm s.first (stages_of s.list.items) env copied.places w.from us few m p
      (calm (trace (placed w.from us) end.Done)))

  pub drop_window : (p : Truth)
      → goes (left_by_search side.From w.from (place_in (failing s p env (goes u))) u) ≡ dropped p m env (goes u)
  drop_window p = of_window
      (λ (t : Trace). goes (left_by_search side.From w.from (place_in (failing s p env (goes t))) t)
      ≡ dropped p m env (goes t))
      w.from w.to ss
      (λ e. (λ i. goes (left_by_search side.From w.from (place_in (failing s p env (goes_ended e i))) (trace [] e)))
      ∙ ap goes (without_item w.from e (trace [] e)) ∙ goes_ended e ∙ sym (ap (dropped p m env) (goes_ended e)))
      (λ us few. drop_left s.first (stages_of s.list.items) env copied.places w.from us few m p)

  pub skip_window : (k : ℕ)
      → goes (left_by_search side.From w.from (place_in (skipped k (goes u))) u) ≡ skipped k (goes u)
  skip_window k = of_window
      (λ (t : Trace). goes (left_by_search side.From w.from (place_in (skipped k (goes t))) t) ≡ skipped k (goes t))
      w.from w.to ss
      (λ e. let none : skipped k (goes (trace [] e)) ≡ trace [] e =
      ap (skipped k) (goes_ended e) ∙ ap (λ xs. trace xs e) (no_rest k) in
      ap (λ (t : Trace). goes (left_by_search side.From w.from (place_in t) (trace [] e))) none
      ∙ ap goes (without_item w.from e (trace [] e)) ∙ goes_ended e ∙ sym none)
      (λ us few. skip_left s.first (stages_of s.list.items) env copied.places w.from us few k)
