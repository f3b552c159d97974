-- Walks without the places of their items.
use Rattle.std.proofs.Common.{◌≡◌, ℕ, suc, ◌-◌, ℤ, pos, Bool, true, false, List, [], ◌∷◌, take, drop}
use Rattle.std.proofs.Common.{Option, Some, None, Result, Ok, Err, refl, sym, ap, ◌∙◌}
use Rattle.lambda_values.specs.Earlier.{Numbers}
use Rattle.lambda_values.specs.Streams.{inner_value}
use Rattle.lambda_values.specs.Value.{long_value, truth_value}
use Rattle.lambda_values.specs.declared.fault.FaultKind.{FaultKind}
use Rattle.lambda_values.specs.declared.item.Item.{Item}
use Rattle.lambda_values.proofs.Placeless.{placeless_inner, placeless_long, placeless_truth}
use Rattle.trace.specs.declared.item.End.{End}
use Rattle.trace.specs.declared.item.End.TheVariants as end
use Rattle.trace.specs.Stages.{AbstractStage, map, filter, flat_map, at_place, flattened, image, of_item, passed, pipe}
use Rattle.trace.specs.Stages.{stages_of, through}
use Rattle.trace.specs.Trace.{Trace, trace, append, nothing}
use Rattle.reduce_ops.specs.declared.op.Op.{Op}
use Rattle.reduce_ops.specs.Folds.{fold_from, ones}
use Rattle.reduce_ops.specs.Operators.{value_of}
use Rattle.sort_ops.specs.Orders.{sorted_walk}
use Rattle.sort_ops.specs.Parts.{done_after, values_in}
use Rattle.sort_ops.specs.Runs.{with_places, without_places}
use Rattle.sort_ops.proofs.ValueLemmas.{same_values, sorted_without, with_joined, without_dropped, without_taken}
use Rattle.find_ops.specs.Finds.{first}
use Rattle.prefix_walks.specs.Batches.{counted_as}
use Rattle.batch_eval.specs.Faultless.{AreFaultless}
use Rattle.prefix_walks.specs.Pieces.{elements}
use Rattle.job_language.specs.Jobs.{AbstractPlainSource, item}
use Rattle.job_language.specs.Places.{stage_is_placeless}
use Rattle.job_meaning.specs.declared.answer.Answer.TheVariants as answer
use Rattle.job_meaning.specs.Walks.{source_walk, unless_fault}
use Rattle.job_routes.specs.declared.outcome.Outcome.TheVariants as outcome
use Rattle.job_routes.specs.declared.building.Begun.{Begun}
use Rattle.job_routes.specs.declared.leg.Leg.{Leg}
use Rattle.job_routes.specs.Building.{IgnorePlaces, begun_walk}
use Rattle.job_routes.specs.Legs.{AbstractEnd, collecting, ended, finding, folded, folding, legs_in, linked, links_in}
use Rattle.job_routes.specs.Legs.{scanned, walk_through, windowed}

-- ---- what a sort gives without places

values_at : (o : ℕ) (vs : List ℤ) → values_in (at_place o vs) ≡ vs
values_at o [] = refl
values_at o (v ∷ vs) = ap (λ (l : List ℤ). v ∷ l) (values_at o vs)

pub without_twice : (places : Bool) (t : Trace) → with_places false (with_places places t) ≡ with_places false t
without_twice true t = refl
without_twice false t = ap (λ (vs : List ℤ). trace (at_place 0 vs) t.ending) (same_values t.items)

pub places_dropped : (m : Option ℕ) (places : Bool) (t : Trace)
    → done_after m (sorted_walk (with_places false t))
    ≡ with_places false (done_after m (sorted_walk (with_places places t)))
places_dropped m places t = ap (λ (u : Trace). done_after m (sorted_walk u)) (sym (without_twice places t))
    ∙ sorted_without m (with_places places t)

-- ---- ends

fold_without : (f : ℤ → ℤ → ℤ) (a : ℤ) (xs : List Item) → fold_from f a (without_places xs) ≡ fold_from f a xs
fold_without f a [] = refl
fold_without f a (x ∷ xs) = fold_without f (f a x.value) xs

ones_without : (f : ℤ → ℤ → ℤ) (a : ℤ) (xs : List Item)
    → fold_from f a (ones (without_places xs)) ≡ fold_from f a (ones xs)
ones_without f a [] = refl
ones_without f a (x ∷ xs) = ones_without f (f a (pos 1)) xs

folded_without : (f : Op) (a : Option ℤ) (counts : Bool) (xs : List Item)
    → folded f a (counted_as counts (without_places xs)) ≡ folded f a (counted_as counts xs)
folded_without f (Some a) true xs = ap answer.Number (ones_without (value_of f) a xs)
folded_without f (Some a) false xs = ap answer.Number (fold_without (value_of f) a xs)
folded_without f None true [] = refl
folded_without f None true (x ∷ xs) = ap (λ z. answer.Optional (Some z)) (ones_without (value_of f) (pos 1) xs)
folded_without f None false [] = refl
folded_without f None false (x ∷ xs) = ap (λ z. answer.Optional (Some z)) (fold_without (value_of f) x.value xs)

pub fold_ignores : (f : Op) (a : Option ℤ) (counts : Bool) (n : ℕ) (env : Numbers) (t : Trace)
    → ended (folding f a counts) n env (with_places false t) ≡ ended (folding f a counts) n env t
fold_ignores f a counts n env t = ap (λ b. outcome.Answer (unless_fault t.ending b)) (folded_without f a counts t.items)

pub array_ignores : (n : ℕ) (env : Numbers) (t : Trace)
    → ended collecting n env (with_places false t) ≡ ended collecting n env t
array_ignores n env t = ap (λ (vs : List ℤ). outcome.Answer (unless_fault t.ending (answer.Array vs)))
    (same_values t.items)

pub first_ignores : (n : ℕ) (env : Numbers) (t : Trace)
    → ended (finding first) n env (with_places false t) ≡ ended (finding first) n env t
first_ignores n env t = by t.items t.ending
  where
    by : (xs : List Item) (e : End) → ended (finding first) n env (with_places false (trace xs e))
        ≡ ended (finding first) n env (trace xs e)
    by [] e = refl
    by (x ∷ xs) e = refl

pub end_ignores : (e f : AbstractEnd) → e ≡ f
    → ((n : ℕ) (env : Numbers) (t : Trace) → ended f n env (with_places false t) ≡ ended f n env t)
    → (n : ℕ) (env : Numbers) (t : Trace)
    → ended e n env (with_places false t) ≡ ended e n env t
end_ignores e f is ignores n env t = ap (λ (d : AbstractEnd). ended d n env (with_places false t)) is ∙ ignores n env t
    ∙ sym (ap (λ (d : AbstractEnd). ended d n env t) is)

-- ---- stages

-- a stage that ended at no item makes the same of it without its place
done_item : (n : ℕ) (g : AbstractStage) (env : Numbers) (x : Item) → stage_is_placeless (item g) ≡ true
    → append (of_item n g env x) nothing ≡ trace (append (of_item n g env x) nothing).items end.Done
    → of_item n g env (record { origin = 0; value = x.value }) ≡ with_places false (of_item n g env x)
done_item n (map e) env x plain done =
    ap (image n (record { origin = 0; value = x.value }))
    (placeless_long e (record { origin = 0; value = x.value }) x env env refl refl plain)
    ∙ by (long_value e x env) (ap (λ (t : Trace). t.ending) done)
  where
    by : (r : Result ℤ FaultKind) → (append (image n x r) nothing).ending ≡ end.Done
        → image n (record { origin = 0; value = x.value }) r ≡ with_places false (image n x r)
    by (Ok v) h = refl
    by (Err k) h = absurd cc
done_item n (filter p) env x plain done =
    ap (passed n (record { origin = 0; value = x.value }))
    (placeless_truth p (record { origin = 0; value = x.value }) x env env refl refl plain)
    ∙ by (truth_value p x env) (ap (λ (t : Trace). t.ending) done)
  where
    by : (r : Result Bool FaultKind) → (append (passed n x r) nothing).ending ≡ end.Done
        → passed n (record { origin = 0; value = x.value }) r ≡ with_places false (passed n x r)
    by (Ok true) h = refl
    by (Ok false) h = refl
    by (Err k) h = absurd cc
done_item n (flat_map g) env x plain done =
    ap (flattened n (record { origin = 0; value = x.value }))
    (placeless_inner g (record { origin = 0; value = x.value }) x env env refl refl plain)
    ∙ by (inner_value g x env) (ap (λ (t : Trace). t.ending) done)
  where
    by : (r : Result (List ℤ) FaultKind) → (append (flattened n x r) nothing).ending ≡ end.Done
        → flattened n (record { origin = 0; value = x.value }) r ≡ with_places false (flattened n x r)
    by (Ok vs) h = ap (λ (ws : List ℤ). trace (at_place 0 ws) end.Done) (sym (values_at x.origin vs))
    by (Err k) h = absurd cc

stage_ignores : (g : AbstractStage) → stage_is_placeless (item g) ≡ true → AreFaultless true (g ∷ [])
    → (n : ℕ) (env : Numbers) (xs : List Item) (e : End)
    → through n g env (with_places false (trace xs e)) ≡ with_places false (through n g env (trace xs e))
stage_ignores g plain calm n env [] e = refl
stage_ignores g plain calm n env (x ∷ xs) e =
    let one = (calm env).0 n env refl (x ∷ []) end.Done in
    (λ i. append (done_item n g env x plain (one ∙ ap (λ (t : Trace). trace t.items end.Done) (sym one)) i)
    (stage_ignores g plain calm n env xs e i))
    ∙ sym (with_joined false (of_item n g env x) (through n g env (trace xs e)))

pub more_ignore : (g : AbstractStage) (gs : List AbstractStage) → stage_is_placeless (item g) ≡ true
    → AreFaultless true (g ∷ []) → IgnorePlaces gs → IgnorePlaces (g ∷ gs)
more_ignore g gs plain calm later n env t =
    ap (pipe (suc n) gs env) (stage_ignores g plain calm n env t.items t.ending) ∙ later (suc n) env (through n g env t)

-- ---- routes

elements_without : (from : ℕ) (to : Option ℕ) (xs : List Item)
    → elements from to (without_places xs) ≡ without_places (elements from to xs)
elements_without from None xs = sym (without_dropped from xs)
elements_without from (Some to) xs = ap (take (to - from)) (sym (without_dropped from xs))
    ∙ sym (without_taken (to - from) (drop from xs))

-- a route whose last leg takes the walk of a sort without places
pub route_dropped : (b : Begun) (legs : List Leg) (e : AbstractEnd) → b.links.items ≡ []
    → IgnorePlaces (stages_of b.stages.list.items)
    → ((n : ℕ) (env : Numbers) (t : Trace) → ended e n env (with_places false t) ≡ ended e n env t)
    → ((env : Numbers) (t : Trace) → scanned (legs_in legs) env t
    ≡ with_places false (scanned (legs_in b.scans.items) env t))
    → (n : ℕ) (env : Numbers) (ss : List AbstractPlainSource)
    → ended e n env (walk_through b.stages env
    (linked (links_in b.links.items) env
    (windowed b.window.from b.window.to (scanned (legs_in legs) env (source_walk ss)))))
    ≡ ended e n env (begun_walk b env ss)
route_dropped b legs e plain stages ends gives n env ss =
    let d : Trace = scanned (legs_in b.scans.items) env (source_walk ss) in
    let w : Trace = windowed b.window.from b.window.to d in
    ap (ended e n env)
    ((λ i. walk_through b.stages env (linked (links_in (plain i)) env
    (windowed b.window.from b.window.to (gives env (source_walk ss) i))))
    ∙ ap (λ (xs : List Item). walk_through b.stages env (trace xs d.ending))
    (elements_without b.window.from b.window.to d.items)
    ∙ stages b.stages.first env w)
    ∙ ends n env (walk_through b.stages env w)
    ∙ sym (λ i. ended e n env (walk_through b.stages env (linked (links_in (plain i)) env w)))

-- one whose last leg takes the walk as it was
pub route_kept : (b : Begun) (legs : List Leg) (e : AbstractEnd)
    → ((env : Numbers) (t : Trace) → scanned (legs_in legs) env t ≡ scanned (legs_in b.scans.items) env t)
    → (n : ℕ) (env : Numbers) (ss : List AbstractPlainSource)
    → ended e n env (walk_through b.stages env
    (linked (links_in b.links.items) env
    (windowed b.window.from b.window.to (scanned (legs_in legs) env (source_walk ss)))))
    ≡ ended e n env (begun_walk b env ss)
route_kept b legs e gives n env ss =
    (λ i. ended e n env (walk_through b.stages env
    (linked (links_in b.links.items) env (windowed b.window.from b.window.to (gives env (source_walk ss) i)))))
