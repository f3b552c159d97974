-- Legs that searches come before.
use Rattle.std.proofs.Common.{◌≡◌, ◌<◌, ℕ, suc, ◌+◌, ◌^◌, Bool, true, false, if◌then◌else◌, List, [], ◌∷◌}
use Rattle.std.proofs.Common.{◌++◌, length, length-append, Result, Ok, Err, IfOk, OnOk, append_assoc, refl, sym, ap}
use Rattle.std.proofs.Common.{◌∙◌}
use Rattle.std.proofs.Common.{arith}
use Rattle.lambda_values.specs.Earlier.{Numbers}
use Rattle.lambda_values.specs.Term.{row}
use Rattle.find_ops.specs.Finds.{first as find_first}
use Rattle.trace.specs.declared.stage.Stage.{Stage}
use Rattle.trace.specs.Stages.{AbstractStage, map, pipe, stage_of, stages_of, through}
use Rattle.trace.specs.Trace.{Trace}
use Rattle.job_routes.specs.declared.numbered_stages.NumberedStages.{NumberedStages}
use Rattle.job_routes.specs.Legs.{ended, finding, number_after, walk_through}
use Rattle.job_routes.proofs.MapLemmas.{pipe_joined}
use Rattle.job_routes.proofs.RouteLemmas.{length-stages_of, stages_more}
use Rattle.job_routes.specs.Searches.{place_found}

pub on_ok : {A E P Q : Type 0} (r : Result A E) → OnOk r P → (P → Q) → OnOk r Q
on_ok (Ok a) p f = f p
on_ok (Err e) p f = p

-- ---- stages and the ones after them

stages_joined : (gs hs : List Stage) → stages_of (gs ++ hs) ≡ stages_of gs ++ stages_of hs
stages_joined [] hs = refl
stages_joined (g ∷ gs) hs = ap (λ (fs : List AbstractStage). stage_of g ∷ fs) (stages_joined gs hs)

pub appended_walk : (s later : NumberedStages) (new : List Stage) → later.first ≡ number_after s
    → new ≡ s.list.items ++ later.list.items → (env : Numbers) (t : Trace)
    → pipe s.first (stages_of new) env t ≡ walk_through later env (walk_through s env t)
appended_walk s later new next e env t =
    ap (λ (gs : List AbstractStage). pipe s.first gs env t)
    (ap stages_of e ∙ stages_joined s.list.items later.list.items)
    ∙ pipe_joined s.first (stages_of s.list.items) (stages_of later.list.items) env t
    ∙ ap (λ k. pipe k (stages_of later.list.items) env (walk_through s env t)) (sym next)

pub appended_number : (s later : NumberedStages) (new : List Stage) → later.first ≡ number_after s
    → new ≡ s.list.items ++ later.list.items → s.first + length (stages_of new) ≡ number_after later
appended_number s later new next e =
    let a = length-stages_of new in let b = length-stages_of s.list.items in
    let d = length-stages_of later.list.items in
    let l = ap length e in let k = length-append s.list.items later.list.items in
    omega (arith, a, b, d, l, k, next)

pub appended_few : (joined : Bool) (s later : NumberedStages) (new : List Stage) → later.first ≡ number_after s
    → new ≡ (if joined then s.list.items ++ later.list.items else s.list.items)
    → s.first + length new < 2 ^ 32
appended_few true s later new next e =
    let b = length-stages_of s.list.items in
    let l = ap length e in let k = length-append s.list.items later.list.items in
    let f = later.numbered in
    omega (arith, b, l, k, next, f)
appended_few false s later new next e = let l = ap length e in let f = s.numbered in omega (arith, l, f)

-- ---- copies of stages

-- one stage more of those that are copied
pub copies_more : {E : Type 0} (from later : List Stage) (old pushed new : List Stage) (g copy : Stage)
    → from ≡ g ∷ later → stage_of copy ≡ stage_of g → pushed ≡ old ++ copy ∷ [] → (r : Result Bool E)
    → IfOk r (λ all. all ≡ true → stages_of new ≡ stages_of pushed ++ stages_of later)
    → IfOk r (λ all. all ≡ true → stages_of new ≡ stages_of old ++ stages_of from)
copies_more from later old pushed new g copy split is added (Ok all) h = λ yes.
    h yes ∙ ap (λ (gs : List AbstractStage). gs ++ stages_of later) (ap stages_of added ∙ stages_more old copy)
    ∙ append_assoc (stages_of old) (stage_of copy ∷ []) (stages_of later)
    ∙ ap (λ (f : AbstractStage). stages_of old ++ f ∷ stages_of later) is
    ∙ ap (λ gs. stages_of old ++ stages_of gs) (sym split)
copies_more from later old pushed new g copy split is added (Err e) h = tt

-- ---- a leg that looks for a place

-- it ends in a map after stages
pub sought : (n m : ℕ) (new : NumberedStages) (env : Numbers) (v u : Trace) → number_after new ≡ suc n → n ≡ suc m
    → walk_through new env v ≡ through n (map row) env u
    → ended (finding find_first) (number_after new) env (walk_through new env v) ≡ place_found (suc m) env u
sought n m new env v u number next walk =
    (λ i. ended (finding find_first) (number i) env (walk i))
    ∙ ap (λ k. ended (finding find_first) (suc k) env (through k (map row) env u)) next
