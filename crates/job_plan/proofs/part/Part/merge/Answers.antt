use Rattle.lambda_values.specs.Earlier.{Numbers}
use Rattle.trace.specs.Trace.{Trace, append}
use Rattle.job_plan.specs.declared.part.Part.{Part}
use Rattle.job_plan.specs.Parts.{EndsFor, StandsFor}
use Rattle.job_routes.specs.Legs.{AbstractEnd, AbstractSegment, walk_of, last_stage}
use Rattle.job_plan.proofs.PartLemmas.{on_walks}
use Rattle.job_plan.proofs.PassageLemmas.{if_ok_map}
use Rattle.job_plan.proofs.part.Part.merge.Goals as goal

pub returns-clause-ok : goal.returns-clause-ok
returns-clause-ok c =
    let p = c.args.self in
    let q = c.args.right in
    if_ok_map (λ (r : Part). (e : AbstractEnd) (n : _) (env : Numbers) (a b : Trace) → EndsFor e n env p a
    → EndsFor e n env q b → EndsFor e n env r (append a b))
    (λ (r : Part). (s : AbstractSegment) (env : Numbers) (a b : Trace) → StandsFor s env p a → StandsFor s env q b
    → StandsFor s env r (append a b))
    c.merge.result
    (λ r merged s env a b. on_walks s env p q r a b
    (merged s.ending (last_stage s) env (walk_of s env a) (walk_of s env b)))
    c.merge.ensures.ok
