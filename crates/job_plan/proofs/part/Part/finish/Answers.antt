use Rattle.std.proofs.Common.{subst}
use Rattle.job_plan.specs.declared.part.Part.{Part}
use Rattle.job_plan.specs.Parts.{StandsFor}
use Rattle.job_routes.specs.Legs.{walk_of, last_stage}
use Rattle.job_plan.proofs.PartLemmas.{array_ends}
use Rattle.job_plan.proofs.part.Part.finish.Goals as goal

pub returns-in-Array-clause-some : goal.returns-in-Array-clause-some
returns-in-Array-clause-some c s t h =
    let env = c.args.env.now in
    array_ends s.ending (last_stage s) env c.in-Array.part (walk_of s env t) c.finish-in-Array.result
    (subst (λ (p : Part). StandsFor s env p t) c.in-Array.is h) c.finish-in-Array.ensures
