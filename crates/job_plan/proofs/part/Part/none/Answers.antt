use Rattle.std.proofs.Common.{sym, subst}
use Rattle.trace.specs.Trace.{nothing}
use Rattle.job_routes.specs.declared.ends.SegmentEnd.{SegmentEnd}
use Rattle.job_plan.specs.declared.part.Part.TheVariants as part
use Rattle.job_plan.specs.Parts.{EndsFor}
use Rattle.job_routes.specs.Legs.{end_in, number_after}
use Rattle.job_plan.proofs.part.Part.none.Goals as goal

pub returns-in-Find-clause-stands : goal.returns-in-Find-clause-stands
returns-in-Find-clause-stands c =
    let n = number_after c.args.segment.now.stages in
    subst (λ (e : SegmentEnd). EndsFor (end_in e) n c.args.env.now (part.Find c.none-in-Find.result) nothing)
    (sym c.in-Find.is) (c.none-in-Find.ensures.stands n c.args.env.now)
