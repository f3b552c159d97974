use Rattle.std.proofs.Common.{None, Some, refl}
use Rattle.job_plan.specs.Parts.{walk_in}
use Rattle.job_table.specs.PlanLegs.{walk_size}
use Rattle.job_table.proofs.PlanParts.{upto_all, upto_some}
use Rattle.job_table.proofs.plan_parts.end_of.Goals as goal

pub returns-then-piece-size-clause-end : goal.returns-then-piece-size-clause-end
returns-then-piece-size-clause-end c = upto_all (walk_size (walk_in c.args.source.now)) c.size.result c.args.piece.to
    None c.size.ensures c.if-piece-size.true refl

pub returns-else-piece-size-clause-end : goal.returns-else-piece-size-clause-end
returns-else-piece-size-clause-end c = upto_some (walk_size (walk_in c.args.source.now)) c.size.result c.args.piece.to
    (Some c.args.piece.to) c.size.ensures c.if-piece-size.false refl
