use Rattle.std.proofs.Common.{rules}
use Rattle.batch_eval.proofs.ReciprocalLemmas.{divisor_counts}
use Rattle.batch_eval.proofs.division.FloorDivideByReciprocalDivision.apply.Goals as goal

pub returns : goal.returns
returns g c = rw (divisor_counts (g.R.Divisor.number c.args.by) c.quotient_down.ensures.above) (search rules)
