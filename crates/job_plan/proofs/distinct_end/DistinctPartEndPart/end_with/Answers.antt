use Rattle.std.proofs.Common.{[]}
use Rattle.trace.specs.Trace.{trace}
use Rattle.job_plan.proofs.FirstsLemmas.{firsts_go_on}
use Rattle.job_plan.proofs.distinct_end.DistinctPartEndPart.end_with.Goals as goal

pub returns-clause-stands : goal.returns-clause-stands
returns-clause-stands c = firsts_go_on c.args.self.now c.end_with.new.self (trace [] c.args.ending) c.end_with.ensures
