use Rattle.std.proofs.Common.{rules}
use Rattle.job_plan.proofs.source.Source.end.Goals as goal

pub returns-in-TooLong : goal.returns-in-TooLong
returns-in-TooLong c = search rules
