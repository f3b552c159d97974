use Rattle.std.proofs.Common.{rules}
use Rattle.job_plan.proofs.source.Source.piece_end.Goals as goal

pub returns-in-None : goal.returns-in-None
returns-in-None c = search rules
