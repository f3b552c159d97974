use Rattle.std.proofs.Common.{rules}
use Rattle.batch_eval.proofs.staging.fed_by.Goals as goal

pub returns-in-Done : goal.returns-in-Done
returns-in-Done c = search rules

pub returns-in-Fault : goal.returns-in-Fault
returns-in-Fault c = search rules
