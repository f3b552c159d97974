use Rattle.std.proofs.Common.{rules}
use Rattle.batch_eval.proofs.feeding.feed_from.Goals as goal

pub returns-in_default-clause-fed : goal.returns-in_default-clause-fed
returns-in_default-clause-fed g c = search rules
