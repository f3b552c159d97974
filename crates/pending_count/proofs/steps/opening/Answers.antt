use Rattle.std.proofs.Common.{rules}
use Rattle.pending_count.proofs.steps.opening.Goals as goal

pub returns : goal.returns
returns c = search rules
