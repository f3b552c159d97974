use Rattle.std.proofs.Common.{rules}
use Rattle.deques.proofs.handles.Owner.push.Goals as goal

pub returns-clause-pushed : goal.returns-clause-pushed
returns-clause-pushed g c = search rules

pub returns-clause-refused : goal.returns-clause-refused
returns-clause-refused g c = search rules
