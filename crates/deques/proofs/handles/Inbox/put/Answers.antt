use Rattle.std.proofs.Common.{rules}
use Rattle.deques.proofs.handles.Inbox.put.Goals as goal

pub returns-clause-put : goal.returns-clause-put
returns-clause-put g c = search rules
