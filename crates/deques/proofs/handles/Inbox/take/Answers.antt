use Rattle.deques.proofs.Keeps.{takes, finds}
use Rattle.deques.proofs.handles.Inbox.take.Goals as goal

pub steal_as-requires-clause-rule : goal.steal_as-requires-clause-rule
steal_as-requires-clause-rule g c = (takes _ _, finds _ _)
