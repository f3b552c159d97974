use Rattle.deques.proofs.Keeps.{finds_few}
use Rattle.deques.proofs.handles.Thief.steal.Goals as goal

pub steal_as-requires-clause-empty : goal.steal_as-requires-clause-empty
steal_as-requires-clause-empty g c = finds_few _ _ _
