use Rattle.deques.proofs.Keeps.{finds}
use Rattle.deques.proofs.handles.Owner.pop.Goals as goal

pub pop_as-requires-clause-empty : goal.pop_as-requires-clause-empty
pop_as-requires-clause-empty g c = finds _ _
