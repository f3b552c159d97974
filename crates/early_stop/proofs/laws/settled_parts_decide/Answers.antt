use Rattle.early_stop.proofs.Settling.{enough_decides}
use Rattle.early_stop.proofs.laws.settled_parts_decide.Goals as goal

pub returns : goal.returns
returns g c close f joins s t i m low enough settles = enough_decides close f joins s i m t low enough settles
