use Rattle.std.proofs.Common.{◌≤◌, length, arith}
use Rattle.test_engine.proofs.Walks.{no_place_decides}
use Rattle.test_engine.proofs.lists.ListsJobLegs.left_out.Goals as goal

pub returns : goal.returns
returns g c =
    let early : c.requires.decided.0 ≤ c.args._piece.from = c.requires.decided.1 in
    let ordered : c.args._piece.from ≤ c.args._piece.to = c.requires.piece.ordered in
    let within : c.args._piece.to ≤ length (g.P.JobNumbers.numbers c.args._piece.job) = c.requires.piece.within in
    absurd (no_place_decides (g.P.JobNumbers.numbers c.args._piece.job) c.requires.decided.0 (omega arith)
    c.requires.decided.2)
