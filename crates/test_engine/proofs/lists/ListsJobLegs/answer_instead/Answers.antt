use Rattle.std.proofs.Common.{arith}
use Rattle.test_engine.proofs.Walks.{no_place_decides}
use Rattle.test_engine.proofs.lists.ListsJobLegs.answer_instead.Goals as goal

pub unreachable-requires : goal.unreachable-requires
unreachable-requires g c = no_place_decides (g.P.JobNumbers.numbers c.args._job) 0 (omega arith)
    c.requires.caught.2.caught
