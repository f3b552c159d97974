use Rattle.std.proofs.Common.{arith}
use Rattle.test_engine.proofs.Walks.{no_place_decides}
use Rattle.test_engine.proofs.lists.ListsJobLegs.fault.Goals as goal

pub returns-clause-caught : goal.returns-clause-caught
returns-clause-caught g c = λ fault caught. absurd
    (no_place_decides (g.P.JobNumbers.numbers c.args._piece.job) 0 (omega arith) caught)
