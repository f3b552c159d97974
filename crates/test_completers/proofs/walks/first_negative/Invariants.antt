use Rattle.test_completers.specs.Walks.{IsClean}
use Rattle.test_completers.proofs.walks.first_negative.Given as goal

abbrev pub invariant-loop-i : goal.invariant-loop-i
invariant-loop-i l = IsClean l.numbers l.from l.i
