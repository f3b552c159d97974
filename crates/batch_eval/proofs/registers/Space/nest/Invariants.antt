use Rattle.std.proofs.Common.{◌≡◌}
use Rattle.batch_eval.proofs.registers.Space.nest.Given as goal

abbrev pub invariant-loop : goal.invariant-loop
invariant-loop l = l.self.room.items ≡ l.fn.self.room.items
