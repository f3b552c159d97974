use Rattle.std.proofs.Common.{◌≡◌, drop}
use Rattle.find_ops.specs.Finds.{find_of, first_decision}
use Rattle.find_ops.proofs.terminal.FindTerminal.first_decision.Given as goal

abbrev pub invariant-loop-item : goal.invariant-loop-item
invariant-loop-item l = first_decision (find_of l.self) l.stage l.env (drop l.item-index l.items)
    ≡ first_decision (find_of l.self) l.stage l.env l.items
