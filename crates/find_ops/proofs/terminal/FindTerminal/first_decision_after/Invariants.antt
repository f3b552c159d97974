use Rattle.std.proofs.Common.{◌≡◌, drop}
use Rattle.find_ops.specs.Finds.{find_of, first_decision}
use Rattle.find_ops.proofs.terminal.FindTerminal.first_decision_after.Given as goal

abbrev pub invariant-loop-next : goal.invariant-loop-next
invariant-loop-next g l = first_decision (find_of l.self) l.stage l.env (drop l.next (g.I.SourceItems.items l.source))
    ≡ first_decision (find_of l.self) l.stage l.env (g.I.SourceItems.items l.source)
