use Rattle.std.proofs.Common.{◌≡◌, drop, flat_map}
use Rattle.find_ops.specs.Finds.{find_of, first_decision}
use Rattle.find_ops.proofs.terminal.FindTerminal.first_decision_in.Given as goal

abbrev pub invariant-loop-piece : goal.invariant-loop-piece
invariant-loop-piece l =
    first_decision (find_of l.self) l.stage l.env (flat_map (λ piece. piece.items) (drop l.piece-index l.pieces))
    ≡ first_decision (find_of l.self) l.stage l.env (flat_map (λ piece. piece.items) l.pieces)
