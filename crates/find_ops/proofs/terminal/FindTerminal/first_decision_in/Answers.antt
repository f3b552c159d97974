use Rattle.std.proofs.Common.{sym, ap, ◌∙◌, Vec, Global}
use Rattle.lambda_values.specs.declared.item.Item.{Item}
use Rattle.find_ops.specs.Finds.{find_of, first_decision}
use Rattle.find_ops.proofs.DecisionLemmas.{piece_decides, piece_passed}
use Rattle.find_ops.proofs.terminal.FindTerminal.first_decision_in.Goals as goal

pub returns-in-Some : goal.returns-in-Some
returns-in-Some c =
    let d = find_of c.args.self.now in
    let n = c.args.stage in
    let env = c.args.env.now in
    let decided = ap (first_decision d n env) (sym c.deref.ensures.value) ∙ sym c.first_decision.ensures
    ∙ c.in-Some.is in
    sym (piece_decides d n env (λ (q : Vec Item Global). q.items) c.args.pieces.now c.loop-piece.piece-index
    c.piece-item.result c.in-Some.decision c.loop-piece-test.true c.piece-item.is decided)
    ∙ c.loop-piece.invariant

pub loop-piece-preserved : goal.loop-piece-preserved
loop-piece-preserved c =
    let d = find_of c.args.self.now in
    let n = c.args.stage in
    let env = c.args.env.now in
    let passed = ap (first_decision d n env) (sym c.deref.ensures.value) ∙ sym c.first_decision.ensures
    ∙ c.in_default.is in
    sym (piece_passed d n env (λ (q : Vec Item Global). q.items) c.args.pieces.now c.loop-piece.piece-index
    c.piece-item.result c.loop-piece-test.true c.piece-item.is passed)
    ∙ c.loop-piece.invariant
