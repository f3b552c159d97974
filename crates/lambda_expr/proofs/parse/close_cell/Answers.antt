use Rattle.std.proofs.Common.{[], refl, sym, subst}
use Rattle.lambda_expr.specs.declared.parse.Held.TheVariants.{Complete}
use Rattle.lambda_expr.specs.declared.step.ParseStep.TheVariants as step
use Rattle.lambda_expr.specs.Grammar.{cell}
use Rattle.lambda_expr.specs.Reader.{cell_closed}
use Rattle.lambda_expr.specs.Codes.{IsAt, frames_of, run}
use Rattle.lambda_expr.proofs.JoinLemmas.{leaf_at}
use Rattle.lambda_expr.proofs.parse.close_cell.Goals as goal

pub returns-in_ok-push-in-Close : goal.returns-in_ok-push-in-Close
returns-in_ok-push-in-Close c =
    let ps = c.args.stack.now in
    let ss = c.args.steps.now.items in
    let i = c.args.place in
    subst (λ w. IsAt ps c.push.new.self.items Complete (cell_closed (frames_of ps (run [] ss)) i w)) (sym c.in-Close.is)
    (leaf_at ps ss c.push.new.self.items (step.Cell i) (cell i) c.in_ok-push-in-Close.ensures.items refl refl
    c.requires)
