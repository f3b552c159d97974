use Rattle.std.proofs.Common.{[], refl, sym, subst}
use Rattle.lambda_expr.specs.declared.parse.Held.TheVariants.{Complete}
use Rattle.lambda_expr.specs.declared.step.ParseStep.TheVariants as step
use Rattle.lambda_expr.specs.Grammar.{row}
use Rattle.lambda_expr.specs.Reader.{row_closed}
use Rattle.lambda_expr.specs.Codes.{IsAt, frames_of, run}
use Rattle.lambda_expr.proofs.JoinLemmas.{leaf_at}
use Rattle.lambda_expr.proofs.parse.close_row.Goals as goal

pub returns-in_ok-push-in-Close : goal.returns-in_ok-push-in-Close
returns-in_ok-push-in-Close c =
    let ps = c.args.stack.now in
    let ss = c.args.steps.now.items in
    subst (λ w. IsAt ps c.push.new.self.items Complete (row_closed (frames_of ps (run [] ss)) w)) (sym c.in-Close.is)
    (leaf_at ps ss c.push.new.self.items step.Row row c.in_ok-push-in-Close.ensures.items refl refl c.requires)
