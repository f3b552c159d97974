use Rattle.std.proofs.Common.{◌≡◌, refl, sym, subst, rules}
use Rattle.lambda_expr.specs.declared.lexeme.ClassName.TheVariants.{Long}
use Rattle.lambda_expr.specs.declared.parse.Held.TheVariants.{Complete, Callee}
use Rattle.lambda_expr.specs.declared.step.ParseStep.TheVariants as step
use Rattle.lambda_expr.specs.Grammar.{constant}
use Rattle.lambda_expr.specs.Reader.{settled}
use Rattle.lambda_expr.specs.Codes.{IsAt, IsCoded, state_of}
use Rattle.lambda_expr.proofs.JoinLemmas.{leaf_at}
use Rattle.lambda_expr.proofs.parse.settle.Goals as goal

pub returns-in_ok-push-in-Callee-Long-default : goal.returns-in_ok-push-in-Callee-Long-default
returns-in_ok-push-in-Callee-Long-default c =
    let is : c.args.held ≡ Callee Long c.in-Callee-Long-default.name = search rules in
    let coded = subst (IsCoded c.args.stack.now c.args.steps.now.items) is c.requires in
    subst (λ h. IsAt c.args.stack.now c.push.new.self.items Complete
    (settled (state_of c.args.stack.now c.args.steps.now.items h))) (sym is)
    (leaf_at c.args.stack.now c.args.steps.now.items c.push.new.self.items
    (step.Constant c.in-Callee-Long-default.name) (constant c.in-Callee-Long-default.name)
    c.in_ok-push-in-Callee-Long-default.ensures.items refl refl coded)
