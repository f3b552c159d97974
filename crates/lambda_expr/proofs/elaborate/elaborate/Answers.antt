use Rattle.std.proofs.Common.{[], ap, get_or, sym, take, ◌∙◌}
use Rattle.std.proofs.lemmas.List.{take_more}
use Rattle.lambda_expr.specs.declared.step.ParseStep.TheVariants.{Ternary}
use Rattle.lambda_expr.specs.Elaborating.{operands_of, typed_steps}
use Rattle.lambda_expr.specs.Lexemes.{names_in}
use Rattle.lambda_expr.specs.Stacks.{stacked}
use Rattle.lambda_expr.proofs.ElaborateLemmas.{operands_of_append, typed_append}
use Rattle.lambda_expr.proofs.elaborate.elaborate.Goals as goal

pub loop-step-preserved : goal.loop-step-preserved
loop-step-preserved c =
    let h = names_in c.args.text.now.bytes c.args.text.now.tokens in
    let front = take c.loop-step.step-index c.args.steps.now in
    let next = get_or c.args.steps.now c.loop-step.step-index Ternary in
    ap operands_of c.in_ok-push.ensures.items
    ∙ operands_of_append c.follow.new.stack.items c.in_ok-operand.operand
    ∙ c.in_ok-operand.ensures (typed_steps h [] front) c.loop-step.invariant
    ∙ ap stacked (sym (ap (typed_steps h [])
    (take_more c.args.steps.now c.loop-step.step-index Ternary c.loop-step-test.true)
    ∙ typed_append h [] front next))
