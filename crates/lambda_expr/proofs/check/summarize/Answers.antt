use Rattle.std.proofs.Common.{[], ap, get_or, sym, take, ◌∙◌}
use Rattle.std.proofs.lemmas.List.{take_more}
use Rattle.lambda_expr.specs.declared.step.ParseStep.TheVariants.{Ternary}
use Rattle.lambda_expr.specs.Stacks.{stacked}
use Rattle.lambda_expr.specs.Summaries.{summary_steps}
use Rattle.lambda_expr.proofs.SummaryLemmas.{summary_append}
use Rattle.lambda_expr.proofs.check.summarize.Goals as goal

pub loop-step-preserved : goal.loop-step-preserved
loop-step-preserved c =
    let p = c.args.parameters in
    let front = take c.loop-step.step-index c.args.steps.now in
    let next = get_or c.args.steps.now c.loop-step.step-index Ternary in
    c.in_ok-push.ensures.items
    ∙ c.follow-summary.ensures (summary_steps p [] front) c.loop-step.invariant
    ∙ ap stacked (sym (ap (summary_steps p [])
    (take_more c.args.steps.now c.loop-step.step-index Ternary c.loop-step-test.true)
    ∙ summary_append p [] front next))
