use Rattle.std.proofs.Common.{◌≡◌, ◌∷◌, sym, ◌∙◌, rules}
use Rattle.lambda_expr.proofs.JoinLemmas.{joining_on}
use Rattle.lambda_expr.proofs.parse.join.Goals as goal

pub loop-top-preserved : goal.loop-top-preserved
loop-top-preserved c =
    let front : c.loop-top.stack ≡ c.in-Some.top ∷ c.take.new.self = search rules in
    joining_on _ c.args.least c.in-Some.top c.loop-top.stack c.take.new.self c.loop-top.steps.items
    c.push.new.self.items c.in-Some-reduced.step (sym c.reduced.ensures ∙ c.in-Some-reduced.is) front
    c.in_ok-push-in-Some-reduced.ensures.items c.loop-top.invariant
