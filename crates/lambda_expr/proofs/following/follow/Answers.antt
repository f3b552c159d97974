use Rattle.std.proofs.Common.{◌≡◌, ◌∷◌, rules, subst, sym}
use Rattle.lambda_expr.specs.declared.parse.Pending.TheVariants as pending
use Rattle.lambda_expr.specs.declared.parse.Held.TheVariants.{Complete}
use Rattle.lambda_expr.specs.Codes.{IsAt, top_of}
use Rattle.lambda_expr.specs.Reader.{follows}
use Rattle.lambda_expr.proofs.JoinLemmas.{closes_at}
use Rattle.lambda_expr.proofs.following.follow.Goals as goal

pub returns-in_ok-push-in-Some-Opened : goal.returns-in_ok-push-in-Some-Opened
returns-in_ok-push-in-Some-Opened c =
    let front : c.join-in-Close.new.stack ≡ pending.Opened c.in-Some-Opened.opening ∷ c.take-in-Close.new.self =
    search rules in
    subst (λ w. IsAt c.take-in-Close.new.self c.push.new.self.items Complete
    (follows (top_of c.args.stack.now c.args.steps.now.items) w)) (sym c.in-Close.is)
    (closes_at _ c.join-in-Close.new.stack c.take-in-Close.new.self c.join-in-Close.new.steps.items
    c.push.new.self.items c.in-Some-Opened.opening c.in_ok-join-in-Close.ensures.joins
    c.in_ok-join-in-Close.ensures.coded front c.in_ok-push-in-Some-Opened.ensures.items)
