use Rattle.std.proofs.Common.{[], refl, sym, ap, subst, ◌∙◌}
use Rattle.lambda_expr.specs.declared.step.ParseStep.TheVariants as step
use Rattle.lambda_expr.specs.Grammar.{constant}
use Rattle.lambda_expr.specs.Reader.{follows, alone}
use Rattle.lambda_expr.specs.Codes.{Turns, frames_of, run}
use Rattle.lambda_expr.proofs.JoinLemmas.{leaf_at, top_is, called_next}
use Rattle.lambda_expr.proofs.parse.call.Goals as goal

pub follow-requires : goal.follow-requires
follow-requires c = (leaf_at c.args.stack.now c.args.steps.now.items c.push.new.self.items (step.Constant c.args.name)
    (constant c.args.name) c.in_ok-push-in-Long.ensures.items refl refl c.requires).steps

pub returns-in_ok-push-in-Long : goal.returns-in_ok-push-in-Long
returns-in_ok-push-in-Long c =
    let fs = frames_of c.args.stack.now (run [] c.args.steps.now.items) in
    let l = leaf_at c.args.stack.now c.args.steps.now.items c.push.new.self.items (step.Constant c.args.name)
    (constant c.args.name) c.in_ok-push-in-Long.ensures.items refl refl c.requires in
    let top = top_is c.args.stack.now c.push.new.self.items fs (constant c.args.name) l in
    let there = ap (λ t. follows t c.args.word) top ∙ ap (λ o. alone fs o c.args.name c.args.word) (sym c.in-Long.is)
    ∙ sym (called_next fs c.args.owner c.args.name c.args.word c.in_default.not-Open) in
    subst (λ s. Turns s c.args.at c.follow.new.stack c.follow.new.steps.items c.follow.result) there c.follow.ensures
