use Rattle.std.proofs.Common.{[], refl, ap, sym, subst, ◌∙◌}
use Rattle.lambda_expr.specs.declared.lexeme.Lexeme.TheVariants as word
use Rattle.lambda_expr.specs.declared.parse.Held.TheVariants.{Complete}
use Rattle.lambda_expr.specs.declared.step.ParseStep.TheVariants as step
use Rattle.lambda_expr.specs.Grammar.{name, number, reference, truth}
use Rattle.lambda_expr.specs.Reader.{starts}
use Rattle.lambda_expr.specs.Codes.{IsAt, frames_of, run}
use Rattle.lambda_expr.proofs.JoinLemmas.{leaf_at}
use Rattle.lambda_expr.proofs.parse.start.Goals as goal

pub returns-in_ok-push-in-Number : goal.returns-in_ok-push-in-Number
returns-in_ok-push-in-Number c = subst (λ w. IsAt c.args.stack.now c.push-in-Number.new.self.items Complete
    (starts (frames_of c.args.stack.now (run [] c.args.steps.now.items)) w)) (sym c.in-Number.is)
    (leaf_at c.args.stack.now c.args.steps.now.items c.push-in-Number.new.self.items (step.Number c.in-Number.number)
    (number c.in-Number.number) c.in_ok-push-in-Number.ensures.items refl refl c.requires)

pub returns-in_ok-push-in-Reference : goal.returns-in_ok-push-in-Reference
returns-in_ok-push-in-Reference c = subst
    (λ w. IsAt c.args.stack.now c.push-in-Reference.new.self.items Complete
    (starts (frames_of c.args.stack.now (run [] c.args.steps.now.items)) w)) (sym c.in-Reference.is)
    (leaf_at c.args.stack.now c.args.steps.now.items c.push-in-Reference.new.self.items
    (step.Reference c.in-Reference.place) (reference c.in-Reference.place) c.in_ok-push-in-Reference.ensures.items refl
    refl c.requires)

pub returns-in_ok-push-in-Name-Plain : goal.returns-in_ok-push-in-Name-Plain
returns-in_ok-push-in-Name-Plain c =
    let named = rw c.in-Name-Plain.is at c.in-Name-Plain.field-0-is in
    subst (λ w. IsAt c.args.stack.now c.push.new.self.items Complete
    (starts (frames_of c.args.stack.now (run [] c.args.steps.now.items)) w))
    (sym (c.in-Name-Plain.is ∙ ap word.Name named))
    (leaf_at c.args.stack.now c.args.steps.now.items c.push.new.self.items (step.Name c.in-Name-Plain.place)
    (name c.in-Name-Plain.place) c.in_ok-push-in-Name-Plain.ensures.items refl refl c.requires)

pub returns-in_ok-push-in-Name-Truth : goal.returns-in_ok-push-in-Name-Truth
returns-in_ok-push-in-Name-Truth c =
    let named = rw c.in-Name-Truth.is at c.in-Name-Truth.field-0-is in
    subst (λ w. IsAt c.args.stack.now c.push-in-Name-Truth.new.self.items Complete
    (starts (frames_of c.args.stack.now (run [] c.args.steps.now.items)) w))
    (sym (c.in-Name-Truth.is ∙ ap word.Name named))
    (leaf_at c.args.stack.now c.args.steps.now.items c.push-in-Name-Truth.new.self.items
    (step.Truth c.in-Name-Truth.value) (truth c.in-Name-Truth.value) c.in_ok-push-in-Name-Truth.ensures.items refl
    refl c.requires)
