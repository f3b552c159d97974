use Rattle.std.proofs.Common.{◌≡◌, [], ap, sym, ◌∙◌}
use Rattle.lambda_expr.specs.Elaborating.{top_typed, typed_of, typed_steps}
use Rattle.lambda_expr.specs.Lexemes.{names_in}
use Rattle.lambda_values.specs.Term.{long_of}
use Rattle.lambda_expr.specs.Typing.{long}
use Rattle.lambda_expr.proofs.StreamLemmas.{numbers_on}
use Rattle.lambda_expr.proofs.stream.numbers.Goals as goal

pub loop-operand-preserved : goal.loop-operand-preserved
loop-operand-preserved c =
    let h = names_in c.args.text.now.bytes c.args.text.now.tokens in
    let v = c.operand-item.result in
    let type : top_typed (typed_steps h [] v.items) ≡ long (long_of c.in-Long.expr) =
    ap (λ s. top_typed (typed_steps h [] s)) (sym c.deref.ensures.value) ∙ sym c.in_ok-expr.ensures
    ∙ ap typed_of c.in-Long.is in
    numbers_on h c.args.operands.now c.loop-operand.operand-index _ v c.loop-operand.exprs.items c.push.new.self.items
    c.in-Long.expr c.loop-operand-test.true c.operand-item.is type c.in_ok-push-in-Long.ensures.items
    ∙ c.loop-operand.invariant
