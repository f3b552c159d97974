use Rattle.std.proofs.Common.{◌≡◌, ◌∷◌, ◌++◌, ◌<◌, List, Ok, length, subst, sym, rules, arith}
use Rattle.lambda_values.specs.Streams.{each_value, exprs_of}
use Rattle.lambda_values.specs.Term.{long_of}
use Rattle.lambda_values.specs.declared.expr.LongExpr.{LongExpr}
use Rattle.batch_eval.specs.InnerColumns.{row}
use Rattle.batch_eval.specs.Choices.{lane_item}
use Rattle.batch_eval.proofs.FewLemmas.{values_more}
use Rattle.batch_eval.proofs.inner_columns.+eval_each.Goals as goal

pub returns-clause-values : goal.returns-clause-values
returns-clause-values t c = λ k below.
    let split : c.args.operands.now ≡ c.in-Some.expr.now ∷ c.in-Some.others.now = search rules in
    let column = c.eval_long-live.new.out in
    let later = c.eval_each.new.registers in
    let inside : k < c.eval_long-live.result.live = omega (arith, below, c.eval_each.ensures.within) in
    let size : length column ≡ 1024 = search rules in
    let x = lane_item c.args.inputs k in
    let env = c.args.inputs.env.now in
    subst (λ (es : List LongExpr). each_value (exprs_of es) x env ≡ Ok (row (column ++ later) k (length es)))
    (sym split) (values_more (long_of c.in-Some.expr.now) (exprs_of c.in-Some.others.now) x env column later k
    (length c.in-Some.others.now) size (omega (arith, inside, c.eval_long-live.ensures.within, c.requires.lanes))
    (c.eval_long-live.ensures.values k inside) (c.eval_each.ensures.values k below))
