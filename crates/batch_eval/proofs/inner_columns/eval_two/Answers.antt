use Rattle.std.proofs.Common.{◌≡◌, ◌<◌, ◌∙◌, ℤ, Ok, Result, length, ap, sym, rules, arith}
use Rattle.lambda_values.specs.declared.fault.FaultKind.{FaultKind}
use Rattle.batch_eval.proofs.FewLemmas.{beside}
use Rattle.batch_eval.proofs.inner_columns.eval_two.Goals as goal

pub returns-clause-values : goal.returns-clause-values
returns-clause-values c = λ k below.
    let f = c.eval_long-live.new.out in
    let t = c.eval_long.new.out in
    let size : length f ≡ 1024 = search rules in
    let inside : k < c.eval_long-live.result.live = omega (arith, below, c.eval_long.ensures.within) in
    let both = beside f t k size (omega (arith, inside, c.eval_long-live.ensures.within, c.requires.lanes)) in
    let ok : ℤ → Result ℤ FaultKind = λ z. Ok z in (
      c.eval_long-live.ensures.values k inside ∙ ap ok (sym both.0),
      c.eval_long.ensures.values k below ∙ ap ok (sym both.1),
    )
