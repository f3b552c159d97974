use Rattle.std.proofs.Common.{◌<◌, ◌≤◌, ◌^◌, Some, pos, length, sym, ap, subst, ◌∙◌, arith, rules, true}
use Rattle.lambda_values.specs.Wrap.{wrap}
use Rattle.lambda_values.specs.Streams.{run_values}
use Rattle.lambda_values.proofs.Quotients.{wrap_small}
use Rattle.trace.proofs.Sources.{length-counted}
use Rattle.reduce_ops.specs.declared.op.Op.{Op}
use Rattle.reduce_ops.specs.Operators.{value_of}
use Rattle.prefix_walks.specs.Batches.{folded_values}
use Rattle.prefix_walks.proofs.FlaggedFolds.{ones_folded}
use Rattle.prefix_walks.proofs.folding.count_run.Goals as goal

pub returns-in-Sum : goal.returns-in-Sum
returns-in-Sum c =
    let run = c.args.run in
    let size = length-counted run.first run.count in
    let some : 0 < length (run_values run) = subst (λ n. 0 < n) (sym size) c.requires.some in
    let few : run.count ≤ 2 ^ 62 = search rules in
    let number = wrap_small (pos run.count) (omega (arith, few)) in
    ap Some (sym number ∙ ap (λ n. wrap (pos n)) (sym size)) ∙ ones_folded (run_values run) some
    ∙ ap (λ (op : Op). folded_values (value_of op) true (run_values run)) (sym c.in-Sum.is)
