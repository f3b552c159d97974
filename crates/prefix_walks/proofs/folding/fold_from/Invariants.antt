use Rattle.std.proofs.Common.{◌≡◌, take, fold}
use Rattle.reduce_ops.specs.Operators.{value_of}
use Rattle.prefix_walks.specs.Batches.{each_one}
use Rattle.prefix_walks.proofs.folding.fold_from.Given as goal

abbrev pub invariant-loop-value : goal.invariant-loop-value
invariant-loop-value l = l.folded ≡ fold (λ a v. value_of l.op a (each_one l.counts v)) l.start
    (take l.value-index l.values)
