use Rattle.std.proofs.Common.{◌≤ℤ◌, take}
use Rattle.std.specs.List.{All}
use Rattle.reduce_ops.proofs.reaching.are_small.Given as goal

abbrev pub invariant-loop-value : goal.invariant-loop-value
invariant-loop-value l = All (λ v. (l.least ≤ℤ v) × (v ≤ℤ l.greatest)) (take l.value-index l.values)
