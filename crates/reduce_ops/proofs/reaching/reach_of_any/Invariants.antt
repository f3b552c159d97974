use Rattle.std.proofs.Common.{◌≡◌, take}
use Rattle.reduce_ops.specs.Reaches.{reach_in, reach_of}
use Rattle.reduce_ops.proofs.reaching.reach_of_any.Given as goal

abbrev pub invariant-loop-value : goal.invariant-loop-value
invariant-loop-value l = reach_in l.reach ≡ reach_of (take l.value-index l.values)
