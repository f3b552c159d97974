use Rattle.std.proofs.Common.{◌≡◌, ◌<◌, [], ℕ, Some}
use Rattle.sort_ops.specs.Firsts.{firsts}
use Rattle.sort_ops.specs.NewValues.{AreOnce}
use Rattle.sort_ops.proofs.lookup.take_out_by_classes.Given as goal

abbrev pub invariant-loop-class : goal.invariant-loop-class
invariant-loop-class l = record {
  firsts : firsts [] l.items.items ≡ firsts [] l.initial.items.items;
  once : (k : ℕ) → k < l.class → AreOnce (Some k) l.items.items;
}
