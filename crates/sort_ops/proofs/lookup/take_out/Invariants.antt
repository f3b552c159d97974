use Rattle.std.proofs.Common.{◌≡◌, ◌≤◌, [], ◌++◌, ℕ, Option, length, take, drop, false}
use Rattle.sort_ops.specs.Firsts.{firsts}
use Rattle.sort_ops.specs.NewValues.{AreOnce, Knows}
use Rattle.sort_ops.proofs.lookup.take_out.Given as goal

abbrev pub invariant-loop-position : goal.invariant-loop-position
invariant-loop-position l = record {
  long : length l.items.items ≡ length l.initial.items.items;
  end : l.position-end ≡ length l.initial.items.items;
  kept : l.kept ≤ l.position;
  firsts : firsts [] (take l.kept l.items.items ++ drop l.position l.items.items) ≡ firsts [] l.initial.items.items;
  known : Knows l.lookup (take l.kept l.items.items);
  class : l.lookup.class ≡ l.initial.lookup.class;
  once : l.lookup.partial ≡ false → AreOnce l.initial.lookup.class (take l.from l.initial.items.items)
      → AreOnce l.initial.lookup.class (take l.kept l.items.items);
  going : l.lookup.partial ≡ false → l.initial.lookup.partial ≡ false;
  others : (c : Option ℕ) → AreOnce c l.initial.items.items
      → AreOnce c (take l.kept l.items.items ++ drop l.position l.items.items);
}
