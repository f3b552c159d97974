use Rattle.std.proofs.Common.{◌≡◌, ◌++◌, ◌+◌, ◌≤◌, ℕ, [], length, take}
use Rattle.std.specs.Prelude.{vec_capacity, vec_len}
use Rattle.sort_ops.specs.declared.lookup.Lookup.{Lookup}
use Rattle.sort_ops.specs.Firsts.{firsts}
use Rattle.sort_ops.specs.NewValues.{AreKnown, AreNoted}
use Rattle.sort_ops.proofs.new_values.add_unnoted.Given as goal

abbrev pub invariant-loop-position : goal.invariant-loop-position
invariant-loop-position g l = record {
  noted : AreNoted l.noted l.items.items;
  known : (count : ℕ) (m : Lookup) → AreKnown l.fn.items.items count m → AreKnown l.items.items count m;
  same : firsts [] l.items.items
      ≡ firsts [] (l.fn.items.items ++ take l.position (g.I.SourceItems.items l.source));
  room : vec_len l.items + length (g.I.SourceItems.items l.source) ≤ vec_capacity l.items + l.position;
}
