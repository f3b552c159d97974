use Rattle.std.proofs.Common.{◌≡◌, ◌+◌, ◌≤◌, ◌^◌, length, drop}
use Rattle.spliterator.specs.Parts.{all_values}
use Rattle.spliterator.proofs.concat_split.total_size.Given as goal

abbrev pub invariant-loop-part : goal.invariant-loop-part
invariant-loop-part l =
    (l.total ≤ 2 ^ 62) × (l.total + length (all_values (drop l.part-index l.parts)) ≡ length (all_values l.parts))
