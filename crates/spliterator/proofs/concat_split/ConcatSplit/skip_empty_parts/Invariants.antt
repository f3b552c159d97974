use Rattle.std.proofs.Common.{◌≡◌, ◌∷◌, ◌++◌, length}
use Rattle.spliterator.specs.Parts.{plain_values, all_values, front_of}
use Rattle.spliterator.proofs.concat_split.ConcatSplit.skip_empty_parts.Given as goal

abbrev pub invariant-loop-next : goal.invariant-loop-next
invariant-loop-next l =
    (l.self.origin ≡ l.initial.self.origin)
    × (plain_values l.self.head ++ all_values l.self.tail.now
    ≡ plain_values l.initial.self.head ++ all_values l.initial.self.tail.now)
    × (front_of (l.self.head ∷ l.self.tail.now) ≡ front_of (l.initial.self.head ∷ l.initial.self.tail.now))

abbrev pub decreases-loop-next : goal.decreases-loop-next
decreases-loop-next l = length l.self.tail.now
