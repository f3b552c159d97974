-- Condition: what the walk of a part of a list of numbers gives: its numbers, or the place of its first negative
-- number.
use Rattle.std.specs.Prelude.{◌≡◌, ℕ, ℤ, pos, ◌-◌, ◌<◌, ◌≤◌, true, false, List, take, drop, Some, Result, Ok, Err}
use Rattle.std.specs.Prelude.{int_lt, slice_index_or, ⊤}
use Rattle.pending_count.specs.declared.place.Side.{Side}
use Rattle.pending_count.specs.declared.place.Side.TheVariants.{Left, Right, Whole}
use Rattle.completer_tree.specs.declared.part.Failure.{Failure}
use Rattle.completer_tree.specs.declared.part.Failure.TheVariants as failed
use Rattle.test_completers.specs.declared.cut.NumberCut.{NumberCut}

-- the numbers from one place up to, not with, another
abbrev pub slice : List ℤ → ℕ → ℕ → List ℤ
slice xs from to = take (to - from) (drop from xs)

-- where the numbers of a side begin and end
abbrev pub begins : NumberCut → Side → ℕ
begins c Left = c.from
begins c Right = c.middle
begins c Whole = c.from

abbrev pub ends_at : NumberCut → Side → ℕ
ends_at c Left = c.middle
ends_at c Right = c.to
ends_at c Whole = c.to

-- none of these numbers is negative
abbrev pub IsClean : List ℤ → ℕ → ℕ → Type 0
IsClean xs from to = (i : ℕ) → from ≤ i → i < to → int_lt (slice_index_or xs i (pos 0)) (pos 0) ≡ false

-- the first negative one of these is at this place
abbrev pub IsFirstNegative : List ℤ → ℕ → ℕ → ℕ → Type 0
IsFirstNegative xs from to i = (from ≤ i) × (i < to) × (int_lt (slice_index_or xs i (pos 0)) (pos 0) ≡ true)
    × IsClean xs from i

-- the walk gives all these numbers, or a fault at the place of the first negative one
abbrev pub Walked : {X : Type 0} → (X → List ℤ) → List ℤ → ℕ → ℕ → Result X Failure → Type 0
Walked items xs from to (Ok x) = (items x ≡ slice xs from to) × IsClean xs from to
Walked items xs from to (Err (failed.Fault f)) = (i : ℕ) × (f.origin ≡ Some i) × IsFirstNegative xs from to i
Walked items xs from to (Err failed.NoMemory) = ⊤
