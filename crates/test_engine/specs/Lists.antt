-- Condition: the jobs of these tests, which copy lists.
use Rattle.std.specs.Prelude.{ℕ, ℤ, suc, ◌-◌, ◌%◌, List, [], ◌∷◌, take, drop}
use Rattle.lambda_values.specs.declared.item.Item.{Item}
use Rattle.trace.specs.declared.item.End.TheVariants as end
use Rattle.trace.specs.Trace.{Trace, trace}
use Rattle.early_stop.specs.Decisive.{Decides}

-- the numbers from one position up to, not with, another
abbrev pub slice : List ℤ → ℕ → ℕ → List ℤ
slice xs from to = take (to - from) (drop from xs)

-- these numbers as items; places count up from one
abbrev pub items_from : ℕ → List ℤ → List Item
items_from place [] = []
items_from place (x ∷ xs) = record { origin = place; value = x } ∷ items_from (suc place) xs

-- the walk over these numbers
abbrev pub walk_of : List ℤ → Trace
walk_of xs = trace (items_from 0 xs) end.Done

-- how the walk over these numbers ends is decided before its first item, as it would be by a fault there
abbrev pub EndsAtOnce : List ℤ → Type 0
EndsAtOnce xs = Decides (λ (t : Trace). t.ending) (walk_of xs) 0

-- the number of a job's last leg
abbrev pub JobLast : ℕ → ℕ
JobLast job = job % 3
