-- Condition: what a slice makes of the items to come.
use Rattle.std.specs.Prelude.{◌≡◌, ℕ, List, length, Option, Some, None}
use Rattle.lambda_values.specs.Earlier.{Numbers}
use Rattle.lambda_values.specs.Term.{truth_of}
use Rattle.lambda_values.specs.declared.item.Item.{Item}
use Rattle.trace.specs.declared.item.End.{End}
use Rattle.trace.specs.Stops.{stop_at}
use Rattle.slice_ops.specs.declared.rest.SliceRest.{SliceRest}
use Rattle.slice_ops.specs.declared.rest.SliceRest.TheVariants as rest
use Rattle.slice_ops.specs.Slices.{AbstractSlice, limit, skip, take_while, drop_while, front_ends}

-- the slice that the walk of the items to come passes
abbrev pub rest_of : SliceRest → AbstractSlice
rest_of (rest.Limit k) = limit k
rest_of (rest.Skip k) = skip k
rest_of (rest.TakeWhile p) = take_while (truth_of p.now)
rest_of (rest.DropWhile p) = drop_while (truth_of p.now)

-- how many items come before the first one that ends the front
abbrev pub before_stop : Option (ℕ × End) → List Item → ℕ
before_stop None xs = length xs
before_stop (Some p) xs = p.0

-- the number of items before the first one at which the test of the slice isn't true; `limit` and `skip` ask nothing
abbrev pub IsTested : AbstractSlice → ℕ → Numbers → List Item → ℕ → Type 0
IsTested (limit k) n env xs front = Unit {0}
IsTested (skip k) n env xs front = Unit {0}
IsTested (take_while p) n env xs front = front ≡ before_stop (stop_at (front_ends p n env) xs) xs
IsTested (drop_while p) n env xs front = front ≡ before_stop (stop_at (front_ends p n env) xs) xs

-- the front has this many items and then ends as said, if it ends
abbrev pub stop_after : ℕ → Option End → Option (ℕ × End)
stop_after front None = None
stop_after front (Some e) = Some (front, e)
