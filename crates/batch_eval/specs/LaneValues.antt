-- Condition: values of lanes that lie in memory, or count up.
use Rattle.std.specs.Prelude.{ℕ, ◌^◌, ℤ, pos, ◌+ℤ◌, length}
use Rattle.lambda_values.specs.Wrap.{wrap}
use Rattle.batch_eval.specs.Lanes.{at}
use Rattle.batch_eval.specs.declared.flagged_lanes.LaneValues.{LaneValues}
use Rattle.batch_eval.specs.declared.flagged_lanes.LaneValues.TheVariants as values

-- the value at a lane
abbrev pub value_at : LaneValues → ℕ → ℤ
value_at (values.Listed vs) k = at vs.now k
value_at (values.CountUp first) k = wrap (first +ℤ pos k)

-- how many lanes have a value at least
abbrev pub lanes_with : LaneValues → ℕ
lanes_with (values.Listed vs) = length vs.now
lanes_with (values.CountUp first) = 2 ^ 63
