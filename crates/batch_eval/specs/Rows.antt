-- Condition: the places of the lanes of registers.
use Rattle.std.specs.Int.{w64, cast_unsigned}
use Rattle.std.specs.Prelude.{ℕ, ◌+◌, ◌<◌, ◌≤◌, ◌^◌, length, slice_index}
use Rattle.batch_eval.specs.Lanes.{at}
use Rattle.batch_eval.specs.declared.rows.Rows.{Rows}
use Rattle.batch_eval.specs.declared.rows.Rows.TheVariants as rows

-- the place of a lane
abbrev pub row_at : Rows → ℕ → ℕ
row_at (rows.From first) k = first + k
row_at (rows.Listed places) k = slice_index places.now k
row_at (rows.Moved register) k = cast_unsigned w64 (at register.now k)

-- there are places for this many lanes
abbrev pub HasRows : Rows → ℕ → Type 0
HasRows (rows.From first) n = first + n < 2 ^ 64
HasRows (rows.Listed places) n = n ≤ length places.now
HasRows (rows.Moved register) n = n ≤ length register.now
