-- Condition: the values of operands, as the definitions of expressions combine them.
use Rattle.std.specs.Prelude.{◌≡◌, ◌&&◌, ◌||◌, ℕ, ℤ, Bool, Result, Ok}
use Rattle.lambda_values.specs.declared.fault.FaultKind.{FaultKind}
use Rattle.lambda_values.specs.declared.item.Item.{Item}
use Rattle.lambda_values.specs.Earlier.{Numbers}
use Rattle.lambda_values.specs.Operators.{on}
use Rattle.lambda_values.specs.Term.{long_of, truth_of}
use Rattle.lambda_values.specs.Value.{chosen, long_value, truth_value}
use Rattle.lambda_values.specs.declared.operator.Connective.{Connective}
use Rattle.lambda_values.specs.declared.operator.Connective.TheVariants as connective
use Rattle.batch_eval.specs.Batches.{holds}
use Rattle.batch_eval.specs.declared.operands.LaneTest.{LaneTest}
use Rattle.batch_eval.specs.declared.register.Operand.{Operand}
use Rattle.batch_eval.specs.declared.register.Operand.TheVariants as operand
use Rattle.batch_eval.specs.declared.register.Inputs.{Inputs}
use Rattle.batch_eval.specs.Rows.{row_at}
use Rattle.batch_eval.specs.Lanes.{at, flag_of, flagged, is_set, step_value}

-- the item of a lane
abbrev pub lane_item : Inputs → ℕ → Item
lane_item inputs k = record { origin = row_at inputs.rows k; value = at inputs.xs.now k }

-- what an expression gives at a lane
abbrev pub at_each : {A : Type 0} → Inputs → (Item → Numbers → A) → ℕ → A
at_each inputs f k = f (lane_item inputs k) inputs.env.now

-- both operands, from left to right, and then the operator
abbrev pub between : (ℤ → ℤ → Result ℤ FaultKind) → Result ℤ FaultKind → Result ℤ FaultKind → Result ℤ FaultKind
between f a b = on a (λ v. on b (λ w. f v w))

-- one of two operands, by a condition; the other one is not looked at
abbrev pub chosen_value : Result Bool FaultKind → Result ℤ FaultKind → Result ℤ FaultKind → Result ℤ FaultKind
chosen_value c a b = on c (λ t. chosen t a b)

-- one of two values, by a flag
abbrev pub by_flag : ℤ → Result ℤ FaultKind → Result ℤ FaultKind → Result ℤ FaultKind
by_flag z a b = chosen (is_set z) a b

-- the value of an operand at an item
abbrev pub operand_value : Operand → Item → Numbers → Result ℤ FaultKind
operand_value (operand.Long e) x env = long_value (long_of e.now) x env
operand_value (operand.Bool p) x env = flagged (truth_value (truth_of p.now) x env)
operand_value (operand.Flag b) x env = Ok (flag_of b)

-- an operand has one value at two rows
abbrev pub IsSame : Operand → ℕ → ℕ → Type 0
IsSame o i j = (v : ℤ) (env : Numbers) → operand_value o (record { origin = i; value = v }) env
    ≡ operand_value o (record { origin = j; value = v }) env

-- whether the number at a lane passes a test after a step
abbrev pub lane_passes : LaneTest → ℕ → Bool
lane_passes t k = holds t.set (step_value t.step (at t.xs.now k))

-- a flag and a boolean, connected
abbrev pub connected_flag : Connective → ℤ → Bool → ℤ
connected_flag connective.And z b = flag_of (is_set z && b)
connected_flag connective.Or z b = flag_of (is_set z || b)
