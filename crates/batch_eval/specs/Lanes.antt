-- Condition: what registers hold, lane by lane, and how far a step over lanes came.
use Rattle.std.specs.Int.{w64, cast_unsigned, int_rem_euclid}
use Rattle.std.specs.Prelude.{◌≡◌, ℕ, ◌<◌, ◌≤◌, ◌^◌, ◌%◌, ℤ, ◌-ℤ◌, ◌≤ℤ◌, pos, negsuc, unsigned_abs, Bool, true, false}
use Rattle.std.specs.Prelude.{not, List, length}
use Rattle.std.specs.Prelude.{slice_index_or, Option, Some, None, Result, Ok, Err}
use Rattle.std.specs.Ordering.{int_eq}
use Rattle.lambda_values.specs.declared.fault.FaultKind.{FaultKind}
use Rattle.lambda_values.specs.declared.operator.BinaryOperator.TheVariants as binary_operator
use Rattle.lambda_values.specs.declared.operator.Comparison.{Comparison}
use Rattle.lambda_values.specs.Operators.{on, binary_value, comparison_value, unary_value}
use Rattle.batch_eval.specs.declared.kernel.Infix.{Infix}
use Rattle.batch_eval.specs.declared.kernel.Infix.TheVariants as op
use Rattle.batch_eval.specs.declared.operands.Beside.{Beside}
use Rattle.batch_eval.specs.declared.operands.Beside.TheVariants as beside
use Rattle.batch_eval.specs.declared.operands.Branch.{Branch}
use Rattle.batch_eval.specs.declared.operands.Branch.TheVariants as branch
use Rattle.batch_eval.specs.declared.operands.Held.{Held}
use Rattle.batch_eval.specs.declared.operands.Held.TheVariants as held
use Rattle.batch_eval.specs.declared.operands.Step.{Step}
use Rattle.batch_eval.specs.declared.operands.Step.TheVariants as step
use Rattle.batch_eval.specs.declared.reached.Reached.{Reached}

-- the number at a lane of a register
abbrev pub at : List ℤ → ℕ → ℤ
at xs k = slice_index_or xs k (pos 0)

-- a boolean as a register holds it
abbrev pub flag_of : Bool → ℤ
flag_of true = negsuc 0
flag_of false = pos 0

-- a flag that is set
abbrev pub is_set : ℤ → Bool
is_set z = not (int_eq z (pos 0))

-- a boolean, or a fault, as a register holds it
abbrev pub flagged : Result Bool FaultKind → Result ℤ FaultKind
flagged r = on r (λ b. Ok (flag_of b))

abbrev pub compared : Comparison → ℤ → ℤ → Result ℤ FaultKind
compared c x y = Ok (flag_of (comparison_value c x y))

-- an operator between two numbers, or on the first one alone, with a boolean as a flag
abbrev pub infix_value : Infix → ℤ → ℤ → Result ℤ FaultKind
infix_value (op.Compute o) x y = binary_value o x y
infix_value (op.Compare c) x y = compared c x y
infix_value (op.Alone o) x y = unary_value o x

-- the value by an operator of a list, if it is there
abbrev pub known_value : Option Infix → ℤ → ℤ → Result ℤ FaultKind
known_value (Some o) x y = infix_value o x y
known_value None x y = Ok (pos 0)

-- the value of an operator that has no fault
abbrev pub or_zero : Result ℤ FaultKind → ℤ
or_zero (Ok z) = z
or_zero (Err e) = pos 0

-- the lower 32 bits of a number
abbrev pub lower_half : ℤ → ℤ
lower_half y = pos (cast_unsigned w64 y % 2 ^ 32)

-- how far a number is from the least one, modulo 2^64
abbrev pub gap : ℤ → ℤ → ℕ
gap least x = unsigned_abs (int_rem_euclid (x -ℤ least) (pos (2 ^ 64)))

-- what a step makes of a number
abbrev pub step_value : Step → ℤ → ℤ
step_value step.Stay v = v
step_value (step.Add z) v = or_zero (binary_value binary_operator.Add v z)
step_value (step.Subtract z) v = or_zero (binary_value binary_operator.Subtract v z)
step_value (step.MultiplyByHalf z) v = or_zero (binary_value binary_operator.Multiply v (lower_half z))
step_value (step.ShiftLeft z) v = or_zero (binary_value binary_operator.ShiftLeft v z)
step_value (step.ShiftRight z) v = or_zero (binary_value binary_operator.ShiftRight v z)
step_value (step.ShiftRightUnsigned z) v = or_zero (binary_value binary_operator.ShiftRightUnsigned v z)
step_value (step.And z) v = or_zero (binary_value binary_operator.And v z)
step_value (step.Xor z) v = or_zero (binary_value binary_operator.Xor v z)
step_value (step.Or z) v = or_zero (binary_value binary_operator.Or v z)

-- the operand that is held, at a lane
abbrev pub held_at : Held → List ℤ → ℕ → ℤ
held_at held.Out out k = at out k
held_at (held.Register xs) out k = at xs.now k

-- it has at least this many lanes
abbrev pub HasHeld : Held → ℕ → Type 0
HasHeld held.Out n = Unit {0}
HasHeld (held.Register xs) n = n ≤ length xs.now

-- an operator between the operand that is held and the other one, at a lane
abbrev pub beside_value : (ℤ → ℤ → Result ℤ FaultKind) → Beside → ℤ → ℕ → Result ℤ FaultKind
beside_value f (beside.Register ys s) v k = f v (step_value s (at ys.now k))
beside_value f (beside.Number s y) v k = f (step_value s v) y
beside_value f (beside.NumberFirst x) v k = f x v

-- the other one has at least this many lanes
abbrev pub HasBeside : Beside → ℕ → Type 0
HasBeside (beside.Register ys s) n = n ≤ length ys.now
HasBeside (beside.Number s y) n = Unit {0}
HasBeside (beside.NumberFirst x) n = Unit {0}

-- the other operand is within two bounds at each of these lanes, and the one that is held goes through no step
abbrev pub BesideWithin : ℤ → ℤ → Beside → ℕ → Type 0
BesideWithin least greatest (beside.Register ys s) n =
    (k : ℕ) → k < n → (least ≤ℤ step_value s (at ys.now k)) × (step_value s (at ys.now k) ≤ℤ greatest)
BesideWithin least greatest (beside.Number s y) n = (s ≡ step.Stay) × (least ≤ℤ y) × (y ≤ℤ greatest)
BesideWithin least greatest (beside.NumberFirst x) n = (least ≤ℤ x) × (x ≤ℤ greatest)

-- what a condition chooses at a lane
abbrev pub branch_at : Branch → ℕ → ℤ
branch_at (branch.Number z) k = z
branch_at (branch.Register xs s) k = step_value s (at xs.now k)

-- it has at least this many lanes
abbrev pub HasBranch : Branch → ℕ → Type 0
HasBranch (branch.Number z) n = Unit {0}
HasBranch (branch.Register xs s) n = n ≤ length xs.now

-- n lanes were done up to this one: all of them, or the one that has this fault
abbrev pub StopsAt : (ℕ → Result ℤ FaultKind) → ℕ → ℕ → Option FaultKind → Type 0
StopsAt f n live None = live ≡ n
StopsAt f n live (Some kind) = (live < n) × (f live ≡ Err kind)

-- of n lanes, those before the stop have their value, and the lane of the stop has its fault
pub record Reaches (f : ℕ → Result ℤ FaultKind) (register : ℕ → ℤ) (n : ℕ) (r : Reached) : Type 0 where
  pub within : r.live ≤ n
  pub values : (k : ℕ) → k < r.live → f k ≡ Ok (register k)
  pub stop : StopsAt f n r.live r.fault

-- the first fault of two steps; a fault of the later step is at an earlier lane
abbrev pub later_fault : Option FaultKind → Option FaultKind → Option FaultKind
later_fault (Some kind) before = Some kind
later_fault None before = before

abbrev pub after : Reached → Reached → Reached
after later earlier = record { live = later.live; fault = later_fault later.fault earlier.fault }
