-- Meaning: the values of an inner stream.
use Rattle.std.specs.Prelude.{ℕ, zero, suc, ◌^◌, ℤ, pos, ◌+ℤ◌, ◌-ℤ◌, int_lt, nat_lt, unsigned_abs, if◌then◌else◌, List}
use Rattle.std.specs.Prelude.{[], ◌∷◌, Option, Some, None, Result, Ok, Err}
use Rattle.lambda_values.specs.declared.fault.FaultKind.{FaultKind}
use Rattle.lambda_values.specs.declared.fault.FaultKind.TheVariants.{SourceTooLong}
use Rattle.lambda_values.specs.declared.item.Item.{Item}
use Rattle.lambda_values.specs.declared.expr.LongExpr.{LongExpr}
use Rattle.lambda_values.specs.declared.inner.InnerExpr.{InnerExpr}
use Rattle.lambda_values.specs.declared.inner.InnerExpr.TheVariants as inner_expr
use Rattle.lambda_values.specs.declared.inner.Inner.{Inner as Values}
use Rattle.lambda_values.specs.declared.inner.Inner.TheVariants as given
use Rattle.lambda_values.specs.declared.run.Run.{Run}
use Rattle.lambda_values.specs.Earlier.{Numbers}
use Rattle.lambda_values.specs.Operators.{on}
use Rattle.lambda_values.specs.Term.{Long, long_of}
use Rattle.lambda_values.specs.Value.{long_value}

-- an expression whose value is a stream of numbers
pub data Inner : Type 0 where
  range : Long → Long → Inner
  range_closed : Long → Long → Inner
  values : List Long → Inner

-- n integers that count up from a
abbrev pub counted : ℤ → ℕ → List ℤ
counted a zero = []
counted a (suc n) = a ∷ counted (a +ℤ pos 1) n

-- how many integers there are from a up to, not with, b
abbrev pub distance : ℤ → ℤ → ℕ
distance a b = if int_lt a b then unsigned_abs (b -ℤ a) else 0

-- how many integers there are from a up to and with b
abbrev pub through : ℤ → ℤ → ℕ
through a b = if int_lt b a then 0 else suc (unsigned_abs (b -ℤ a))

-- more than 2^62 values are a fault
abbrev pub up_from : ℤ → ℕ → Result (List ℤ) FaultKind
up_from a n = if nat_lt (2 ^ 62) n then Err SourceTooLong else Ok (counted a n)

-- the values of operands from left to right, or the first fault (JLS 17, 15.7)
abbrev pub each_value : List Long → Item → Numbers → Result (List ℤ) FaultKind
each_value [] x env = Ok []
each_value (e ∷ es) x env = on (long_value e x env) (λ v. on (each_value es x env) (λ vs. Ok (v ∷ vs)))

-- the values at the item x: of LongStream, range, rangeClosed, of and empty
abbrev pub inner_value : Inner → Item → Numbers → Result (List ℤ) FaultKind
inner_value (range a b) x env = on (long_value a x env) (λ v. on (long_value b x env) (λ w. up_from v (distance v w)))
inner_value (range_closed a b) x env = on (long_value a x env)
    (λ v. on (long_value b x env) (λ w. up_from v (through v w)))
inner_value (values es) x env = each_value es x env

-- the terms that expressions of the program mean
abbrev pub exprs_of : List LongExpr → List Long
exprs_of [] = []
exprs_of (e ∷ es) = long_of e ∷ exprs_of es

abbrev pub inner_of : InnerExpr → Inner
inner_of (inner_expr.Range a b) = range (long_of a) (long_of b)
inner_of (inner_expr.RangeClosed a b) = range_closed (long_of a) (long_of b)
inner_of (inner_expr.Of operands) = values (exprs_of operands.exprs.items)

-- the values that an evaluation gives
abbrev pub run_values : Run → List ℤ
run_values run = counted run.first run.count

abbrev pub inner_values : Values → List ℤ
inner_values (given.Range run) = run_values run
inner_values (given.Values vs) = vs.items

-- the integers in a row, or without them the values in a list
abbrev pub run_or_listed : Option Run → List ℤ → List ℤ
run_or_listed (Some run) vs = run_values run
run_or_listed None vs = vs
