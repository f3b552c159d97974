-- Condition: the registers of the operands of inner streams, and the values that come from them.
use Rattle.std.specs.Prelude.{◌≡◌, ℕ, zero, suc, ◌+◌, ◌*◌, ◌<◌, ◌≤◌, ℤ, Bool, true, false, List, [], ◌∷◌, ◌++◌, length}
use Rattle.std.specs.Prelude.{get_or, pos, take, Result, Ok, Err}
use Rattle.lambda_values.specs.declared.fault.FaultKind.{FaultKind}
use Rattle.lambda_values.specs.Earlier.{Numbers}
use Rattle.lambda_values.specs.Streams.{Inner, distance, inner_value, range, range_closed, through, up_from, values}
use Rattle.lambda_values.specs.declared.item.Item.{Item}
use Rattle.trace.specs.declared.item.End.TheVariants as end
use Rattle.trace.specs.Stages.{at_place}
use Rattle.trace.specs.Trace.{Trace, each, trace}
use Rattle.batch_eval.specs.Batches.{gathered, lanes}
use Rattle.batch_eval.specs.Lanes.{at}

-- what the first n registers of 1,024 lanes each hold at a lane
abbrev pub row : List ℤ → ℕ → ℕ → List ℤ
row registers lane zero = []
row registers lane (suc n) = row registers lane n ++ at registers (n * 1024 + lane) ∷ []

-- the integers between two bounds, with the second one if the range is closed
abbrev pub range_values : Bool → ℤ → ℤ → Result (List ℤ) FaultKind
range_values true v w = up_from v (through v w)
range_values false v w = up_from v (distance v w)

-- the values that come from the operands in the registers, at a lane
abbrev pub given : Inner → List ℤ → ℕ → Result (List ℤ) FaultKind
given (range a b) registers k = range_values false (at registers k) (at registers (1024 + k))
given (range_closed a b) registers k = range_values true (at registers k) (at registers (1024 + k))
given (values es) registers k = Ok (row registers k (length es))

-- at each of the first n items the registers hold the operands of the inner stream
abbrev pub HaveOperands : Inner → Numbers → List Item → ℕ → List ℤ → Type 0
HaveOperands inner env items n registers =
    (k : ℕ) → k < n → inner_value inner (get_or items k (record { origin = 0; value = pos 0 })) env
    ≡ given inner registers k

-- the values, if they have no fault
abbrev pub valid_values : Result (List ℤ) FaultKind → List ℤ
valid_values (Ok vs) = vs
valid_values (Err kind) = []

-- those that come from the operands at a lane
abbrev pub values_at : Inner → List ℤ → ℕ → List ℤ
values_at inner registers k = valid_values (given inner registers k)

-- the values at n lanes from one on were put after other items
pub record ArePut (inner : Inner) (registers : List ℤ) (from : ℕ) (place : ℕ → ℕ) (before : List Item) (n next : ℕ)
    (item : ℕ → Item) : Type 0 where
  pub valid : (k : ℕ) → k < n → given inner registers (from + k) ≡ Ok (values_at inner registers (from + k))
  pub put : lanes next item ≡ before ++ gathered n
      (λ k. at_place (place (from + k)) (values_at inner registers (from + k)))
  pub within : next ≤ 1024

-- what the first q items give without a fault is what the first p of them give, and then this part
abbrev pub IsMore : (Item → Trace) → List Item → ℕ → ℕ → List Item → Type 0
IsMore f items p q part = (each f (take p items) end.Done).ending ≡ end.Done
    → each f (take q items) end.Done ≡ trace ((each f (take p items) end.Done).items ++ part) end.Done
