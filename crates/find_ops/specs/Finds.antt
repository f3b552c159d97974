-- Meaning: what the terminals that look for an item give.
use Rattle.std.specs.Prelude.{ℕ, Bool, true, false, List, [], ◌∷◌, Option, Some, None, Result, Ok, Err}
use Rattle.std.specs.Option.{option_or}
use Rattle.lambda_values.specs.Earlier.{Numbers}
use Rattle.lambda_values.specs.Term.{Truth, truth_of}
use Rattle.lambda_values.specs.Value.{truth_value}
use Rattle.lambda_values.specs.declared.fault.FaultKind.{FaultKind}
use Rattle.lambda_values.specs.declared.item.Item.{Item}
use Rattle.trace.specs.declared.item.Fault.{Fault}
use Rattle.trace.specs.declared.item.End.{End}
use Rattle.trace.specs.declared.item.End.TheVariants as end
use Rattle.trace.specs.Trace.{Trace}
use Rattle.find_ops.specs.declared.find_part.Found.{Found}
use Rattle.find_ops.specs.declared.find_part.Found.TheVariants as found
use Rattle.find_ops.specs.declared.terminal.FindTerminal.{FindTerminal}
use Rattle.find_ops.specs.declared.terminal.FindTerminal.TheVariants as terminal

-- a terminal, by the test that it makes
pub data Find : Type 0 where
  first : Find
  any_match : Truth → Find
  all_match : Truth → Find
  none_match : Truth → Find

-- the find that a terminal of the program means
abbrev pub find_of : FindTerminal → Find
find_of terminal.First = first
find_of (terminal.AnyMatch p) = any_match (truth_of p)
find_of (terminal.AllMatch p) = all_match (truth_of p)
find_of (terminal.NoneMatch p) = none_match (truth_of p)

-- what an empty stream gives (`LongStream.findFirst`, `anyMatch`, `allMatch`, `noneMatch`)
abbrev pub answer_of_none : Find → Found
answer_of_none first = found.Value None
answer_of_none (any_match p) = found.Truth false
answer_of_none (all_match p) = found.Truth true
answer_of_none (none_match p) = found.Truth true

-- helper: an answer, if the test came out so
abbrev pub if_true : Found → Bool → Option (Result Found Fault)
if_true a true = Some (Ok a)
if_true a false = None

-- helper: an answer, if the test came out false
abbrev pub if_false : Found → Bool → Option (Result Found Fault)
if_false a true = None
if_false a false = Some (Ok a)

-- helper: a test without a value ends the walk with a fault of this stage at this item
abbrev pub tested : ℕ → Item → (Bool → Option (Result Found Fault)) → Result Bool FaultKind
    → Option (Result Found Fault)
tested n x f (Ok b) = f b
tested n x f (Err k) = Some (Err (record { kind = k; stage = n; origin = Some x.origin }))

-- what an item decides, if it decides: the answer, or the fault of the test
abbrev pub decision : Find → ℕ → Numbers → Item → Option (Result Found Fault)
decision first n env x = Some (Ok (found.Value (Some x.value)))
decision (any_match p) n env x = tested n x (if_true (found.Truth true)) (truth_value p x env)
decision (all_match p) n env x = tested n x (if_false (found.Truth false)) (truth_value p x env)
decision (none_match p) n env x = tested n x (if_true (found.Truth false)) (truth_value p x env)

-- the decision of the first item that decides
abbrev pub first_decision : Find → ℕ → Numbers → List Item → Option (Result Found Fault)
first_decision d n env [] = None
first_decision d n env (x ∷ xs) = option_or (decision d n env x) (first_decision d n env xs)

-- the end of a walk decides only if it is a fault
abbrev pub decision_at_end : End → Option (Result Found Fault)
decision_at_end end.Done = None
decision_at_end (end.Fault f) = Some (Err f)

-- what a walk decides
abbrev pub decision_of : Find → ℕ → Numbers → Trace → Option (Result Found Fault)
decision_of d n env t = option_or (first_decision d n env t.items) (decision_at_end t.ending)

-- a decision, or what an empty stream gives
abbrev pub decided_or : Found → Option (Result Found Fault) → Result Found Fault
decided_or a (Some r) = r
decided_or a None = Ok a

-- the answer of a terminal, which is the stage with this number
abbrev pub find_answer : Find → ℕ → Numbers → Trace → Result Found Fault
find_answer d n env t = decided_or (answer_of_none d) (decision_of d n env t)
