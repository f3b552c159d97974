-- Condition: stages that are maps, and expressions and stages that can't have a fault.
use Rattle.std.specs.Prelude.{◌≡◌, ◌≤◌, ℕ, ℤ, Bool, true, false, List, [], ◌∷◌, length, Result, Ok, Err, ⊤}
use Rattle.std.specs.Coded.{×_prop, Π_prop, Coded-set}
use Rattle.std.proofs.Props.{props}
use Rattle.lambda_values.specs.Earlier.{Numbers, nothing_named}
use Rattle.lambda_values.specs.Term.{Long, Truth}
use Rattle.lambda_values.specs.Value.{long_value, truth_value}
use Rattle.trace.specs.contracts.chunk.Chunk as chunks
use Rattle.lambda_values.specs.declared.item.Item.{Item}
use Rattle.trace.specs.declared.item.End.{End}
use Rattle.trace.specs.declared.item.Fault.{Fault}
use Rattle.trace.specs.declared.item.End.TheVariants as end
use Rattle.trace.specs.Stages.{AbstractStage, pipe}
use Rattle.trace.specs.Trace.{Trace, trace}

-- one item, or a fault
abbrev pub one_or : Result Item Fault → Trace
one_or (Ok x) = trace (x ∷ []) end.Done
one_or (Err f) = trace [] (end.Fault f)

-- stages make one item, or a fault, of each item
abbrev pub AreMaps : List AbstractStage → Type 0
AreMaps gs = (m : ℕ) (env : Numbers) (x : Item)
    → (r : Result Item Fault) × (pipe m gs env (trace (x ∷ []) end.Done) ≡ one_or r)

-- numbers of earlier jobs that can make no difference: equal ones if lambdas may name earlier jobs, else any
abbrev pub Agree : Bool → Numbers → Numbers → Type 0
Agree true env other = other ≡ env
Agree false env other = ⊤

-- at each item an expression, or a test, has a value and no fault: one value for all numbers of earlier jobs that agree
abbrev pub HasValues : Bool → Long → Type 0
HasValues names e = (env : Numbers) (x : Item)
    → (v : ℤ) × ((other : Numbers) → Agree names env other → long_value e x other ≡ Ok v)

abbrev pub HasTruths : Bool → Truth → Type 0
HasTruths names p = (env : Numbers) (x : Item)
    → (b : Bool) × ((other : Numbers) → Agree names env other → truth_value p x other ≡ Ok b)

-- what stages leave of items, with these numbers of earlier jobs, and without any
abbrev pub left_with : Numbers → List AbstractStage → List Item → List Item
left_with env gs xs = (pipe 0 gs env (trace xs end.Done)).items

abbrev pub left_by : List AbstractStage → List Item → List Item
left_by gs xs = left_with nothing_named gs xs

-- stages have no fault of their own: whatever their own numbers are, they leave one list of the items of a walk for all
-- numbers of earlier jobs that agree, and no more items than it has
abbrev pub AreFaultless : Bool → List AbstractStage → Type 0
AreFaultless names gs = (env : Numbers)
    → ((n : ℕ) (other : Numbers) → Agree names env other → (xs : List Item) (ending : End)
    → pipe n gs other (trace xs ending) ≡ trace (left_with env gs xs) ending)
    × ((xs : List Item) → length (left_with env gs xs) ≤ length xs)

-- no two proofs of that differ
pub AreFaultless-prop : (names : Bool) (gs : List AbstractStage) → IsProp (AreFaultless names gs)
AreFaultless-prop names gs = Π_prop λ env. ×_prop
    (Π_prop λ n. Π_prop λ other. Π_prop λ same. Π_prop λ xs. Π_prop λ ending. Coded-set (chunks.the_row).coded
    (pipe n gs other (trace xs ending)) (trace (left_with env gs xs) ending))
    (Π_prop λ xs. hlevel props)
