-- Condition: what the two halves of a step say of a book, for every graph that it may mean.
use Rattle.std.specs.Prelude.{◌≡◌, MatchResult, Result, ⊤}
use Rattle.completion_core.specs.declared.action.Action.{Action}
use Rattle.completion_core.specs.declared.action.Action.TheVariants.{Claim, Arm, Add, Give, Arrive, Run, Settle}
use Rattle.completion_core.specs.declared.action.Reply.{Reply}
use Rattle.completion_core.specs.declared.action.Illegal.{Illegal}
use Rattle.completion_core.specs.declared.action.Illegal.TheVariants.{TooMany, NoMemory}
use Rattle.completion_core.specs.Graph.{Graph}
use Rattle.completion_core.specs.Legal.{Legal, after, reply}
use Rattle.completion_core.specs.Refusals.{Meets, IsRefusal}
use Rattle.completion_core.specs.Book.{Book, StandsFor}

-- the action may be taken, if there is memory
abbrev pub IsAllowed : Action → Book → Type 0
IsAllowed action b = (g : Graph) → StandsFor b g → Legal action g × Meets TooMany action g

-- the answer says whether it may, and else why not
abbrev pub IsChecked : Action → Book → Result (Unit {0}) Illegal → Type 0
IsChecked action b result = (g : Graph) → StandsFor b g
    → MatchResult result (λ _. Legal action g × Meets TooMany action g) (λ reason. IsRefusal reason action g)

-- the action was taken
abbrev pub IsTaken : Action → Book → Book → Reply → Type 0
IsTaken action old new answer = (g : Graph) → StandsFor old g
    → (answer ≡ reply action g) × StandsFor new (after action g)

-- the action needs memory, which may be refused
abbrev pub MayWant : Action → Book → Type 0
MayWant action b = (g : Graph) → StandsFor b g → ¬ Meets NoMemory action g

-- an action that has a list, whose copy needs memory
abbrev pub IsArm : Action → Type 0
IsArm (Arm a node pending onward) = ⊤
IsArm (Claim a) = ⊥
IsArm (Add a node d) = ⊥
IsArm (Give a b node k) = ⊥
IsArm (Arrive a node) = ⊥
IsArm (Run a node) = ⊥
IsArm (Settle a) = ⊥
