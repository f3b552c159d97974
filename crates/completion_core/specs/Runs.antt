-- Design: lists of actions, and the log of the nodes that they run.
use Rattle.std.specs.Prelude.{ℕ, List, [], ◌∷◌, ⊤}
use Rattle.completion_core.specs.declared.action.Action.{Action}
use Rattle.completion_core.specs.declared.action.Action.TheVariants.{Claim, Arm, Add, Give, Arrive, Run, Settle}
use Rattle.completion_core.specs.Graph.{Graph}
use Rattle.completion_core.specs.Legal.{Legal, after}

-- each action is legal on the graph that those before it left
abbrev pub LegalAll : List Action → Graph → Type 0
LegalAll [] g = ⊤
LegalAll (action ∷ rest) g = Legal action g × LegalAll rest (after action g)

-- the graph after all of them
abbrev pub after_all : List Action → Graph → Graph
after_all [] g = g
after_all (action ∷ rest) g = after_all rest (after action g)

-- the nodes that are run, in their order
abbrev pub log : List Action → List ℕ
log [] = []
log (Claim a ∷ rest) = log rest
log (Arm a node pending onward ∷ rest) = log rest
log (Add a node d ∷ rest) = log rest
log (Give a b node k ∷ rest) = log rest
log (Arrive a node ∷ rest) = log rest
log (Run a node ∷ rest) = node ∷ log rest
log (Settle a ∷ rest) = log rest
