-- Condition: how far a list of actions was played.
use Rattle.std.specs.Prelude.{◌≡◌, ℕ, List, take}
use Rattle.completion_core.specs.declared.action.Action.{Action}
use Rattle.completion_core.specs.Graph.{Graph}
use Rattle.completion_core.specs.Runs.{LegalAll, after_all, log}
use Rattle.completion_core.specs.Book.{Book, StandsFor}

-- the first i actions are legal on this graph, and led to this book and this log
pub record PlayedUpTo (actions : List Action) (g : Graph) (i : ℕ) (b : Book) (runs : List ℕ) : Type 0 where
  pub legal : LegalAll (take i actions) g
  pub stands : StandsFor b (after_all (take i actions) g)
  pub logged : runs ≡ log (take i actions)
