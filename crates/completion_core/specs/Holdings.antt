-- Condition: how many arrivals the store says that an actor holds at a node.
use Rattle.std.specs.Prelude.{ℕ, List, if◌then◌else◌}
use Rattle.std.specs.HashMap.{spare}
use Rattle.completion_core.specs.declared.holdings.Holdings.{Holdings}
use Rattle.completion_core.specs.Graph.{total}
use Rattle.completion_core.specs.Book.{held_in, same_key}

abbrev pub held : Holdings → ℕ → ℕ → ℕ
held h actor node = held_in h.entries.entries actor node

-- how many new entries fit without memory
abbrev pub room : Holdings → ℕ
room h = spare h.entries

-- k for this actor at this node, and nothing elsewhere
abbrev pub place : ℕ → ℕ → ℕ → ℕ → ℕ → ℕ
place actor node k a i = if same_key (node, actor) (i, a) then k else 0

-- one at each of the nodes for this actor, and nothing for others
abbrev pub each_place : ℕ → List ℕ → ℕ → ℕ → ℕ
each_place actor nodes a i = total (λ node. place actor node 1 a i) nodes
