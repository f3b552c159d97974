-- Design: which actions are legal on a graph, what each answers, and the graph after it.
-- Java SE 17, CountedCompleter: `tryComplete` is Arrive and, after Last, Run and `tryComplete` at what the node kept;
-- `propagateCompletion` does it without continuations; `nextComplete` is Run and Arrive at what the node kept. Where an
-- action moves some of the arrivals that an actor holds at a node, it moves the first of them.
use Rattle.std.specs.Prelude.{◌≡◌, ℕ, zero, suc, ◌+◌, ◌<◌, ◌≤◌, ◌==◌, true, false, List, [], ◌∷◌, ◌++◌, Some, ⊤, nat_lt}
use Rattle.std.specs.Prelude.{if◌then◌else◌}
use Rattle.completion_core.specs.declared.action.Action.{Action}
use Rattle.completion_core.specs.declared.action.Action.TheVariants.{Claim, Arm, Add, Give, Arrive, Run, Settle}
use Rattle.completion_core.specs.declared.action.Reply.{Reply}
use Rattle.completion_core.specs.declared.action.Reply.TheVariants.{Node, NoNode, Pending, Last, Done}
use Rattle.completion_core.specs.Graph.{Arrival, Made, Held, Kept, total, copies, same, amount, left, Graph, IsDrawn}

-- helper: the first k of the arrivals that are x become y
abbrev pub rename : ℕ → Arrival → Arrival → List Arrival → List Arrival
rename zero x y arrivals = arrivals
rename (suc k) x y [] = []
rename (suc k) x y (z ∷ arrivals) = if same x z then y ∷ rename k x y arrivals else z ∷ rename (suc k) x y arrivals

-- helper: at each node i, the first `number i` of the arrivals that are x become y
abbrev pub renamed : Arrival → Arrival → (ℕ → ℕ) → (ℕ → List Arrival) → ℕ → List Arrival
renamed x y number arrivals i = rename (number i) x y (arrivals i)

-- helper: at the node, n more arrivals that are x, named after those that were there
abbrev pub with_fresh : ℕ → ℕ → Arrival → (ℕ → List Arrival) → ℕ → List Arrival
with_fresh node n x arrivals i = arrivals i ++ (if i == node then copies n x else [])

-- helper: k at this node and none at others
abbrev pub only_at : ℕ → ℕ → ℕ → ℕ
only_at node k i = if i == node then k else 0

-- helper: how often i stands in a list of nodes
abbrev pub count : ℕ → List ℕ → ℕ
count i nodes = total (only_at i 1) nodes

-- helper: the function with another value at one place
abbrev pub upd : {A : Type 0} → (ℕ → A) → ℕ → A → ℕ → A
upd f i x j = if j == i then x else f j

-- the actor may do this now
abbrev pub Legal : Action → Graph → Type 0
-- drawing a node is always legal, also where none is left
Legal (Claim a) g = ⊤
-- a node is armed once, by its claimer, who holds what the node is to keep, all of it at smaller nodes
Legal (Arm a node pending onward) g =
    IsDrawn g node × (g.claimer node ≡ a) × (g.armed node ≡ false)
    × ((i : ℕ) → count i onward ≤ amount (Held a) (g.arrivals i)) × ((i : ℕ) → 0 < count i onward → i < node)
-- arrivals are added by an actor that holds one at the node (Java: addToPendingCount)
Legal (Add a node d) g = IsDrawn g node × (0 < amount (Held a) (g.arrivals node))
-- held arrivals are given, also at END
Legal (Give a b node k) g = (0 < node → node ≤ g.drawn) × (k ≤ amount (Held a) (g.arrivals node))
-- a held arrival is made (Java: firstComplete)
Legal (Arrive a node) g = IsDrawn g node × (0 < amount (Held a) (g.arrivals node))
-- a node is run once, after all arrivals that are owed to it, by the actor that made the last of them (Java:
-- onCompletion)
Legal (Run a node) g = IsDrawn g node × (g.ran node ≡ false) × (left (g.arrivals node) ≡ 0) × (g.last node ≡ Some a)
-- a held arrival at END is made
Legal (Settle a) g = 0 < amount (Held a) (g.arrivals 0)

-- the graph after the action
abbrev pub after : Action → Graph → Graph
-- the next node is the actor's, where there is one
after (Claim a) g =
    if nat_lt g.drawn g.nodes
    then record g { drawn = g.drawn + 1; claimer = upd g.claimer (g.drawn + 1) a }
    else g
-- the node keeps what it was given, and the actor holds the fresh ones
after (Arm a node pending onward) g =
    record g {
      arrivals = with_fresh node (pending + 1) (Held a) (renamed (Held a) (Kept node) (λ i. count i onward) g.arrivals);
      armed = upd g.armed node true;
    }
after (Add a node d) g = record g { arrivals = with_fresh node d (Held a) g.arrivals }
after (Give a b node k) g = record g { arrivals = renamed (Held a) (Held b) (only_at node k) g.arrivals }
-- where no arrival is left now, this actor made the last
after (Arrive a node) g =
    let arrivals : ℕ → List Arrival = renamed (Held a) Made (only_at node 1) g.arrivals in
    record g { arrivals = arrivals; last = if left (arrivals node) == 0 then upd g.last node (Some a) else g.last }
-- all that the node kept is the actor's
after (Run a node) g =
    record g {
      arrivals = renamed (Kept node) (Held a) (λ i. amount (Kept node) (g.arrivals i)) g.arrivals;
      ran = upd g.ran node true;
    }
after (Settle a) g = record g { arrivals = renamed (Held a) Made (only_at 0 1) g.arrivals }

-- helper: what an arrival answers, by how many are left after it: the pending count is one less
abbrev pub reply_of_arrival : ℕ → Reply
reply_of_arrival zero = Last
reply_of_arrival (suc pending) = Pending pending

-- the answer to the action: a claim answers the node that it drew, and an arrival how many may come before the last
abbrev pub reply : Action → Graph → Reply
reply (Claim a) g = if nat_lt g.drawn g.nodes then Node (g.drawn + 1) else NoNode
reply (Arm a node pending onward) g = Done
reply (Add a node d) g = Done
reply (Give a b node k) g = Done
reply (Arrive a node) g = reply_of_arrival (left ((after (Arrive a node) g).arrivals node))
reply (Run a node) g = Done
reply (Settle a) g = Done
