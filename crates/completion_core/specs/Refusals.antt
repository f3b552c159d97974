-- Design: why an action is refused: the first of its demands that is not met, in a fixed order.
use Rattle.std.specs.Prelude.{◌≡◌, ℕ, ◌+◌, ◌<◌, ◌≤◌, ◌^◌, ◌⊎◌, false, List, Some, ⊤, length, take, slice_get}
use Rattle.completion_core.specs.declared.action.Action.{Action}
use Rattle.completion_core.specs.declared.action.Action.TheVariants.{Claim, Arm, Add, Give, Arrive, Run, Settle}
use Rattle.completion_core.specs.declared.action.Illegal.{Illegal}
use Rattle.completion_core.specs.declared.action.Illegal.TheVariants.{NoSuchNode, NotClaimedHere, AlreadyArmed, NotHeld}
use Rattle.completion_core.specs.declared.action.Illegal.TheVariants.{NotFinisher, OnwardNotEarlier, TooMany, NoMemory}
use Rattle.completion_core.specs.Graph.{Held, Kept, amount, left, Graph, IsDrawn}
use Rattle.completion_core.specs.Legal.{count}
use Rattle.completion_core.specs.Runs.{LegalAll, after_all}

-- the place of a demand in the order
abbrev pub rank : Illegal → ℕ
rank NoSuchNode = 1
rank NotClaimedHere = 2
rank AlreadyArmed = 3
rank NotHeld = 4
rank NotFinisher = 5
rank OnwardNotEarlier = 6
rank TooMany = 7
rank NoMemory = 8

-- What an action must meet, or it is refused by this name. The first six are the parts of `Legal`; the last two are
-- limits of the store.
abbrev pub Meets : Illegal → Action → Graph → Type 0
Meets NoSuchNode (Arm a node pending onward) g = IsDrawn g node
Meets NoSuchNode (Add a node d) g = IsDrawn g node
Meets NoSuchNode (Give a b node k) g = 0 < node → node ≤ g.drawn
Meets NoSuchNode (Arrive a node) g = IsDrawn g node
Meets NoSuchNode (Run a node) g = IsDrawn g node
Meets NotClaimedHere (Arm a node pending onward) g = g.claimer node ≡ a
Meets AlreadyArmed (Arm a node pending onward) g = g.armed node ≡ false
Meets NotHeld (Arm a node pending onward) g = (i : ℕ) → count i onward ≤ amount (Held a) (g.arrivals i)
Meets NotHeld (Add a node d) g = 0 < amount (Held a) (g.arrivals node)
Meets NotHeld (Give a b node k) g = k ≤ amount (Held a) (g.arrivals node)
Meets NotHeld (Arrive a node) g = 0 < amount (Held a) (g.arrivals node)
Meets NotHeld (Settle a) g = 0 < amount (Held a) (g.arrivals 0)
Meets NotFinisher (Run a node) g = (g.ran node ≡ false) × (left (g.arrivals node) ≡ 0) × (g.last node ≡ Some a)
Meets OnwardNotEarlier (Arm a node pending onward) g = (i : ℕ) → 0 < count i onward → i < node
-- a node's arrivals, made ones counted in, stay within 2^62
Meets TooMany (Arm a node pending onward) g = length (g.arrivals node) + (pending + 1) ≤ 2 ^ 62
Meets TooMany (Add a node d) g = length (g.arrivals node) + d ≤ 2 ^ 62
-- An allocation may fail wherever one is made: a claim makes none if no node is left, a Give none if nothing changes
-- hands, a Run none if the node kept nothing.
Meets NoMemory (Claim a) g = g.nodes ≤ g.drawn
Meets NoMemory (Arm a node pending onward) g = ⊥
Meets NoMemory (Give a b node k) g = (a ≡ b) ⊎ (k ≡ 0)
Meets NoMemory (Run a node) g = (i : ℕ) → amount (Kept node) (g.arrivals i) ≡ 0
-- nothing else is demanded
Meets demand action g = ⊤

-- the action doesn't meet this demand, and it meets all that come before it in the order
abbrev pub IsRefusal : Illegal → Action → Graph → Type 0
IsRefusal reason action g =
    ((demand : Illegal) → rank demand < rank reason → Meets demand action g) × ¬ Meets reason action g

-- a run is legal, and only the log of runs has no memory
abbrev pub LacksLog : Illegal → Action → Graph → Type 0
LacksLog NoMemory (Run a node) g = (demand : Illegal) → rank demand < 8 → Meets demand (Run a node) g
LacksLog reason action g = ⊥

-- the action at this index is refused on the graph that those before it left, which are legal
abbrev pub IsFirstRefused : ℕ → Illegal → List Action → Graph → Type 0
IsFirstRefused index reason actions g =
    (action : Action) × (slice_get actions index ≡ Some action)
    × LegalAll (take index actions) g
    × (IsRefusal reason action (after_all (take index actions) g)
    ⊎ LacksLog reason action (after_all (take index actions) g))
