-- Design: the graph of completers: its nodes, and the arrivals owed to each.
-- Each arrival has a name, which is its node and its place in that node's list; it keeps it for ever.
-- Java SE 17, CountedCompleter: the pending count of a node is the number of its arrivals that aren't made, less one.
use Rattle.std.specs.Prelude.{ℕ, zero, suc, ◌+◌, ◌<◌, ◌≤◌, ◌==◌, Bool, true, false, List, [], ◌∷◌, Option, None}
use Rattle.std.specs.Prelude.{if◌then◌else◌}

-- an arrival was made, or it is held by an actor who has it to make, or a node keeps it until that node runs
pub data Arrival : Type 0 where
  Made : Arrival
  Held : (actor : ℕ) → Arrival
  Kept : (node : ℕ) → Arrival

-- the sum of f over a list
abbrev pub total : {A : Type 0} → (A → ℕ) → List A → ℕ
total f [] = 0
total f (x ∷ xs) = f x + total f xs

-- helper: n times x
abbrev pub copies : {A : Type 0} → ℕ → A → List A
copies zero x = []
copies (suc n) x = x ∷ copies n x

-- helper: whether two arrivals are at one node and in one actor's hands
abbrev pub same : Arrival → Arrival → Bool
same Made Made = true
same Made (Held b) = false
same Made (Kept j) = false
same (Held a) Made = false
same (Held a) (Held b) = a == b
same (Held a) (Kept j) = false
same (Kept i) Made = false
same (Kept i) (Held b) = false
same (Kept i) (Kept j) = i == j

-- helper: 1 for an arrival in these hands, and 0 for any other
abbrev pub one_same : Arrival → Arrival → ℕ
one_same z x = if same z x then 1 else 0

-- helper: 1 for an arrival that isn't made, and 0 for one that is
abbrev pub not_made : Arrival → ℕ
not_made Made = 0
not_made (Held a) = 1
not_made (Kept i) = 1

-- how many of a node's arrivals are z
abbrev pub amount : Arrival → List Arrival → ℕ
amount z arrivals = total (one_same z) arrivals

-- how many of a node's arrivals are owed and not made
abbrev pub left : List Arrival → ℕ
left arrivals = total not_made arrivals

-- Node 0 is END. Nodes 1 to `nodes` may be drawn, and those up to `drawn` were; each is what it was claimed by, the
-- arrivals that are owed to it, whether it was armed, whether it ran, and who made the last of its arrivals.
pub record Graph : Type 0 where
  pub nodes : ℕ
  pub drawn : ℕ
  pub claimer : ℕ → ℕ
  pub arrivals : ℕ → List Arrival
  pub armed : ℕ → Bool
  pub ran : ℕ → Bool
  pub last : ℕ → Option ℕ

-- a new graph, in which actor 0 holds all arrivals at END
abbrev pub start : ℕ → ℕ → Graph
start nodes ends = record {
  nodes = nodes;
  drawn = 0;
  claimer = λ i. 0;
  arrivals = λ i. if i == 0 then copies ends (Held 0) else [];
  armed = λ i. false;
  ran = λ i. false;
  last = λ i. None;
}

-- helper: a node that was drawn, which END never is
abbrev pub IsDrawn : Graph → ℕ → Type 0
IsDrawn g node = (0 < node) × (node ≤ g.drawn)
