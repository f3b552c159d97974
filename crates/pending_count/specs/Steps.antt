-- Condition: what each call of the counts means for the graph of completers.
use Rattle.std.specs.Prelude.{◌≡◌, ◌≢◌, ℕ, zero, suc, ◌+◌, ◌-◌, ◌<◌, ◌≤◌, ◌==◌, List, [], ◌∷◌, ◌++◌, length, slice_set}
use Rattle.std.specs.Prelude.{slice_index, Option, Some, None, nat_lt, if◌then◌else◌, ⊤}
use mathlib.Core.Option.{some}
use lib.ListN.{get_elem?}
use Rattle.std.specs.Prelude.{replicate}
use Rattle.atomic_table.specs.Table.{State, opening}
use Rattle.completion_core.specs.Graph.{start}
use Rattle.completion_core.specs.declared.action.Action.{Action}
use Rattle.completion_core.specs.declared.action.Action.TheVariants.{Claim, Arm, Add, Give, Arrive, Run, Settle}
use Rattle.completion_core.specs.declared.action.Reply.{Reply}
use Rattle.completion_core.specs.declared.action.Reply.TheVariants.{Node, NoNode, Done}
use Rattle.completion_core.specs.Graph.{left, Graph}
use Rattle.completion_core.specs.Legal.{count, Legal, after, reply, reply_of_arrival}
use Rattle.completion_core.specs.Runs.{LegalAll, after_all}
use Rattle.pending_count.specs.declared.view.View.{View}
use Rattle.pending_count.specs.Views.{blank, InRange, IsPlainAt, note_of, claimed_view, armed_view, arrived_view}
use Rattle.pending_count.specs.Views.{finished_view, added_view, looked_view, taken_view}
use Rattle.pending_count.specs.Shows.{Shows, IsShown}

-- the first of the actions answers this
abbrev pub Answers : List Action → Graph → Reply → Type 0
Answers [] g r = ⊤
Answers (action ∷ rest) g r = reply action g ≡ r

-- an arrival is Arrive, and where n was 1 it is Arrive together with Run
abbrev pub arrival_actions : ℕ → ℕ → ℕ → List Action
arrival_actions actor node n = if n == 1 then Arrive actor node ∷ Run actor node ∷ [] else Arrive actor node ∷ []

-- the node that a claim draws for which the claim word had n, where one is left
abbrev pub drawn_node : ℕ → ℕ → Option ℕ
drawn_node nodes n = if nat_lt n nodes then Some (n + 1) else None

-- what a claim answers, as the machine says it
abbrev pub reply_of_claim : Option ℕ → Reply
reply_of_claim (Some node) = Node node
reply_of_claim None = NoNode

-- all that is held, up to the node n, is given: Give for each node at which there is some
abbrev pub gives_all : ℕ → ℕ → List ℕ → ℕ → List Action
gives_all from to held zero = if count 0 held == 0 then [] else Give from to 0 (count 0 held) ∷ []
gives_all from to held (suc n) = if count (suc n) held == 0 then gives_all from to held n
    else Give from to (suc n) (count (suc n) held) ∷ gives_all from to held n

module _ {T : Type 0} where
  -- One atomic step of the actor's, on the word i, which had n and then has n'; the actor's view was v and then is w,
  -- and nothing else of words and views changed. For every graph that was shown before, the actions are legal, the
  -- first of them answers `answer`, and the graph after them is shown after.
  pub record OneStep (S : Type 0) (nodes i n n' : ℕ) (actor : ℕ) (v w : View T) (actions : List Action)
      (answer : Reply) : Type 0 where
    pub before : State S (View T)
    pub later : State S (View T)
    pub ruled : IsShown nodes before
    pub found : slice_index before.words i ≡ n
    pub viewed : get_elem? before.views actor ≡ some v
    pub words : later.words ≡ slice_set before.words i n'
    pub views : later.views ≡ slice_set before.views actor w
    pub shown : (g : Graph) → Shows nodes before g
        → LegalAll actions g × Answers actions g answer × Shows nodes later (after_all actions g)
    pub in_range : InRange nodes w

  -- a claim, for which the claim word had n: the node that it may draw is larger than all that the seat has, and the
  -- seat has no side of it
  pub record IsClaimed (S : Type 0) (nodes actor : ℕ) (v : View T) (n : ℕ) (w : View T) : Type 0 where
    pub view : w ≡ claimed_view nodes n v
    pub larger : (i : ℕ) → 0 < count i v.held + count i v.claims → i ≤ n
    pub no_side : IsPlainAt (n + 1) w
    pub unnoted : (i : ℕ) (l : List ℕ) → note_of i v.noted ≡ Some l → i ≤ n
    pub unnoted_sides : (i : ℕ) (l : List ℕ) → note_of i v.noted_sides ≡ Some l → i ≤ n
    pub unplaced : (i : ℕ) (q : Option (ℕ × (ℕ × (ℕ × T)))) → note_of i v.places ≡ Some q → i ≤ n
    pub one_step : OneStep S nodes (nodes + 1) n (n + 1) actor v w (Claim actor ∷ [])
        (reply_of_claim (drawn_node nodes n))

  -- a node was armed, whose word was 0
  pub record IsArmed (S : Type 0) (nodes actor node pending : ℕ) (onward : List ℕ) (v w : View T) : Type 0 where
    pub view : w ≡ armed_view node pending onward v
    pub one_step : OneStep S nodes node 0 (pending + 1) actor v w (Arm actor node pending onward ∷ []) Done

  -- an arrival, where n were owed and not made
  pub record IsArrived (S : Type 0) (nodes actor node : ℕ) (v : View T) (n : ℕ) (w : View T) : Type 0 where
    pub some_owed : 0 < n
    pub pending : n ≢ 1 → w ≡ arrived_view node v
    pub last : n ≡ 1 → (kept kept_sides : List ℕ) × (w ≡ finished_view node kept kept_sides v)
        × ((given : List ℕ) → note_of node v.noted ≡ Some given → (j : ℕ) → count j kept ≡ count j given)
        × ((given : List ℕ) → note_of node v.noted_sides ≡ Some given → (k : ℕ) → count k kept_sides ≡ count k given)
    pub one_step : OneStep S nodes node n (n - 1) actor v w (arrival_actions actor node n) (reply_of_arrival (n - 1))

  -- d arrivals were added, where n were owed and not made
  pub record IsAdded (S : Type 0) (nodes actor node d : ℕ) (v w : View T) : Type 0 where
    pub view : w ≡ added_view node d v
    pub found : ℕ
    pub one_step : OneStep S nodes node found (found + d) actor v w (Add actor node d ∷ []) Done

  -- an arrival at END
  pub record IsSettled (S : Type 0) (nodes actor : ℕ) (v w : View T) : Type 0 where
    pub view : w ≡ arrived_view 0 v
    pub found : ℕ
    pub some_owed : 0 < found
    pub one_step : OneStep S nodes 0 found (found - 1) actor v w (Settle actor ∷ []) Done

  -- a look at END's word, which showed n
  pub record IsEndSeen (S : Type 0) (nodes actor : ℕ) (v : View T) (n : ℕ) (w : View T) : Type 0 where
    pub view : w ≡ looked_view n v
    pub enough : count 0 v.held ≤ n
    pub one_step : OneStep S nodes 0 n n actor v w [] Done
    pub all : (g : Graph) → Shows nodes one_step.before g → left (g.arrivals 0) ≡ n

  -- a look at the node's word, at which the seat takes the slot of a value that it brings; no action, and no word
  -- changes
  pub record IsTaken (S : Type 0) (nodes actor node slot : ℕ) (v w : View T) : Type 0 where
    pub view : w ≡ taken_view slot v
    pub found : ℕ
    pub one_step : OneStep S nodes node found found actor v w [] Done

  -- A seat is split in two, which changes no word: whatever the table shows, it is Give to the new seat.
  abbrev pub IsSplit : (S : Type 0) → ℕ → ℕ → ℕ → View T → View T → View T → Type 0
  IsSplit S nodes node k v rest part = (s : State S (View T)) (g : Graph) (id : ℕ) → Shows nodes s g
      → get_elem? s.views id ≡ some v
      → Legal (Give id (length s.views) node k) g
      × Shows nodes (record { words = s.words; homes = s.homes; views = slice_set s.views id rest ++ part ∷ [] })
      (after (Give id (length s.views) node k) g)

  -- A second seat is joined into the first one, which changes no word: whatever the table shows, it is Give of all that
  -- the second holds.
  abbrev pub IsJoined : (S : Type 0) → ℕ → View T → View T → View T → Type 0
  IsJoined S nodes v u both = (s : State S (View T)) (g : Graph) (id other : ℕ) → Shows nodes s g
      → get_elem? s.views id ≡ some v → get_elem? s.views other ≡ some u → other ≢ id
      → LegalAll (gives_all other id u.held nodes) g
      × Shows nodes (record {
        words = s.words;
        homes = s.homes;
        views = slice_set (slice_set s.views id both) other blank;
      }) (after_all (gives_all other id u.held nodes) g)

  -- the words that new counts begin with, and the first seat, show the new graph
  abbrev pub IsOpened : (S : Type 0) → ℕ → ℕ → View T → Type 0
  IsOpened S nodes ends v = (slots : List S)
      → Shows nodes (opening (ends ∷ replicate (nodes + 1) 0) slots v) (start nodes ends)
