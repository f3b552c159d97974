-- Condition: what a seat needs for a place in a tree, and what an arrival there gives it.
use Rattle.std.specs.Prelude.{◌≡◌, ℕ, ◌+◌, ◌<◌, ◌≤◌, List, Some, [], ◌∷◌}
use Rattle.completion_core.specs.declared.action.Action.TheVariants.{Arrive, Run}
use Rattle.completion_core.specs.declared.action.Reply.TheVariants.{Last}
use Rattle.pending_count.specs.declared.view.View.{View}
use Rattle.pending_count.specs.Steps.{OneStep}
use Rattle.completion_core.specs.Legal.{count}
use Rattle.pending_count.specs.declared.place.Place.{Place}
use Rattle.pending_count.specs.declared.place.Fits.{Ghosts}
use Rattle.pending_count.specs.declared.counts.Counts.{Counts}
use Rattle.pending_count.specs.declared.seat.Seat.{Seat}
use Rattle.pending_count.specs.Views.{note_of, left_slot, right_slot}
use Rattle.pending_count.specs.PairSteps.{HoldsSide}
use Rattle.atomic_table.specs.Seated.{TableId}
use Rattle.completer_tree.specs.Roots.{Leads, Rooted}
use Rattle.pending_count.specs.Seats.{view_of, table_of, Content, nodes_of, actor_of}

-- the identity of the table that the counts are in
abbrev pub table_id_of : {V K T : Type 0} → Counts V K T → TableId
table_id_of counts = counts.table.shared.table_id

module _ {T : Type 0} where
  -- for each entry the seat holds an arrival, of a pair exactly one side, which a node may keep
  pub record CanKeep (onward : List ℕ) (v : View T) : Type 0 where
    pub have : (i : ℕ) → count i onward ≤ count i v.held
    pub one_side : (i : ℕ) → 0 < count i onward → count (left_slot i) v.sides + count (right_slot i) v.sides ≤ 1

module _ {V K T : Type 0} {g : Ghosts K V T} where
  -- the seat can hand a value in at the place
  pub record CanHand (id : TableId) (p : Place T) (seat : Seat V K T g) : Type 0 where
    pub table : table_of seat ≡ id
    pub held : 0 < count p.node (view_of seat).held
    pub side : HoldsSide p (view_of seat)
    pub tag : note_of p.node (view_of seat).tags ≡ Some p.tag
    pub leads : Leads (view_of seat).places p.node p.root
    pub rooted : Rooted (view_of seat).places

  -- and of that node it holds this side alone
  pub record CanFork (id : TableId) (p : Place T) (seat : Seat V K T g) : Type 0 where
    pub can_hand : CanHand id p seat
    pub one_side : count (left_slot p.node) (view_of seat).sides + count (right_slot p.node) (view_of seat).sides ≤ 1

  -- the seat holds and knows what it held and knew before
  pub record IsUnchanged (seat later : Seat V K T g) : Type 0 where
    pub held : (view_of later).held ≡ (view_of seat).held
    pub sides : (view_of later).sides ≡ (view_of seat).sides
    pub tags : (view_of later).tags ≡ (view_of seat).tags
    pub noted : (view_of later).noted ≡ (view_of seat).noted
    pub noted_sides : (view_of later).noted_sides ≡ (view_of seat).noted_sides
    pub places : (view_of later).places ≡ (view_of seat).places

-- The node was run by the actor: its last arrival was, at one step, Arrive together with Run. A node runs at most once.
pub record RanAt (T S : Type 0) (nodes actor node : ℕ) : Type 0 where
  pub old : View T
  pub new : View T
  pub step : OneStep {T = T} S nodes node 1 0 actor old new (Arrive actor node ∷ Run actor node ∷ []) Last

-- and the actor was this seat's
abbrev pub RanBy : {V K T : Type 0} {g : Ghosts K V T} → Counts V K T → Seat V K T g → ℕ → Type 0
RanBy {V = V} {K = K} {T = T} counts seat node = RanAt T (Content V K) (nodes_of counts) (actor_of seat) node
