-- Design: what a seat knows, and how each call changes it.
use Rattle.std.specs.Prelude.{◌≡◌, ℕ, ◌+◌, ◌-◌, ◌*◌, ◌^◌, ◌<◌, ◌≤◌, ◌==◌, min, true, false, List, [], ◌∷◌, ◌++◌, Option}
use Rattle.std.specs.Prelude.{Some, None, nat_lt, if◌then◌else◌, slice_index_or, ◌||◌, ◌⊎◌}
use Rattle.completion_core.specs.Graph.{copies}
use Rattle.completion_core.specs.Legal.{count}
use Rattle.pending_count.specs.declared.view.View.{View}

-- helper: the slot of a node for its left side's value
abbrev pub left_slot : ℕ → ℕ
left_slot i = 3 * i

-- helper: the slot for its right side's value
abbrev pub right_slot : ℕ → ℕ
right_slot i = 3 * i + 1

-- helper: the slot for the value that is kept for the last arrival
abbrev pub kept_slot : ℕ → ℕ
kept_slot i = 3 * i + 2

-- helper: of a node's two sides the one that is among these, where there is one
abbrev pub side_at : ℕ → List ℕ → List ℕ
side_at i sides =
    if count (left_slot i) sides == 0
    then (if count (right_slot i) sides == 0 then [] else right_slot i ∷ [])
    else left_slot i ∷ []

-- helper: the sides that belong to the entries of a list of nodes
abbrev pub sides_of : List ℕ → List ℕ → List ℕ
sides_of [] sides = []
sides_of (i ∷ is) sides = side_at i sides ++ sides_of is sides

-- helper: all credit that there is, for claims and for additions
abbrev pub whole_credit : ℕ
whole_credit = 2 ^ 62

-- helper: the list with one i less
abbrev pub less : ℕ → List ℕ → List ℕ
less i [] = []
less i (j ∷ js) = if j == i then js else j ∷ less i js

-- helper: the list without the entries of another one, each taken once
abbrev pub minus : List ℕ → List ℕ → List ℕ
minus [] xs = xs
minus (i ∷ is) xs = minus is (less i xs)

-- helper: a record: a node, and what it was given to keep
abbrev pub Record : Type 0
Record = ℕ × List ℕ

-- helper: whether a record is of the node i
abbrev pub names : ℕ → Record → ℕ
names i r = if r.0 == i then 1 else 0

-- helper: how often j stands in what the record says that the node i was given
abbrev pub keeps_at : ℕ → ℕ → Record → ℕ
keeps_at i j r = if r.0 == i then count j r.1 else 0

-- helper: what a list of records says that the node i was given
abbrev pub given : ℕ → List Record → List ℕ
given i [] = []
given i (r ∷ rs) = (if r.0 == i then r.1 else []) ++ given i rs

-- helper: the first note of the node i
abbrev pub note_of : {A : Type 0} → ℕ → List (ℕ × A) → Option A
note_of i [] = None
note_of i (x ∷ xs) = if x.0 == i then Some x.1 else note_of i xs

-- helper: the smaller of two numbers, where they are known
abbrev pub least : Option ℕ → Option ℕ → Option ℕ
least None b = b
least (Some m) None = Some m
least (Some m) (Some n) = Some (min m n)

module _ {T : Type 0} where
  -- who has no seat, or a seat that was joined into another, holds nothing
  abbrev pub blank : View T
  blank = record {
    credit = 0;
    added = 0;
    held = [];
    sides = [];
    taken = [];
    claims = [];
    armed = [];
    armed_sides = [];
    noted = [];
    noted_sides = [];
    tags = [];
    places = [];
    seen = None;
    none_left = false;
    of = record {};
  }

  -- the first seat
  abbrev pub first_view : ℕ → View T
  first_view ends = record {
    credit = whole_credit;
    added = 0;
    held = copies ends 0;
    sides = [];
    taken = [];
    claims = [];
    armed = [];
    armed_sides = [];
    noted = [];
    noted_sides = [];
    tags = [];
    places = [];
    seen = Some ends;
    none_left = false;
    of = record {};
  }

  -- the view of the actor a, among the views of all seats
  abbrev pub view_at : List (View T) → ℕ → View T
  view_at views a = slice_index_or views a blank

  -- what the records of all seats say that the node i was given
  abbrev pub given_by_all : ℕ → List (View T) → List ℕ
  given_by_all i [] = []
  given_by_all i (v ∷ vs) = given i v.armed ++ given_by_all i vs

  -- what they say of sides
  abbrev pub sides_given_by_all : ℕ → List (View T) → List ℕ
  sides_given_by_all i [] = []
  sides_given_by_all i (v ∷ vs) = given i v.armed_sides ++ sides_given_by_all i vs

  -- the seat holds no side of a pair at this node
  abbrev pub IsPlainAt : ℕ → View T → Type 0
  IsPlainAt node v = (count (left_slot node) v.sides ≡ 0) × (count (right_slot node) v.sides ≡ 0)

  -- what is split off: arrivals at END or at a plain node, or one side of a pair
  abbrev pub SplitOff : ℕ → ℕ → List ℕ → View T → Type 0
  SplitOff node k sides v = ((sides ≡ []) × (0 < node → IsPlainAt node v))
      ⊎ ((k ≡ 1) × (0 < node) × ((sides ≡ left_slot node ∷ []) ⊎ (sides ≡ right_slot node ∷ [])))

  -- each node that stands in the view, held or claimed, is one of these
  abbrev pub InRange : ℕ → View T → Type 0
  InRange nodes v = (i : ℕ) → 0 < count i v.held + count i v.claims → i ≤ nodes

  -- after a claim for which the claim word had n
  abbrev pub claimed_view : ℕ → ℕ → View T → View T
  claimed_view nodes n v =
      if nat_lt n nodes
      then record v { credit = v.credit - 1; claims = (n + 1) ∷ v.claims }
      else record v { credit = v.credit - 1; none_left = true }

  -- after the node was armed
  abbrev pub armed_view : ℕ → ℕ → List ℕ → View T → View T
  armed_view node pending onward v =
      record v {
        held = copies (pending + 1) node ++ minus onward v.held;
        sides = minus (sides_of onward v.sides) v.sides;
        claims = less node v.claims;
        armed = (node, onward) ∷ v.armed;
        armed_sides = (node, sides_of onward v.sides) ∷ v.armed_sides;
        noted = (node, onward) ∷ v.noted;
        noted_sides = (node, sides_of onward v.sides) ∷ v.noted_sides;
      }

  -- after an arrival at the node that wasn't the last
  abbrev pub arrived_view : ℕ → View T → View T
  arrived_view node v = record v { held = less node v.held }

  -- after the last arrival at the node, which kept these arrivals, and these sides among them
  abbrev pub finished_view : ℕ → List ℕ → List ℕ → View T → View T
  finished_view node kept kept_sides v = record v { held = kept ++ less node v.held; sides = kept_sides ++ v.sides }

  -- after it took a slot
  abbrev pub taken_view : ℕ → View T → View T
  taken_view slot v = record v { taken = slot ∷ v.taken }

  -- after the node was armed as a pair with this tag, whose kept value has this place
  abbrev pub paired_view : ℕ → List ℕ → T → Option (ℕ × (ℕ × (ℕ × T))) → View T → View T
  paired_view node onward tag place v =
      record (armed_view node 1 onward v) {
        sides = left_slot node ∷ right_slot node ∷ minus (sides_of onward v.sides) v.sides;
        taken = [];
        tags = (node, tag) ∷ v.tags;
        places = (node, place) ∷ v.places;
      }

  -- after an arrival at a pair, on the side of this slot, that wasn't the last
  abbrev pub handed_view : ℕ → ℕ → View T → View T
  handed_view node slot v = record (arrived_view node v) { sides = less slot v.sides; taken = [] }

  -- after the last arrival at a pair, on the side of this slot: the node kept these, and these tags are known
  abbrev pub closed_view : ℕ → ℕ → List ℕ → List ℕ → List (ℕ × T) → View T → View T
  closed_view node slot kept kept_sides tags v =
      record (finished_view node kept kept_sides v) { sides = kept_sides ++ less slot v.sides; taken = []; tags = tags }

  -- after d arrivals were added at the node
  abbrev pub added_view : ℕ → ℕ → View T → View T
  added_view node d v = record v { credit = v.credit - d; added = v.added + d; held = copies d node ++ v.held }

  -- after END's word was seen
  abbrev pub looked_view : ℕ → View T → View T
  looked_view n v = record v { seen = Some n }

  -- what is left of a seat from which k arrivals at the node (these of them as sides) and some credit were split off
  abbrev pub rest_view : ℕ → ℕ → ℕ → List ℕ → View T → View T
  rest_view node k credit sides v = record v
      { credit = v.credit - credit; held = minus (copies k node) v.held; sides = minus sides v.sides }

  -- the seat that was split off: it knows what the first one knew
  abbrev pub part_view : ℕ → ℕ → ℕ → List ℕ → View T → View T
  part_view node k credit sides v = record blank {
    credit = credit;
    held = copies k node;
    sides = sides;
    noted = v.noted;
    noted_sides = v.noted_sides;
    tags = v.tags;
    places = v.places;
    seen = v.seen;
    none_left = v.none_left;
  }

  -- after the second seat was joined into the first one: credits of one table are never more than the whole of it
  abbrev pub joined_view : View T → View T → View T
  joined_view v u =
      record v {
        credit = min (v.credit + u.credit) whole_credit;
        added = v.added + u.added;
        held = v.held ++ u.held;
        sides = v.sides ++ u.sides;
        armed = v.armed ++ u.armed;
        armed_sides = v.armed_sides ++ u.armed_sides;
        noted = v.noted ++ u.noted;
        noted_sides = v.noted_sides ++ u.noted_sides;
        tags = v.tags ++ u.tags;
        places = v.places ++ u.places;
        seen = least v.seen u.seen;
        none_left = v.none_left || u.none_left;
      }
