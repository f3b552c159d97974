-- Condition: which seat holds the sides of pairs, and what their slots contain.
use Rattle.std.specs.Prelude.{◌≡◌, ℕ, ◌+◌, ◌*◌, ◌<◌, ◌≤◌, Bool, true, false, List, [], ◌∷◌, length, Option, Some, None}
use mathlib.Core.Option.{some}
use mathlib.Core.Option as mc
use lib.ListN.{get_elem?}
use Rattle.completion_core.specs.Graph.{Arrival, Made, Held, Kept, one_same, total}
use Rattle.completion_core.specs.Legal.{count}
use Rattle.pending_count.specs.declared.view.View.{View}
use Rattle.pending_count.specs.declared.place.Side.{Side}
use Rattle.pending_count.specs.declared.place.Side.TheVariants.{Left, Right, Whole}
use Rattle.pending_count.specs.declared.place.Place.{Place}
use Rattle.pending_count.specs.declared.place.Slot.{Slot}
use Rattle.pending_count.specs.declared.place.Slot.TheVariants.{Value, Kept as KeptValue}
use Rattle.pending_count.specs.Views.{left_slot, right_slot, kept_slot, names, keeps_at, note_of, view_at}
use Rattle.atomic_table.specs.Table.{State}
use Rattle.completion_core.specs.Graph.{Graph}
use Rattle.pending_count.specs.Shows.{one_if, kept_at, Shows}

-- the slot of a side's value, and the side
abbrev pub side_slot : ℕ → Bool → ℕ
side_slot i true = left_slot i
side_slot i false = right_slot i

abbrev pub side_of : Bool → Side
side_of true = Left
side_of false = Right

-- of the place that a value is for: the slot of its side
abbrev pub slot_of : ℕ → Side → ℕ
slot_of i Left = left_slot i
slot_of i Right = right_slot i
slot_of i Whole = kept_slot i

-- a place as it is noted
abbrev pub noted_place : {T : Type 0} → Option (Place T) → Option (ℕ × (ℕ × (ℕ × T)))
noted_place None = None
noted_place (Some p) = Some (p.node, (slot_of p.node p.side, (p.root, p.tag)))

-- the tags that a seat knows once it has a kept value with this place
abbrev pub tags_after : {T : Type 0} → Option (Place T) → List (ℕ × T) → List (ℕ × T)
tags_after None tags = tags
tags_after (Some p) tags = (p.node, p.tag) ∷ tags

-- the arrivals of a pair are its two sides; other nodes have no sides
pub record Sided {T : Type 0} (arrivals : ℕ → List Arrival) (armed : ℕ → Bool) (tag : ℕ → Option T)
    (side : ℕ → Arrival) : Type 0 where
  pub pairs : (i : ℕ) (t : T) → tag i ≡ Some t → armed i ≡ true
  pub both : (i : ℕ) (t : T) → tag i ≡ Some t → (f : Arrival → ℕ)
      → total f (arrivals i) ≡ f (side (left_slot i)) + f (side (right_slot i))
  pub alone : (i : ℕ) (b : Bool) → tag i ≡ None → side (side_slot i b) ≡ Made
  pub never : (i : ℕ) → side (kept_slot i) ≡ Made

module _ {T : Type 0} where
  -- how often the slot k stands in what all records say that the node i was given
  abbrev pub side_kept_at : ℕ → ℕ → List (View T) → ℕ
  side_kept_at i k views = total (λ v. total (keeps_at i k) v.armed_sides) views

  -- the records name the armed nodes, each once, and the sides that those which haven't run keep
  pub record SideKeeping (views : List (View T)) (armed ran : ℕ → Bool) (side : ℕ → Arrival) : Type 0 where
    pub records : (i : ℕ) → total (λ v. total (names i) v.armed_sides) views ≡ one_if (armed i)
    pub keeping : (i k : ℕ) → ran i ≡ false → one_same (Kept i) (side k) ≡ side_kept_at i k views
    pub spent : (i k : ℕ) → ran i ≡ true → one_same (Kept i) (side k) ≡ 0

  -- what was noted of sides and tags is so
  pub record SideNoting (views : List (View T)) (armed : ℕ → Bool) (tag : ℕ → Option T) : Type 0 where
    pub noted : (a i : ℕ) (l : List ℕ) → note_of i (view_at views a).noted_sides ≡ Some l
        → (armed i ≡ true) × ((k : ℕ) → count k l ≡ side_kept_at i k views)
    pub tags : (a i : ℕ) (t : T) → note_of i (view_at views a).tags ≡ Some t → tag i ≡ Some t
    pub placed : (a i : ℕ) (p : Option (ℕ × (ℕ × (ℕ × T)))) → note_of i (view_at views a).places ≡ Some p
        → armed i ≡ true

module _ {V K T : Type 0} (fits : T → Side → V → Type 0) (tag_of : K → T) (place_of : K → Option (Place T)) where
  -- the slots at home: a side's is empty until its arrival was made, and then has a value that fits; the kept value's
  -- is empty until the node is armed, and then has one with the pair's tag; if it has a place, the node keeps the
  -- arrival of that place alone
  pub record Slotted (nodes : ℕ) (homes : List (mc.Option (Option (Slot V K)))) (views : List (View T))
      (armed ran : ℕ → Bool) (tag : ℕ → Option T) (side : ℕ → Arrival) : Type 0 where
    pub room : length homes ≡ 3 * (nodes + 1)
    pub once : (a k : ℕ) → count k (view_at views a).taken ≤ 1
    pub out : (a i : ℕ) (b : Bool) → 0 < count (side_slot i b) (view_at views a).taken → side (side_slot i b) ≡ Held a
    pub out_kept : (a i : ℕ) → 0 < count (kept_slot i) (view_at views a).taken → 0 < count i (view_at views a).claims
    pub empty : (i : ℕ) (b : Bool) → i ≤ nodes → (side (side_slot i b) ≡ Made → tag i ≡ None)
        → ((a : ℕ) → count (side_slot i b) (view_at views a).taken ≡ 0)
        → get_elem? homes (side_slot i b) ≡ some (some None)
    pub full : (i : ℕ) (b : Bool) (t : T) → tag i ≡ Some t → ran i ≡ false → side (side_slot i b) ≡ Made
        → (x : V) × (get_elem? homes (side_slot i b) ≡ some (some (Some (Value x)))) × fits t (side_of b) x
    pub kept_empty : (i : ℕ) → 0 < i → i ≤ nodes → armed i ≡ false
        → ((a : ℕ) → count (kept_slot i) (view_at views a).taken ≡ 0) → get_elem? homes (kept_slot i) ≡ some (some None)
    pub kept_full : (i : ℕ) (t : T) → tag i ≡ Some t → ran i ≡ false
        → (k : K) × (get_elem? homes (kept_slot i) ≡ some (some (Some (KeptValue k)))) × (tag_of k ≡ t)
        × ((p : Place T) → place_of k ≡ Some p
        → (tag p.node ≡ Some p.tag) × ((j : ℕ) → kept_at i j views ≡ count j (p.node ∷ []))
        × ((j : ℕ) → side_kept_at i j views ≡ count j (slot_of p.node p.side ∷ [])) × (p.node < i))
        × ((a : ℕ) (q : Option (ℕ × (ℕ × (ℕ × T)))) → note_of i (view_at views a).places ≡ Some q
        → noted_place (place_of k) ≡ q)

  -- between any two steps, beside the graph that is shown: the sides, their tags, and the slots
  pub record Pairing (nodes : ℕ) (homes : List (mc.Option (Option (Slot V K)))) (views : List (View T))
      (arrivals : ℕ → List Arrival) (armed ran : ℕ → Bool) : Type 0 where
    pub tag : ℕ → Option T
    pub side : ℕ → Arrival
    pub sided : Sided arrivals armed tag side
    pub mine : (a k : ℕ) → count k (view_at views a).sides ≡ one_same (Held a) (side k)
    pub keeping : SideKeeping views armed ran side
    pub noting : SideNoting views armed tag
    pub slotted : Slotted nodes homes views armed ran tag side

  abbrev pub Ruled : ℕ → State (Option (Slot V K)) (View T) → Type 0
  Ruled nodes s = (g : Graph) × Shows nodes s g × Pairing nodes s.homes s.views g.arrivals g.armed g.ran
