-- Condition: where the answer of a node goes, and which failure is the leftmost.
use Rattle.std.specs.Prelude.{◌≡◌, ℕ, Bool, Option, Some, None, Result, Ok, Err}
use Rattle.pending_count.specs.declared.place.Side.{Side}
use Rattle.pending_count.specs.declared.place.Side.TheVariants.{Left, Right, Whole}
use Rattle.pending_count.specs.declared.place.Place.{Place}
use Rattle.pending_count.specs.Pairs.{side_of}

-- the side of a node, which has this tag
abbrev pub place_at : {T : Type 0} → ℕ → ℕ → T × Bool → Place T
place_at node root p = record { node = node; side = side_of p.1; root = root; tag = p.0 }

-- the place to which the answer goes; none at the top of a tree
abbrev pub place_by : {T : Type 0} → ℕ → ℕ → Option (T × Bool) → Option (Place T)
place_by node root None = None
place_by node root (Some p) = Some (place_at node root p)

module _ {T V F : Type 0} (fits : T → Side → Result V F → Type 0) where
  -- the answer of a node with this tag fits the side of the parent, or at the top the whole of the node
  abbrev pub Goes : T → Option (T × Bool) → Result V F → Type 0
  Goes tag None v = fits tag Whole v
  Goes tag (Some p) v = fits p.0 (side_of p.1) v

  -- of two answers the leftmost failure, if there is one
  abbrev pub leftmost : Result V F → Result V F → Option F
  leftmost (Err e) r = Some e
  leftmost (Ok a) (Err e) = Some e
  leftmost (Ok a) (Ok b) = None

  -- two answers fit the two sides of a node, and this is their leftmost failure
  abbrev pub IsLeftmost : T → F → Type 0
  IsLeftmost tag fault = (l r : Result V F) × (leftmost l r ≡ Some fault) × fits tag Left l × fits tag Right r
