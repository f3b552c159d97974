-- Condition: where items that stand in pieces are cut.
use Rattle.std.specs.Prelude.{◌≡◌, ℕ, ◌<◌, ◌≤◌, List, ◌++◌, length, take, drop, flat_map}

-- these whole pieces exist, and the next one has more than this many items, or none of its items are counted
pub record IsInside {X A : Type 0} (f : X → List A) (ps : List X) (whole within : ℕ) : Type 0 where
  pub pieces : whole ≤ length ps
  pub next : 0 < within → within < length (flat_map f (take 1 (drop whole ps)))

-- the first n items are the items of whole pieces, and some items of the next one
pub record IsCut {X A : Type 0} (f : X → List A) (ps : List X) (n whole within : ℕ) : Type 0 where
  pub inside : IsInside f ps whole within
  pub front : take n (flat_map f ps) ≡ flat_map f (take whole ps) ++ take within (flat_map f (drop whole ps))
  pub back : drop n (flat_map f ps) ≡ drop within (flat_map f (drop whole ps))
