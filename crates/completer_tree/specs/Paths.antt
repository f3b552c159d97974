-- Condition: what a seat knows of a path of plain nodes, and what arrivals along it are.
use Rattle.std.specs.Prelude.{◌≡◌, ◌≢◌, ℕ, suc, ◌<◌, List, [], ◌∷◌, Some, ⊤}
use Rattle.completion_core.specs.Legal.{count}
use Rattle.pending_count.specs.declared.view.View.{View}
use Rattle.pending_count.specs.Views.{left_slot, right_slot, note_of, IsPlainAt}
use Rattle.pending_count.specs.Steps.{IsArrived}

module _ {T : Type 0} where
  -- The seat has noted that the node i keeps an arrival at the node j, and no side of a pair at any node of the path
  -- from j on.
  pub record Keeps (i j : ℕ) (path : List ℕ) (v : View T) : Type 0 where
    pub given : List ℕ
    pub noted : note_of i v.noted ≡ Some given
    pub some : 0 < count j given
    pub sides : List ℕ
    pub noted_sides : note_of i v.noted_sides ≡ Some sides
    pub plain : (k : ℕ) → 0 < count k path → (count (left_slot k) sides ≡ 0) × (count (right_slot k) sides ≡ 0)

  -- the node keeps an arrival at the first node of the path, and each node of it one at the next
  abbrev pub KeepsNext : ℕ → List ℕ → View T → Type 0
  KeepsNext i [] v = ⊤
  KeepsNext i (j ∷ path) v = Keeps i j (j ∷ path) v × KeepsNext j path v

  -- nodes of `arm` at which the seat holds no side
  abbrev pub ArePlain : List ℕ → View T → Type 0
  ArePlain path v = (k : ℕ) → 0 < count k path → (0 < k) × IsPlainAt k v

  -- the seat holds an arrival at the first node, and each node keeps one at the next
  abbrev pub IsPath : List ℕ → View T → Type 0
  IsPath [] v = ⊤
  IsPath (i ∷ path) v = (0 < count i v.held) × ArePlain (i ∷ path) v × KeepsNext i path v

  -- the arrivals at the nodes of a path in turn, up to the first that isn't the last at its node; `finished` of them
  -- are the last
  abbrev pub Propagates : (S : Type 0) → ℕ → ℕ → List ℕ → View T → View T → ℕ → Type 0
  Propagates S nodes actor [] v w finished = (finished ≡ 0) × (w ≡ v)
  Propagates S nodes actor (i ∷ path) v w finished =
      (n : ℕ) × (u : View T) × IsArrived S nodes actor i v n u
      × (n ≢ 1 → (finished ≡ 0) × (w ≡ u))
      × (n ≡ 1 → (later : ℕ) × (finished ≡ suc later) × Propagates S nodes actor path u w later)
