-- Condition: what a fork gives.
use Rattle.std.specs.Prelude.{◌≡◌, ℕ, ◌+◌, ⊤, ◌⊎◌}
use Rattle.pending_count.specs.declared.place.Fits.{Ghosts}
use Rattle.pending_count.specs.declared.seat.Seat.{Seat}
use Rattle.completer_tree.specs.declared.tree.Half.{Half}
use Rattle.completer_tree.specs.declared.tree.Forked.{Forked}
use Rattle.completer_tree.specs.declared.tree.Forked.TheVariants as forked

-- of the credit, less the one that the claim cost, the right side has half, rounded down
pub record HalvesCredit (credit left right : ℕ) : Type 0 where
  pub all : left + right + 1 ≡ credit
  pub half : (left ≡ right) ⊎ (left ≡ right + 1)

module _ {V K T C : Type 0} {g : Ghosts K V T} where
  -- if it was split, this holds of the two sides
  abbrev pub IfSplit : Forked V K C T g → (Half V K T g → Half V K T g → Type 0) → Type 0
  IfSplit (forked.Split left right) P = P left right
  IfSplit (forked.Whole seat run) P = ⊤

  -- if no node could be claimed, this holds of the seat and the continuations
  abbrev pub IfWhole : Forked V K C T g → (Seat V K T g → C → Type 0) → Type 0
  IfWhole (forked.Split left right) P = ⊤
  IfWhole (forked.Whole seat run) P = P seat run
