-- Condition: what a walk has to have of a side of a node.
use Rattle.std.specs.Prelude.{ℕ, ℤ, ◌-◌, ◌≤◌, List, length}
use Rattle.pending_count.specs.declared.place.Place.{Place}
use Rattle.pending_count.specs.declared.place.Fits.{Ghosts}
use Rattle.pending_count.specs.declared.counts.Counts.{Counts}
use Rattle.completer_tree.specs.declared.tree.Half.{Half}
use Rattle.completer_tree.specs.Trees.{table_id_of, CanFork}
use Rattle.test_completers.specs.declared.cut.NumberCut.{NumberCut}
use Rattle.test_completers.specs.Walks.{begins, ends_at}

-- how many numbers a side has
abbrev pub size_of : Place NumberCut → ℕ
size_of p = ends_at p.tag p.side - begins p.tag p.side

-- the seat can fork there, and the numbers of the side lie in the source
pub record CanWalk {V K : Type 0} {g : Ghosts K V NumberCut} (counts : Counts V K NumberCut) (source : List ℤ)
    (half : Half V K NumberCut g) : Type 0 where
  pub fork : CanFork (table_id_of counts) half.place half.seat
  pub ordered : begins half.place.tag half.place.side ≤ ends_at half.place.tag half.place.side
  pub within : ends_at half.place.tag half.place.side ≤ length source
