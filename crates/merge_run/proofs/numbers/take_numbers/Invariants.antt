use Rattle.std.proofs.Common.{◌≡◌, ◌++◌, ◌∷◌, ℕ, ℤ, List, length}
use Rattle.job_meaning.specs.Longs.{AllFit}
use Rattle.merge_run.specs.Taken.{parted}
use Rattle.merge_run.proofs.NumbersLemmas.{AreOthersLeft}
use Rattle.merge_run.proofs.numbers.take_numbers.Given as goal

abbrev pub invariant-loop-more : goal.invariant-loop-more
invariant-loop-more l =
    ((values : List ℤ) (rest : List ℕ) → AllFit values → l.fn.bytes ≡ parted values ++ 93 ∷ rest
    → AreOthersLeft values rest l.numbers.items l.left)
    × AllFit l.numbers.items

abbrev pub decreases-loop-more : goal.decreases-loop-more
decreases-loop-more l = length l.left
