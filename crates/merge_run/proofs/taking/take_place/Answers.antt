use Rattle.std.proofs.Common.{◌≡◌, ℕ, ◌∷◌, ◌++◌, List, Option, Some, None, refl, sym, ap, ◌∙◌, drop}
use Rattle.std.specs.Prelude.{codes}
use Rattle.job_meaning.specs.Longs.{PlaceFits}
use Rattle.merge_run.specs.Taken.{place_then}
use Rattle.merge_run.proofs.TakenLemmas.{no_count}
use Rattle.merge_run.proofs.taking.take_place.Goals as goal

none_there : (o : Option ℕ) (bytes left more : List ℕ) → PlaceFits o → bytes ≡ codes "null" ++ left
    → bytes ≡ place_then o more → (None ≡ o) × (left ≡ more)
none_there None bytes left more fits found same = (refl, ap (drop 4) (sym found ∙ same))
none_there (Some n) bytes left more fits found same = absurd (no_count n more _ 110 fits refl (sym same ∙ found))

pub returns-in-Some : goal.returns-in-Some
returns-in-Some c = λ o rest b fits is same. none_there o _ c.in-Some.rest.now (b ∷ rest) fits c.in-Some.ensures same
