-- Condition: sources that are arrays of earlier jobs.
use Rattle.std.specs.Prelude.{Bool, true, false, List, [], ◌∷◌}
use Rattle.job_language.specs.Jobs.{AbstractPlainSource, range, range_closed, values, result}

-- whether a source is the array of an earlier job
abbrev pub takes_arrays : List AbstractPlainSource → Bool
takes_arrays [] = false
takes_arrays (range a b ∷ ss) = takes_arrays ss
takes_arrays (range_closed a b ∷ ss) = takes_arrays ss
takes_arrays (values vs ∷ ss) = takes_arrays ss
takes_arrays (result name ∷ ss) = true
