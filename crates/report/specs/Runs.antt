-- Condition: numbers that lie in runs.
use Rattle.std.specs.Prelude.{ℤ, List, flat_map}
use denote.Ref.{Bor}

-- the numbers of runs, one run after the other
abbrev pub runs_in : List (Bor (List ℤ)) → List ℤ
runs_in runs = flat_map (λ run. run.now) runs
