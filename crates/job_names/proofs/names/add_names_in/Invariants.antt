use Rattle.std.proofs.Common.{◌≡◌, ◌≤◌, ◌++◌, IfSome, None, drop, map}
use Rattle.job_names.specs.JobNames.{names_after}
use Rattle.job_names.proofs.NameLemmas.{begun_in}
use Rattle.job_names.proofs.names.add_names_in.Given as goal

-- the names that were ended are added, and a piece may be begun
abbrev pub invariant-loop-at : goal.invariant-loop-at
invariant-loop-at l =
    IfSome l.begun (λ from. from ≤ l.at)
    × (map (λ name. name.items) l.names.items ++ names_after (begun_in l.begun l.text l.at) (drop l.at l.text)
    ≡ map (λ name. name.items) l.initial.names.items ++ names_after None l.text)
