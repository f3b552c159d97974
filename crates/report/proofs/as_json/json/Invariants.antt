use Rattle.std.proofs.Common.{◌≡◌, ◌∷◌, ◌++◌, false, drop, length}
use Rattle.serde_json.specs.View.{items_of}
use Rattle.serde_json.specs.Written.{items_text}
use Rattle.report.specs.Json.{jobs_json}
use Rattle.report.proofs.as_json.json.Given as goal

-- what is written, and the objects of the jobs that are left, are all the objects
abbrev pub invariant-loop-name : goal.invariant-loop-name
invariant-loop-name l =
    l.report.items ++ items_text l.later
    (items_of (jobs_json l.names (drop (length l.yielded) l.names) (drop (length l.yielded) l.answers)))
    ≡ 91 ∷ items_text false (items_of (jobs_json l.names l.names l.answers))
