use Rattle.std.proofs.Common.{◌≡◌, ◌++◌}
use Rattle.std.specs.Vec.Iter.{into_iter_items}
use Rattle.job_language.specs.Jobs.{job_of}
use Rattle.job_meaning.specs.Names.{names_in_job}
use Rattle.job_plan.specs.Plans.{plan_names, all_placed}
use Rattle.job_plan.proofs.names.named_in.Given as goal

-- the names so far that have a place, and those that are left
abbrev pub invariant-loop-name : goal.invariant-loop-name
invariant-loop-name l =
    (goal.iterator-loop-name).can_next l.name-iterator ×
    (goal.iterator-loop-name).is_finite l.name-iterator ×
    (l.named.items ++ all_placed (plan_names l.fn.before) (into_iter_items l.name-iterator)
    ≡ all_placed (plan_names l.fn.before) (names_in_job (job_of l.fn.job)))
