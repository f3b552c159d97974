use Rattle.std.proofs.Common.{◌≡◌, ◌+◌, ◌≤◌, suc, List, length}
use Rattle.std.specs.Vec.Iter.{into_iter_items, into_iter_len}
use Rattle.lambda_values.specs.Earlier.{Numbers}
use Rattle.job_language.specs.Jobs.{AbstractPlainSource, job_stages_of, terminal_of}
use Rattle.job_meaning.specs.Walks.{after_stages, source_walk}
use Rattle.job_routes.specs.Building.{begun_walk}
use Rattle.job_routes.specs.Legs.{end_in, number_after, end_of}
use Rattle.job_routes.proofs.building.legs_of.Given as goal

abbrev pub invariant-loop-stage : goal.invariant-loop-stage
invariant-loop-stage l =
    (goal.iterator-loop-stage).can_next l.stage-iterator ×
    (goal.iterator-loop-stage).is_finite l.stage-iterator ×
    ((env : Numbers) (ss : List AbstractPlainSource)
    → after_stages (number_after l.begun.stages) (job_stages_of (into_iter_items l.stage-iterator)) env
    (begun_walk l.begun env ss) ≡ after_stages 1 (job_stages_of l.fn.stages.items) env (source_walk ss)) ×
    (number_after l.begun.stages + length (into_iter_items l.stage-iterator) ≡ suc (length l.fn.stages.items)) ×
    (length l.begun.links.items + length (into_iter_items l.stage-iterator) ≤ 32) ×
    (into_iter_len l.stage-iterator ≡ length (into_iter_items l.stage-iterator)) ×
    (end_in l.end ≡ end_of (terminal_of l.fn.terminal))
