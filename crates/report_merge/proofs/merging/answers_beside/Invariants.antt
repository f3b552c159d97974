use Rattle.std.proofs.Common.{◌≡◌, ◌≤◌, drop, length}
use Rattle.std.specs.Vec.Iter.{into_iter_items, into_iter_len}
use Rattle.job_language.specs.Jobs.{jobs_of}
use Rattle.report_merge.specs.Apart.{first_apart}
use Rattle.report_merge.specs.Merging.{answers_beside}
use Rattle.report_merge.proofs.LoopLemmas.{onto}
use Rattle.report_merge.proofs.merging.answers_beside.Given as goal

-- the answers so far, and then those that are left
abbrev pub invariant-loop-answer : goal.invariant-loop-answer
invariant-loop-answer l =
    (goal.iterator-loop-answer).can_next l.answer-iterator ×
    (goal.iterator-loop-answer).is_finite l.answer-iterator ×
    (into_iter_len l.answer-iterator ≡ length (into_iter_items l.answer-iterator)) ×
    (l.job ≤ length l.fn.jobs) ×
    (l.job ≤ length l.fn.right.answers.items) ×
    (onto l.both.items (answers_beside (jobs_of (drop l.job l.fn.jobs)) l.fn.before l.fn.right.rows
    (into_iter_items l.answer-iterator) (drop l.job l.fn.right.answers.items))
    ≡ answers_beside (jobs_of l.fn.jobs) l.fn.before l.fn.right.rows l.fn.left.items l.fn.right.answers.items) ×
    (first_apart l.job (jobs_of (drop l.job l.fn.jobs)) l.fn.before l.fn.right.rows (into_iter_items l.answer-iterator)
    (drop l.job l.fn.right.answers.items)
    ≡ first_apart 0 (jobs_of l.fn.jobs) l.fn.before l.fn.right.rows l.fn.left.items l.fn.right.answers.items)
