use Rattle.std.proofs.Common.{◌≡◌, ◌≤◌, drop, length}
use Rattle.std.specs.Vec.Iter.{into_iter_items, into_iter_len}
use Rattle.job_language.specs.Jobs.{jobs_of}
use Rattle.report_merge.specs.Apart.{first_unpaired}
use Rattle.report_merge.specs.Merging.{with_fallbacks}
use Rattle.report_merge.proofs.LoopLemmas.{onto}
use Rattle.report_merge.proofs.merging.with_fallbacks.Given as goal

-- the answers so far, and then those that are left
abbrev pub invariant-loop-answer : goal.invariant-loop-answer
invariant-loop-answer l =
    (goal.iterator-loop-answer).can_next l.answer-iterator ×
    (goal.iterator-loop-answer).is_finite l.answer-iterator ×
    (into_iter_len l.answer-iterator ≡ length (into_iter_items l.answer-iterator)) ×
    (l.job ≤ length l.fn.jobs) ×
    (onto l.all.items (with_fallbacks (jobs_of (drop l.job l.fn.jobs)) (into_iter_items l.answer-iterator))
    ≡ with_fallbacks (jobs_of l.fn.jobs) l.fn.answers.items) ×
    (first_unpaired l.job (jobs_of (drop l.job l.fn.jobs)) (into_iter_items l.answer-iterator)
    ≡ first_unpaired 0 (jobs_of l.fn.jobs) l.fn.answers.items)
