use Rattle.std.proofs.Common.{◌≡◌, length}
use Rattle.std.specs.Vec.Iter.{into_iter_items, into_iter_len}
use Rattle.job_language.specs.Jobs.{jobs_of}
use Rattle.report_merge.specs.Merging.{merged, parts_of, rows_in}
use Rattle.report_merge.proofs.ApartLemmas.{AreDone}
use Rattle.report_merge.proofs.LoopLemmas.{AreLeft, merged_on, rows_on}
use Rattle.report_merge.proofs.merging.merged.Given as goal

-- the parts so far as one, and those that are left; and how many rows they have
abbrev pub invariant-loop-part : goal.invariant-loop-part
invariant-loop-part l =
    (goal.iterator-loop-part).can_next l.part-iterator ×
    (goal.iterator-loop-part).is_finite l.part-iterator ×
    (into_iter_len l.part-iterator ≡ length (into_iter_items l.part-iterator)) ×
    (merged_on (jobs_of l.fn.jobs) l.whole (parts_of (into_iter_items l.part-iterator))
    ≡ merged (jobs_of l.fn.jobs) (parts_of l.fn.parts.items)) ×
    (rows_on l.whole (parts_of (into_iter_items l.part-iterator)) ≡ rows_in (parts_of l.fn.parts.items)) ×
    AreLeft l.whole (parts_of (into_iter_items l.part-iterator)) (parts_of l.fn.parts.items) ×
    AreDone (jobs_of l.fn.jobs) l.whole l.number l.yielded (into_iter_items l.part-iterator) l.fn.parts.items
