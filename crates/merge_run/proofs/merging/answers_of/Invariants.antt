use Rattle.std.proofs.Common.{◌≡◌, ◌++◌, length}
use Rattle.std.specs.Prelude.{All, vec_len}
use Rattle.std.specs.Vec.Iter.{into_iter_items}
use Rattle.job_language.specs.Jobs.{jobs_of}
use Rattle.report.specs.Named.{IsNamed}
use Rattle.report_merge.specs.Merging.{parts_of}
use Rattle.merge_run.specs.Merged.{ArePossible, AreReportsOf}
use Rattle.merge_run.specs.Small.{ArePartsSmall}
use Rattle.merge_run.proofs.merging.answers_of.Given as goal

abbrev pub invariant-loop-part : goal.invariant-loop-part
invariant-loop-part l =
    AreReportsOf l.names l.yielded (parts_of l.found.items)
    × All (λ part. All (IsNamed l.names) part.answers.items) l.found.items
    × ArePossible (jobs_of l.jobs) (parts_of l.found.items)
    × (vec_len l.found ≡ length l.yielded)
    × ArePartsSmall l.names (parts_of l.found.items)
    × (l.yielded ++ into_iter_items l.part-iterator ≡ l.fn.parts.items)
