use Rattle.std.proofs.Common.{sym, ◌∙◌}
use Rattle.report_merge.proofs.LoopLemmas.{next_job}
use Rattle.report_merge.proofs.unmergeable.first_unmergeable.Goals as goal

pub loop-place-preserved : goal.loop-place-preserved
loop-place-preserved c = next_job c.args.jobs.now c.loop-place.place c.index-jobs-place.result _ c.loop-place-test.true
    c.index-jobs-place.is (sym c.in_default.is ∙ c.in_ok-cause.ensures) c.loop-place.invariant
