use Rattle.std.proofs.Common.{refl}
use Rattle.std.specs.Vec.Iter.{into_iter_items}
use Rattle.report_merge.proofs.ApartLemmas.{more_jobs}
use Rattle.report_merge.proofs.LoopLemmas.{no_answer, nothing_left}
use Rattle.report_merge.proofs.merging.with_fallbacks.Goals as goal

pub returns-then-job-jobs-2-clause-refused : goal.returns-then-job-jobs-2-clause-refused
returns-then-job-jobs-2-clause-refused c =
    let items = into_iter_items c.loop-answer.answer-iterator in
    let none = nothing_left items _ c.loop-answer.invariant.2 c.in-None.ensures.steps.0 in
    λ other. no_answer c.args.jobs.now c.loop-answer.job items c.args.answers.items c.loop-answer.all.items
    c.if-job-jobs-2.true none c.loop-answer.invariant.4

pub returns-then-job-jobs-2-clause-at : goal.returns-then-job-jobs-2-clause-at
returns-then-job-jobs-2-clause-at c =
    let items = into_iter_items c.loop-answer.answer-iterator in
    let none = nothing_left items _ c.loop-answer.invariant.2 c.in-None.ensures.steps.0 in (
      refl,
      more_jobs c.args.jobs.now c.loop-answer.job items c.args.answers.items c.loop-answer.invariant.5
          c.if-job-jobs-2.true none,
    )
