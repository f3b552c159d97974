use Rattle.std.proofs.Common.{◌<◌, ◌≤◌, List, length, refl, subst}
use Rattle.std.specs.Vec.Iter.{into_iter_items}
use Rattle.job_meaning.specs.declared.answer.Answer.{Answer}
use Rattle.report_merge.proofs.ApartLemmas.{without_left, without_right}
use Rattle.report_merge.proofs.LoopLemmas.{more_right, no_left, no_right, nothing_left}
use Rattle.report_merge.proofs.merging.answers_beside.Goals as goal

pub returns-then-job-jobs-2-clause-refused : goal.returns-then-job-jobs-2-clause-refused
returns-then-job-jobs-2-clause-refused c =
    let items = into_iter_items c.loop-answer.answer-iterator in
    let none = nothing_left items _ c.loop-answer.invariant.2 c.in-None.ensures.steps.0 in
    λ other. no_left c.args.jobs.now c.loop-answer.job c.args.before c.args.right.now.rows items c.args.left.items
    c.args.right.now.answers.items c.loop-answer.both.items c.if-job-jobs-2.true none c.loop-answer.invariant.5

pub returns-then-job-others-clause-refused : goal.returns-then-job-others-clause-refused
returns-then-job-others-clause-refused c =
    let items = into_iter_items c.loop-answer.answer-iterator in
    λ other. no_right c.args.jobs.now c.loop-answer.job c.args.before c.args.right.now.rows items c.args.left.items
    c.args.right.now.answers.items c.loop-answer.both.items c.in-Some.answer _ c.if-job-jobs.false
    (subst (λ (bs : List Answer). length bs ≤ c.loop-answer.job) c.as_slice-others.ensures.value c.if-job-others.true)
    c.in-Some.ensures.steps.0 c.loop-answer.invariant.5

pub returns-then-job-others-2-clause-refused : goal.returns-then-job-others-2-clause-refused
returns-then-job-others-2-clause-refused c =
    let items = into_iter_items c.loop-answer.answer-iterator in
    let none = nothing_left items _ c.loop-answer.invariant.2 c.in-None.ensures.steps.0 in
    λ other. more_right c.args.jobs.now c.loop-answer.job c.args.before c.args.right.now.rows items c.args.left.items
    c.args.right.now.answers.items c.loop-answer.both.items c.if-job-jobs-2.false
    (subst (λ (bs : List Answer). c.loop-answer.job < length bs) c.as_slice-others.ensures.value c.if-job-others-2.true)
    none c.loop-answer.invariant.5

pub returns-then-job-others-clause-at : goal.returns-then-job-others-clause-at
returns-then-job-others-clause-at c =
    let items = into_iter_items c.loop-answer.answer-iterator in (
      refl,
      without_right c.args.jobs.now c.loop-answer.job c.args.before c.args.right.now.rows items c.args.left.items
          c.args.right.now.answers.items c.loop-answer.invariant.6 c.in-Some.answer _
          (subst (λ (bs : List Answer). length bs ≤ c.loop-answer.job) c.as_slice-others.ensures.value
          c.if-job-others.true) c.in-Some.ensures.steps.0,
    )

pub returns-then-job-jobs-2-clause-at : goal.returns-then-job-jobs-2-clause-at
returns-then-job-jobs-2-clause-at c =
    let items = into_iter_items c.loop-answer.answer-iterator in
    let none = nothing_left items _ c.loop-answer.invariant.2 c.in-None.ensures.steps.0 in (
      refl,
      without_left c.args.jobs.now c.loop-answer.job c.args.before c.args.right.now.rows items c.args.left.items
          c.args.right.now.answers.items c.loop-answer.invariant.6 c.if-job-jobs-2.true none,
    )
