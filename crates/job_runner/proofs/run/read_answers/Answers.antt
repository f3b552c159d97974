use Rattle.std.proofs.Common.{◌≡◌, ◌+◌, ap, sym, subst, length, arith}
use Rattle.job_runner.specs.Runs.{AreAnswers}
use Rattle.job_runner.proofs.AnswerLemmas.{more_answers}
use Rattle.job_runner.proofs.ArmLemmas.{length_snoc}
use Rattle.job_runner.proofs.run.read_answers.Goals as goal

pub loop-job-preserved : goal.loop-job-preserved
loop-job-preserved g c =
    let so_far = c.loop-job.answers.items in
    let a = c.in_ok-answer.answer in
    let n = c.loop-job.invariant.0 in
    let items = c.in_ok-push.ensures.items in
    let l = ap length items in
    let s = length_snoc so_far a in
    let at : c.loop-job.job ≡ 0 + length so_far = omega arith in (
      omega arith,
      subst (λ l. AreAnswers g.S.JobLegs.run.is_answer 0 l) (sym items)
          (more_answers g.S.JobLegs.run.is_answer 0 so_far a c.loop-job.invariant.1
          (subst (λ j. g.S.JobLegs.run.is_answer j a) at c.in_ok-answer.ensures)),
    )
