use Rattle.std.proofs.Common.{◌+◌, ap, ◌∙◌, ◌≡◌}
use Rattle.job_runner.specs.Runs.{first_word, pair_at}
use Rattle.job_runner.proofs.StopLemmas.{word_at}
use Rattle.job_runner.proofs.places.word_of.Goals as goal

pub returns-in-Some : goal.returns-in-Some
returns-in-Some g c = λ small.
    let p = c.in-Some.of_job.now in
    let last = g.S.JobLegs.run.last in
    let a = c.word_after.ensures small in
    let same : p.job ≡ c.args.job = c.if-of_job-job.true in
    let first : p.first ≡ first_word last c.args.job = p.first_is a.1 ∙ ap (first_word last) same in
    ap (pair_at last g.S.JobLegs.run.jobs) (a.0 ∙ ap (λ n. n + c.args.leg) first)
    ∙ word_at last g.S.JobLegs.run.jobs c.args.job c.args.leg c.requires.job c.requires.leg
