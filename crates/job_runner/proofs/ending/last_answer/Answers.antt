use Rattle.std.proofs.Common.{ℕ, IfSome, subst}
use Rattle.job_runner.proofs.ending.last_answer.Goals as goal

pub answer-requires-clause-source : goal.answer-requires-clause-source
answer-requires-clause-source g c =
    subst (λ (k : ℕ). IfSome c.in-Some.input.source
    (λ source. g.S.JobLegs.run.is_source c.args.kept.now.job k source.now)) c.requires.last
    (rw c.in-Some.is at c.input_of.ensures.source)
