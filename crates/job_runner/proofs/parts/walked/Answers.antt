use Rattle.std.proofs.Common.{ℕ, IfSome, subst}
use Rattle.job_runner.proofs.StopLemmas.{decides_for}
use Rattle.job_runner.proofs.parts.walked.Goals as goal

pub leaf-requires-clause-stop : goal.leaf-requires-clause-stop
leaf-requires-clause-stop g c = λ place. decides_for g.S.JobLegs.run _ _ _ _ place c.requires.watched.0
    c.requires.watched.1

pub leaf-requires-clause-source : goal.leaf-requires-clause-source
leaf-requires-clause-source g c =
    subst (λ (j : ℕ). IfSome c.in-Some.input.source (λ source. g.S.JobLegs.run.is_source j c.args.piece.leg source.now))
    c.requires.given (rw c.in-Some.is at c.input_of.ensures.source)
