use Rattle.std.specs.Prelude.{IfSome}
use Rattle.job_runner.specs.Cuts.{StandsWhole}
use Rattle.job_runner.proofs.ending.JobWork+S+TablePart+S+TableKept+S+R.end_legs.Given as goal

abbrev pub invariant-loop : goal.invariant-loop
invariant-loop g l = IfSome l.ended (λ whole. StandsWhole g.S.JobLegs.run (λ x. x.found) whole.job.job whole.leg
    whole.part)
