use Rattle.std.proofs.Common.{◌≡◌, IfNone, IfSome}
use Rattle.job_runner.proofs.alone.walk_alone.Given as goal

abbrev pub invariant-loop-leg : goal.invariant-loop-leg
invariant-loop-leg g l = record {
  first : IfNone l.source (l.leg ≡ 0);
  source : IfSome l.source (λ source. g.S.JobLegs.run.is_source l.job l.leg source);
  size : l.size ≡ g.S.JobLegs.run.size l.job l.leg;
}
