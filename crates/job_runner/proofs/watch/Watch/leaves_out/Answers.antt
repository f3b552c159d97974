use Rattle.job_runner.proofs.StopLemmas.{decides_for}
use Rattle.job_runner.proofs.watch.Watch.leaves_out.Goals as goal

pub returns-then-seen-clause-decided : goal.returns-then-seen-clause-decided
returns-then-seen-clause-decided g c = λ yes. (
  c.seen-seen.result,
  c.if-seen-piece.true,
  decides_for g.S.JobLegs.run _ _ _ _ c.seen-seen.result c.aim.ensures.0 c.aim.ensures.1
      (c.seen-seen.ensures.decisive c.if-seen.true),
)
