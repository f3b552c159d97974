use Rattle.std.proofs.Common.{sym}
use Rattle.job_runner.proofs.StopLemmas.{decides_for}
use Rattle.job_runner.proofs.watch.Watch.settle.Goals as goal

pub lower-requires : goal.lower-requires
lower-requires g c = record {
  decisive =
      decides_for g.S.JobLegs.run _ _ _ _ _ (sym c.requires.aimed.0) (sym c.requires.aimed.1)
      (c.is_settled.ensures c.if-is_settled.true);
}
