use Rattle.std.proofs.Common.{◌<◌, arith, rules}
use Rattle.job_runner.specs.Runs.{pair_at}
use Rattle.job_runner.proofs.StopLemmas.{decisive_here}
use Rattle.job_runner.proofs.watch.Watch.lower.Goals as goal

pub lower_with-requires-clause-decisive : goal.lower_with-requires-clause-decisive
lower_with-requires-clause-decisive g c =
    let w = c.args.self.now in
    let low : w.word < c.segments.result = c.if-self-segments.true in
    let fits : c.segments.result < 4294967296 = search rules in
    decisive_here g.S.JobLegs.run (pair_at g.S.JobLegs.run.last g.S.JobLegs.run.jobs w.word) w.job w.leg c.args.place
    (w.named (omega (arith, low, fits))).0 c.requires.decisive
