use Rattle.std.proofs.Common.{◌<◌, arith, rules}
use Rattle.job_runner.specs.Runs.{pair_at}
use Rattle.job_runner.proofs.StopLemmas.{decisive_there}
use Rattle.job_runner.proofs.watch.Watch.seen.Goals as goal

pub returns-then-self-segments-clause-decisive : goal.returns-then-self-segments-clause-decisive
returns-then-self-segments-clause-decisive g c =
    let w = c.args.self.now in
    let low : w.word < c.segments.result = c.if-self-segments.true in
    let fits : c.segments.result < 4294967296 = search rules in
    decisive_there g.S.JobLegs.run (pair_at g.S.JobLegs.run.last g.S.JobLegs.run.jobs w.word) w.job w.leg
    c.seen_with.result (w.named (omega (arith, low, fits))).0 c.seen_with.ensures.decisive
