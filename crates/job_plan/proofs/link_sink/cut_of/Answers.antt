use Rattle.std.proofs.Common.{arith}
use Rattle.batch_eval.proofs.LaneLemmas.{length_laid}
use Rattle.job_plan.proofs.link_sink.cut_of.Goals as goal

pub cut-requires : goal.cut-requires
cut-requires c = record { front = c.tested-front.ensures c.args.junction.stage }

pub returns-clause-within : goal.returns-clause-within
returns-clause-within c =
    let l = c.args.lanes in
    omega (arith, c.cut.ensures.within, length_laid l.start l.places.now l.values.now)
