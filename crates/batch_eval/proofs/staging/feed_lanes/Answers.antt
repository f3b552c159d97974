use Rattle.std.proofs.Common.{Ok, Err}
use Rattle.std.proofs.lemmas.Result.{err_from_is_err_and}
use Rattle.trace.specs.Stages.{stages_of}
use Rattle.batch_eval.proofs.BatchWalkLemmas.{IsFed_end, IsFed_cut}
use Rattle.batch_eval.proofs.staging.feed_lanes.Goals as goal

pub returns-in-More-clause-fed : goal.returns-in-More-clause-fed
returns-in-More-clause-fed g c = λ xs took.
    let more = rw c.in-More.is at c.in_ok-stopped.ensures.fed in
    let batch = c.args.batch.now in
    rw (c.fed_by.ensures, c.end.ensures)
    (IsFed_end g.S.LongSink.has_taken c.args.line.first (stages_of c.args.line.stages.now) c.args.line.env.now xs
    batch.items batch.ending c.feed_all.new.sink (more xs took))

pub returns-in_default-clause-fed : goal.returns-in_default-clause-fed
returns-in_default-clause-fed g c = λ xs took.
    let batch = c.args.batch.now in
    IsFed_cut g.S.LongSink.has_taken c.args.line.first (stages_of c.args.line.stages.now) c.args.line.env.now xs
    batch.items batch.ending (Ok c.in_ok-stopped.stopped) c.feed_all.new.sink (λ e. c.in_default.not-More cc)
    (c.in_ok-stopped.ensures.fed xs took)

pub returns-in_err-stopped-clause-fed : goal.returns-in_err-stopped-clause-fed
returns-in_err-stopped-clause-fed g c = λ xs took.
    let p = err_from_is_err_and c.from_residual.result c.from_residual.ensures.1 in
    let batch = c.args.batch.now in
    rw p.1 (IsFed_cut g.S.LongSink.has_taken c.args.line.first (stages_of c.args.line.stages.now) c.args.line.env.now xs
    batch.items batch.ending (Err c.in_err-stopped.field-0.0) c.feed_all.new.sink (λ e. cc)
    (c.in_err-stopped.ensures.fed xs took))
