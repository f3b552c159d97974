use Rattle.std.proofs.Common.{◌+◌, Ok, Err, arith}
use Rattle.std.proofs.lemmas.Result.{err_from_is_err_and}
use Rattle.trace.specs.declared.item.End.TheVariants as end
use Rattle.batch_eval.specs.BatchItems.{batch_items}
use Rattle.trace.specs.Stages.{stages_of}
use Rattle.trace.proofs.WalkLemmas.{IsFed_none, IsFed_whole}
use Rattle.batch_eval.proofs.feeding.feed_pieces.Goals as goal

pub loop-position-init : goal.loop-position-init
loop-position-init g c =
    record {
      within = omega arith;
      some = omega (arith, c.requires.some);
      few = c.requires.few;
      room = c.requires.room;
      wants = c.requires.wants;
      fed = λ xs took. IsFed_none g.S.LongSink.has_taken c.args.line.first (stages_of c.args.line.stages.now)
          c.args.line.env.now xs c.args.sink.now took;
    }

pub returns-in_default-clause-fed : goal.returns-in_default-clause-fed
returns-in_default-clause-fed g c = λ xs took.
    let all = batch_items c.args.items.now in
    IsFed_whole g.S.LongSink.has_taken c.args.line.first (stages_of c.args.line.stages.now) c.args.line.env.now xs all
    (c.loop-position.position + c.min-taken.result) end.Done (Ok c.in_ok-ended.ended) c.feed_piece.new.sink
    (λ e. c.in_default.not-More cc) (c.in_ok-ended.ensures.fed xs (c.loop-position.invariant.fed xs took))

pub returns-in_err-ended-clause-fed : goal.returns-in_err-ended-clause-fed
returns-in_err-ended-clause-fed g c = λ xs took.
    let all = batch_items c.args.items.now in
    let p = err_from_is_err_and c.from_residual.result c.from_residual.ensures.1 in
    rw p.1 (IsFed_whole g.S.LongSink.has_taken c.args.line.first (stages_of c.args.line.stages.now) c.args.line.env.now
    xs all (c.loop-position.position + c.min-taken.result) end.Done (Err c.in_err-ended.field-0.0)
    c.feed_piece.new.sink (λ e. cc) (c.in_err-ended.ensures.fed xs (c.loop-position.invariant.fed xs took)))
