use Rattle.std.proofs.Common.{◌+◌, ◌≤◌, length, Ok, Err, arith}
use Rattle.std.proofs.lemmas.Result.{err_from_is_err_and}
use Rattle.trace.specs.declared.item.End.TheVariants as end
use Rattle.trace.specs.declared.feeding.Fed.TheVariants as fed
use Rattle.trace.specs.Stages.{stages_of}
use Rattle.trace.proofs.WalkLemmas.{IsFed_none, IsFed_next, IsFed_whole, IsFed_all}
use Rattle.trace.proofs.feeding.feed_all.Goals as goal

pub loop-position-init : goal.loop-position-init
loop-position-init g c = (
  c.requires.wants,
  λ xs took. IsFed_none g.S.LongSink.has_taken c.args.first_stage (stages_of c.args.stages.now)
      c.args.env.now xs c.args.sink.now took,
)

pub loop-position-preserved : goal.loop-position-preserved
loop-position-preserved g c =
    let more = rw c.in-More.is at c.in_ok-ended.ensures.fed in (
      rw c.in-More.is at c.in_ok-ended.ensures.flow,
      λ xs took. IsFed_next g.S.LongSink.has_taken c.args.first_stage (stages_of c.args.stages.now) c.args.env.now xs
          (g.I.SourceItems.items c.args.source.now) c.loop-position.position c.item_at.result (Ok fed.More)
          c.loop-position.sink c.feed.new.sink c.item_at.ensures (c.loop-position.invariant.1 xs took) more,
    )

pub returns-in_default-clause-fed : goal.returns-in_default-clause-fed
returns-in_default-clause-fed g c = λ xs took.
    let items = g.I.SourceItems.items c.args.source.now in
    let fed_here = IsFed_next g.S.LongSink.has_taken c.args.first_stage (stages_of c.args.stages.now) c.args.env.now xs
    items c.loop-position.position c.item_at.result (Ok c.in_ok-ended.ended) c.loop-position.sink c.feed.new.sink
    c.item_at.ensures (c.loop-position.invariant.1 xs took) c.in_ok-ended.ensures.fed in
    IsFed_whole g.S.LongSink.has_taken c.args.first_stage (stages_of c.args.stages.now) c.args.env.now xs items
    (c.loop-position.position + 1) end.Done (Ok c.in_ok-ended.ended) c.feed.new.sink (λ e. c.in_default.not-More cc)
    fed_here

pub returns-in_err-ended-clause-fed : goal.returns-in_err-ended-clause-fed
returns-in_err-ended-clause-fed g c = λ xs took.
    let items = g.I.SourceItems.items c.args.source.now in
    let p = err_from_is_err_and c.from_residual.result c.from_residual.ensures.1 in
    let fed_here = IsFed_next g.S.LongSink.has_taken c.args.first_stage (stages_of c.args.stages.now) c.args.env.now xs
    items c.loop-position.position c.item_at.result (Err c.in_err-ended.field-0.0) c.loop-position.sink
    c.feed.new.sink c.item_at.ensures (c.loop-position.invariant.1 xs took) c.in_err-ended.ensures.fed in
    rw p.1 (IsFed_whole g.S.LongSink.has_taken c.args.first_stage (stages_of c.args.stages.now) c.args.env.now xs items
    (c.loop-position.position + 1) end.Done (Err c.in_err-ended.field-0.0) c.feed.new.sink (λ e. cc) fed_here)

pub returns-clause-fed : goal.returns-clause-fed
returns-clause-fed g c = λ xs took.
    let items = g.I.SourceItems.items c.args.source.now in
    let past : length items ≤ c.loop-position.position =
    omega (arith, c.loop-position-test.false, c.count-position-end.ensures) in
    IsFed_all g.S.LongSink.has_taken c.args.first_stage (stages_of c.args.stages.now) c.args.env.now xs items
    c.loop-position.position (Ok fed.More) c.loop-position.sink past (c.loop-position.invariant.1 xs took)
