use Rattle.std.proofs.Common.{◌+◌, ◌≤◌, List, [], ◌∷◌, length, Ok, Err, arith, rules}
use Rattle.lambda_values.specs.declared.item.Item.{Item}
use Rattle.trace.specs.Trace.{trace}
use Rattle.trace.specs.Sinks.{IsFed}
use Rattle.std.proofs.lemmas.Result.{err_from_is_err_and}
use Rattle.lambda_values.specs.Streams.{run_or_listed}
use Rattle.trace.specs.declared.item.End.TheVariants as end
use Rattle.trace.specs.declared.feeding.Fed.TheVariants as fed
use Rattle.trace.specs.Stages.{at_place, pipe, stages_of}
use Rattle.trace.proofs.JoinLemmas.{pipe_ended}
use Rattle.trace.proofs.WalkLemmas.{IsFed_none, IsFed_next, IsFed_whole, IsFed_all}
use Rattle.trace.proofs.feeding.+feed.Goals as goal

pub feed-returns-in-Err-clause-fed : goal.feed-returns-in-Err-clause-fed
feed-returns-in-Err-clause-fed g t c = search (rules, pipe_ended)

pub feed-returns-in-Ok-false-clause-fed : goal.feed-returns-in-Ok-false-clause-fed
feed-returns-in-Ok-false-clause-fed g t c = search (rules, pipe_ended)

pub feed-returns-in-Err-eval_at-clause-fed : goal.feed-returns-in-Err-eval_at-clause-fed
feed-returns-in-Err-eval_at-clause-fed g t c = search (rules, pipe_ended)

pub feed-returns-in-Err-eval_into-clause-fed : goal.feed-returns-in-Err-eval_into-clause-fed
feed-returns-in-Err-eval_into-clause-fed g t c = search (rules, pipe_ended)

pub feed_inner-loop-position-init : goal.feed_inner-loop-position-init
feed_inner-loop-position-init g t c = (
  c.requires.wants,
  λ xs took. IsFed_none g.S.LongSink.has_taken c.args.first_stage (stages_of c.args.stages.now)
      c.args.env.now xs c.args.sink.now took,
)

pub feed_inner-loop-position-preserved : goal.feed_inner-loop-position-preserved
feed_inner-loop-position-preserved g t c =
    let items = at_place c.args.values.now.origin (run_or_listed c.args.values.now.run c.args.values.now.listed.now) in
    let asked : (vs : List Item) → g.S.LongSink.has_taken c.loop-position.sink vs
    → IsFed g.S.LongSink.has_taken vs
    (pipe c.args.first_stage (stages_of c.args.stages.now) c.args.env.now (trace (c.item_at.result ∷ []) end.Done))
    (Ok c.asked.result) c.asked.new.sink = λ vs here. c.asked.ensures.fed vs _ (c.in_ok-fed.ensures.fed vs here) in
    let more = rw c.in-More.is at asked in (
      rw c.in-More.is at c.asked.ensures.flow,
      λ xs took. IsFed_next g.S.LongSink.has_taken c.args.first_stage (stages_of c.args.stages.now) c.args.env.now xs
          items c.loop-position.position c.item_at.result (Ok fed.More) c.loop-position.sink c.asked.new.sink
          c.item_at.ensures (c.loop-position.invariant.1 xs took) more,
    )

pub feed_inner-returns-in_default-clause-fed : goal.feed_inner-returns-in_default-clause-fed
feed_inner-returns-in_default-clause-fed g t c = λ xs took.
    let items = at_place c.args.values.now.origin (run_or_listed c.args.values.now.run c.args.values.now.listed.now) in
    let fed_here = IsFed_next g.S.LongSink.has_taken c.args.first_stage (stages_of c.args.stages.now) c.args.env.now xs
    items c.loop-position.position c.item_at.result (Ok c.asked.result) c.loop-position.sink c.asked.new.sink
    c.item_at.ensures (c.loop-position.invariant.1 xs took)
    (λ vs here. c.asked.ensures.fed vs _ (c.in_ok-fed.ensures.fed vs here)) in
    IsFed_whole g.S.LongSink.has_taken c.args.first_stage (stages_of c.args.stages.now) c.args.env.now xs items
    (c.loop-position.position + 1) end.Done (Ok c.asked.result) c.asked.new.sink (λ e. c.in_default.not-More cc)
    fed_here

pub feed_inner-returns-in_err-fed-clause-fed : goal.feed_inner-returns-in_err-fed-clause-fed
feed_inner-returns-in_err-fed-clause-fed g t c = λ xs took.
    let items = at_place c.args.values.now.origin (run_or_listed c.args.values.now.run c.args.values.now.listed.now) in
    let p = err_from_is_err_and c.from_residual.result c.from_residual.ensures.1 in
    let fed_here = IsFed_next g.S.LongSink.has_taken c.args.first_stage (stages_of c.args.stages.now) c.args.env.now xs
    items c.loop-position.position c.item_at.result (Err c.in_err-fed.field-0.0) c.loop-position.sink
    c.feed.new.sink c.item_at.ensures (c.loop-position.invariant.1 xs took) c.in_err-fed.ensures.fed in
    rw p.1 (IsFed_whole g.S.LongSink.has_taken c.args.first_stage (stages_of c.args.stages.now) c.args.env.now xs items
    (c.loop-position.position + 1) end.Done (Err c.in_err-fed.field-0.0) c.feed.new.sink (λ e. cc) fed_here)

pub feed_inner-returns-clause-fed : goal.feed_inner-returns-clause-fed
feed_inner-returns-clause-fed g t c = λ xs took.
    let items = at_place c.args.values.now.origin (run_or_listed c.args.values.now.run c.args.values.now.listed.now) in
    let past : length items ≤ c.loop-position.position =
    omega (arith, c.loop-position-test.false, c.count-position-end.ensures) in
    IsFed_all g.S.LongSink.has_taken c.args.first_stage (stages_of c.args.stages.now) c.args.env.now xs items
    c.loop-position.position (Ok fed.More) c.loop-position.sink past (c.loop-position.invariant.1 xs took)
