use Rattle.std.proofs.Common.{◌+◌, ◌≤◌, Some, Ok, true≢false, sym, ◌∙◌, arith}
use Rattle.trace.specs.declared.feeding.Fed.TheVariants as fed
use Rattle.job_plan.specs.Parts.{walk_in}
use Rattle.job_plan.proofs.LookLemmas.{some_taken}
use Rattle.job_plan.proofs.StretchLemmas.{in_order, none_walked, more_walked, ended_walked}
use Rattle.job_plan.proofs.stretches.feed_stretches.Goals as goal

pub loop-next-init : goal.loop-next-init
loop-next-init g c = record {
  after = omega arith;
  within = c.requires.ordered;
  wants = c.requires.wants;
  fed = none_walked g.S.LongSink.has_taken c.args.line (walk_in c.args.source.now).items c.args.window.from
      c.args.sink.now;
}

pub returns-in_default : goal.returns-in_default
returns-in_default g c =
    let h = g.S.LongSink.has_taken in
    let items = (walk_in c.args.source.now).items in
    let next = c.loop-next.position + 65536 in
    let test = c.loop-next-test.true in
    let left = c.saturating_sub.ensures in
    let before : next ≤ c.end_of-end.result = omega (arith, test, left) in
    let low = c.loop-next.invariant.after in
    let walked = ended_walked h c.args.line items c.args.window.from next c.args.window.to c.in_ok-ended.ended
    c.args.sink.now c.feed.new.sink
    (omega (arith, low)) (in_order c.end_of-end.result next c.args.window.to c.end_of-end.ensures before)
    c.in_default.not-More
    (more_walked h c.args.line items c.args.window.from c.loop-next.position (Some next) c.in_ok-ended.ended
    c.args.sink.now c.loop-next.sink c.feed.new.sink
    low (omega arith) c.loop-next.invariant.fed c.in_ok-ended.ensures.fed) in record {
      fed = λ stays. walked;
      flow = λ stays. c.in_ok-ended.ensures.flow;
      left = λ xs took. some_taken h xs _ (Ok c.in_ok-ended.ended) c.feed.new.sink (walked xs took);
      refused = tt;
    }

pub returns-then-leaves : goal.returns-then-leaves
returns-then-leaves g c =
    let h = g.S.LongSink.has_taken in
    let next = c.loop-next.position + 65536 in
    let low = c.loop-next.invariant.after in
    let took_more = rw c.in-More.is at c.in_ok-ended.ensures.fed in
    let has_left = sym c.leaves.ensures.answer ∙ c.if-leaves.true in record {
      fed = λ stays. absurd (true≢false (sym has_left ∙ stays));
      flow = λ stays. absurd (true≢false (sym has_left ∙ stays));
      left = λ xs took.
          let walked = more_walked h c.args.line (walk_in c.args.source.now).items c.args.window.from
          c.loop-next.position (Some next) fed.More c.args.sink.now c.loop-next.sink c.feed.new.sink
          low (omega arith) c.loop-next.invariant.fed took_more xs took in
          (_, c.leaves.ensures.taken _ walked.0);
      refused = tt;
    }

pub loop-next-preserved : goal.loop-next-preserved
loop-next-preserved g c =
    let next = c.loop-next.position + 65536 in
    let test = c.loop-next-test.true in
    let left = c.saturating_sub.ensures in
    let before : next ≤ c.end_of-end.result = omega (arith, test, left) in
    let low = c.loop-next.invariant.after in
    let took_more = rw c.in-More.is at c.in_ok-ended.ensures.fed in
    record {
      after = omega (arith, low);
      within = in_order c.end_of-end.result next c.args.window.to c.end_of-end.ensures before;
      wants = c.leaves.ensures.wants c.if-leaves.false;
      fed = λ xs took.
          let walked = more_walked g.S.LongSink.has_taken c.args.line (walk_in c.args.source.now).items
          c.args.window.from c.loop-next.position (Some next) fed.More c.args.sink.now c.loop-next.sink
          c.feed.new.sink
          low (omega arith) c.loop-next.invariant.fed took_more xs took in
          (c.leaves.ensures.taken _ walked.0, walked.1);
    }

pub returns : goal.returns
returns g c =
    let h = g.S.LongSink.has_taken in
    let walked = more_walked h c.args.line (walk_in c.args.source.now).items c.args.window.from c.loop-next.position
    c.args.window.to c.in_ok-fed.fed c.args.sink.now c.loop-next.sink c.feed-2.new.sink
    c.loop-next.invariant.after c.loop-next.invariant.within c.loop-next.invariant.fed c.in_ok-fed.ensures.fed in
    record {
      fed = λ stays. walked;
      flow = λ stays. c.in_ok-fed.ensures.flow;
      left = λ xs took. some_taken h xs _ (Ok c.in_ok-fed.fed) c.feed-2.new.sink (walked xs took);
      refused = tt;
    }
