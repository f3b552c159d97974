use Rattle.std.proofs.Common.{◌≡◌, ◌≢◌, ◌<◌, ◌≤◌, [], ◌∷◌, subst, sym, rules, Ok}
use Rattle.lambda_expr.specs.Codes.{state_of, IsSettled}
use Rattle.lambda_expr.specs.Grammar.{Expression}
use Rattle.lambda_expr.specs.Stops.{StopsAt}
use Rattle.lambda_expr.proofs.ParseLemmas.{goes_on, stops_here, at_end, ends_early, ends_open, ends_whole}
use Rattle.lambda_expr.proofs.parse.parse.Goals as goal

pub returns-in-Err : goal.returns-in-Err
returns-in-Err c = record {
  ok = tt;
  stops = stops_here c.args.words.now c.loop-at.at c.at.result c.loop-at.stack c.turn.new.stack c.loop-at.steps.items
      c.turn.new.steps.items c.loop-at.held c.in-Err.stop
      (subst (λ n. c.loop-at.at < n) c.len-count.ensures c.loop-at-test.true) (sym c.at.ensures) c.loop-at.invariant
      c.in-Err.ensures;
}

pub loop-at-preserved : goal.loop-at-preserved
loop-at-preserved c = goes_on c.args.words.now c.loop-at.at c.at.result c.loop-at.stack c.turn.new.stack
    c.loop-at.steps.items c.turn.new.steps.items c.loop-at.held c.in-Ok.next
    (subst (λ n. c.loop-at.at < n) c.len-count.ensures c.loop-at-test.true) (sym c.at.ensures) c.loop-at.invariant
    c.in-Ok.ensures

pub returns-then-not-branch-clause-stops : goal.returns-then-not-branch-clause-stops
returns-then-not-branch-clause-stops c =
    let is = at_end c.args.words.now c.loop-at.at c.loop-at.stack c.loop-at.steps.items c.loop-at.held
    (subst (λ n. n ≤ c.loop-at.at) c.len-count.ensures c.loop-at-test.false) c.loop-at.invariant in
    let off = subst (λ b. IsSettled (state_of c.loop-at.stack c.loop-at.steps.items c.loop-at.held) c.loop-at.stack
    c.settle.new.steps.items (Ok b)) c.if-not-branch.true c.in_ok-settle.ensures in
    subst (StopsAt Expression c.args.words.now) (sym c.len-count.ensures)
    (ends_early c.args.words.now c.loop-at.stack c.loop-at.steps.items c.loop-at.held is off)

pub returns-in-None-clause-ok : goal.returns-in-None-clause-ok
returns-in-None-clause-ok c =
    let is = at_end c.args.words.now c.loop-at.at c.loop-at.stack c.loop-at.steps.items c.loop-at.held
    (subst (λ n. n ≤ c.loop-at.at) c.len-count.ensures c.loop-at-test.false) c.loop-at.invariant in
    let on = subst (λ b. IsSettled (state_of c.loop-at.stack c.loop-at.steps.items c.loop-at.held) c.loop-at.stack
    c.settle.new.steps.items (Ok b)) c.if-not-branch.false c.in_ok-settle.ensures in
    let none_left : c.join.new.stack ≡ [] = search rules in
    ends_whole c.args.words.now c.loop-at.stack c.loop-at.stack c.join.new.stack c.loop-at.steps.items
    c.settle.new.steps.items c.join.new.steps.items c.loop-at.held is on c.in_ok-join.ensures.joins
    c.in_ok-join.ensures.coded none_left

pub returns-clause-stops : goal.returns-clause-stops
returns-clause-stops c =
    let is = at_end c.args.words.now c.loop-at.at c.loop-at.stack c.loop-at.steps.items c.loop-at.held
    (subst (λ n. n ≤ c.loop-at.at) c.len-count.ensures c.loop-at-test.false) c.loop-at.invariant in
    let on = subst (λ b. IsSettled (state_of c.loop-at.stack c.loop-at.steps.items c.loop-at.held) c.loop-at.stack
    c.settle.new.steps.items (Ok b)) c.if-not-branch.false c.in_ok-settle.ensures in
    let front : c.join.new.stack ≡ c.in-Some.field-0 ∷ c.take.new.self = search rules in
    let some_left : c.join.new.stack ≢ [] = λ e. cc in
    subst (StopsAt Expression c.args.words.now) (sym c.len-count.ensures)
    (ends_open c.args.words.now c.loop-at.stack c.loop-at.stack c.join.new.stack c.loop-at.steps.items
    c.settle.new.steps.items c.join.new.steps.items c.loop-at.held is on c.in_ok-join.ensures.joins some_left)
