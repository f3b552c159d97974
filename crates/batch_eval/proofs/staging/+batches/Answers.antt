use Rattle.std.proofs.Common.{◌≡◌, ◌+◌, ◌≤◌, ◌++◌, ℤ, List, [], take, length, Ok, Err, Some, ap, sym, subst, ◌∙◌, rules}
use Rattle.std.proofs.Common.{add-one, arith, refl}
use Rattle.std.proofs.lemmas.List.{append-nil, take_all}
use Rattle.std.proofs.lemmas.Result.{err_from_is_err_and}
use Rattle.lambda_values.specs.declared.item.Item.{Item}
use Rattle.trace.specs.declared.item.End.TheVariants as end
use Rattle.trace.specs.declared.item.End.{End}
use Rattle.trace.specs.declared.item.Fault.{Fault}
use Rattle.trace.specs.Trace.{Trace, trace, each}
use Rattle.trace.specs.Sinks.{IsFed}
use Rattle.trace.specs.Stages.{at_place, filter, flat_map, flattened, of_item}
use Rattle.lambda_values.specs.Streams.{inner_of, run_or_listed}
use Rattle.lambda_values.specs.Term.{truth_of}
use Rattle.batch_eval.specs.Batches.{item_at, laid_items, lanes}
use Rattle.batch_eval.specs.Pipelines.{AreImages, piped}
use Rattle.batch_eval.specs.Pours.{Holds, Poured, inner_items}
use Rattle.batch_eval.proofs.SetItemLemmas.{none_left}
use Rattle.batch_eval.proofs.WaitingItemLemmas.{holds_more, holds_none, holds_ended, holds_added, holds_further}
use Rattle.batch_eval.proofs.WaitingItemLemmas.{flushed}
use Rattle.batch_eval.proofs.WaitingItemLemmas.{poured_rest, poured_stopped, inner_stopped, each_next, each_fault}
use Rattle.batch_eval.proofs.WaitingItemLemmas.{each_whole}
use Rattle.batch_eval.proofs.Items.{length_lanes}
use Rattle.batch_eval.proofs.RowLemmas.{operands_laid}
use Rattle.batch_eval.proofs.RunLemmas.{none_waits, taken_at_once, unpiped, values_at_place}
use Rattle.batch_eval.proofs.staging.+batches.Goals as goal

pub feed_batch-returns-in-Some-split_first_mut-clause-fed : goal.feed_batch-returns-in-Some-split_first_mut-clause-fed
feed_batch-returns-in-Some-split_first_mut-clause-fed g t c = λ xs took.
    let split = c.in-Some-split_first.ensures in
    let here = rw (split.first, split.env, add-one) at (c.feed_inner.ensures.fed xs took) in
    rw (sym c.in-Some.ensures.walk) (rw (split.stages, c.in-FlatMap.is) here)

pub feed_batch-returns-in-Filter-clause-fed : goal.feed_batch-returns-in-Filter-clause-fed
feed_batch-returns-in-Filter-clause-fed g t c = λ xs took.
    let h = g.S.LongSink.has_taken in
    let split = c.in-Some-split_first.ensures in
    let b = c.batch.inside in
    let l = c.front-lanes.result in
    let f : Item → Trace = of_item c.in-Some.line.first (filter (truth_of c.in-Filter.test)) c.in-Some.line.env.now in
    let items : laid_items l.start l.places.now l.values.now
    ≡ lanes b.live (item_at b.start b.origins.items b.values.items) =
    c.front-lanes.ensures.items ∙ rw (c.deref.ensures.value, c.deref-in-Filter.ensures.value) refl in
    let later = c.in-Some-split_first.later in
    let last : later.stages.now ≡ [] = none_left later.stages.now (sym c.is_empty.ensures ∙ c.if-is_empty.true) in
    let none : AreImages later (laid_items l.start l.places.now l.values.now)
    (laid_items l.start l.places.now l.values.now) = λ flags e. rw last refl in
    let given = rw last at (c.give_passing.ensures.fed later none xs took) in
    let fed = subst (λ (ys : List Item). IsFed h xs (each f ys b.end) c.give_passing.result c.give_passing.new.sink)
    items given in
    let here = subst (λ (u : Trace). IsFed h xs (each f u.items u.ending) c.give_passing.result c.give_passing.new.sink)
    c.batch.view_is fed in
    rw (sym c.in-Some.ensures.walk) (rw (split.stages, c.in-Filter.is, last) here)

pub finish-returns-clause-fed : goal.finish-returns-clause-fed
finish-returns-clause-fed g t c = λ xs whole held.
    let here = rw c.end_with.ensures at c.feed_batch.ensures.fed in
    holds_ended g.S.LongSink.has_taken c.args.line xs whole c.args.pending.now.items c.args.end c.feed_batch.result
    c.args.sink.now c.feed_batch.new.sink held here

pub make_space-returns-clause-poured : goal.make_space-returns-clause-poured
make_space-returns-clause-poured g t c = λ xs whole held.
    let h = g.S.LongSink.has_taken in
    let line = c.args.line in
    let here = subst (λ (b : Trace). (vs : List Item) → h c.args.sink.now vs
    → IsFed h vs (piped line b) (Ok c.in_ok-fed.fed) c.feed_batch.new.sink) c.end_with.ensures
    c.in_ok-fed.ensures.fed in
    let fed = c.asked.ensures.fed xs (piped line (trace whole end.Done))
    (holds_ended h line xs whole c.args.pending.now.items end.Done (Ok c.in_ok-fed.fed) c.args.sink.now
    c.feed_batch.new.sink held here) in
    rw c.clear.ensures (flushed h line xs whole (Ok c.asked.result) c.asked.new.sink fed)

pub make_space-returns-in_err-fed-clause-poured : goal.make_space-returns-in_err-fed-clause-poured
make_space-returns-in_err-fed-clause-poured g t c = λ xs whole held.
    let p = err_from_is_err_and c.from_residual.result c.from_residual.ensures.1 in
    let here = rw c.end_with.ensures at c.in_err-fed.ensures.fed in
    rw p.1 (holds_ended g.S.LongSink.has_taken c.args.line xs whole c.args.pending.now.items end.Done
    (Err c.in_err-fed.field-0.0) c.args.sink.now c.feed_batch.new.sink held here)

pub pour_lanes-loop-position-init : goal.pour_lanes-loop-position-init
pour_lanes-loop-position-init g t c =
    record {
      within = omega arith;
      room = c.requires.room;
      wants = c.requires.wants;
      held = λ xs whole held. subst (λ (ys : List Item). Holds g.S.LongSink.has_taken c.args.line xs ys
          c.args.pending.now.items c.args.sink.now) (sym (append-nil whole)) held;
    }

pub pour_lanes-loop-position-preserved : goal.pour_lanes-loop-position-preserved
pour_lanes-loop-position-preserved g t c =
    let h = g.S.LongSink.has_taken in
    let line = c.args.line in
    let zs = inner_items c.args.values.now in
    let p = c.loop-position.position in
    let poured = rw c.in-More.is at c.in_ok-stopped.ensures.poured in
    record {
      within = search rules;
      room = search rules;
      wants = search rules;
      held = λ xs whole held. holds_added h line xs whole zs p (p + c.min-taken.result) c.add.ensures.items.0
          c.make_space.new.pending.items c.add.new.self.items c.make_space.new.sink
          (poured xs (whole ++ take p zs) (c.loop-position.invariant.held xs whole held)) c.add.ensures.items.1
          c.add.ensures.items.2;
    }

pub pour_lanes-returns-in_default-clause-poured : goal.pour_lanes-returns-in_default-clause-poured
pour_lanes-returns-in_default-clause-poured g t c = λ xs whole held.
    let zs = inner_items c.args.values.now in
    let p = c.loop-position.position in
    poured_rest g.S.LongSink.has_taken c.args.line xs whole zs p (Ok c.in_ok-stopped.stopped)
    c.make_space.new.pending.items c.make_space.new.sink (λ e. c.in_default.not-More cc)
    (c.in_ok-stopped.ensures.poured xs (whole ++ take p zs) (c.loop-position.invariant.held xs whole held))

pub pour_lanes-returns-in_err-stopped-clause-poured : goal.pour_lanes-returns-in_err-stopped-clause-poured
pour_lanes-returns-in_err-stopped-clause-poured g t c = λ xs whole held.
    let e = err_from_is_err_and c.from_residual.result c.from_residual.ensures.1 in
    let zs = inner_items c.args.values.now in
    let p = c.loop-position.position in
    rw e.1 (poured_rest g.S.LongSink.has_taken c.args.line xs whole zs p (Err c.in_err-stopped.field-0.0)
    c.make_space.new.pending.items c.make_space.new.sink (λ e. cc)
    (c.in_err-stopped.ensures.poured xs (whole ++ take p zs) (c.loop-position.invariant.held xs whole held)))

pub pour_lanes-returns-clause-poured : goal.pour_lanes-returns-clause-poured
pour_lanes-returns-clause-poured g t c = λ xs whole held.
    let zs = inner_items c.args.values.now in
    let past : length zs ≤ c.loop-position.position =
    omega (arith, c.loop-position-test.false, c.count-count.ensures) in
    subst (λ (ys : List Item). Holds g.S.LongSink.has_taken c.args.line xs (whole ++ ys) c.loop-position.pending.items
    c.loop-position.sink) (take_all c.loop-position.position zs past) (c.loop-position.invariant.held xs whole held)

pub feed_inner-add_few-position-requires-clause-lanes : goal.feed_inner-add_few-position-requires-clause-lanes
feed_inner-add_few-position-requires-clause-lanes g t c =
    let l = c.lanes.result in
    let size = length_lanes (length l.values.now) (item_at l.start l.places.now l.values.now) in
    let same : length (laid_items l.start l.places.now l.values.now) ≡ length c.args.batch.now.items =
    ap length c.lanes.ensures in
    omega (arith, size, same, c.eval_columns-lanes.ensures.items)

pub feed_inner-add_few-position-requires-in-loop-position-clause-lanes :
    goal.feed_inner-add_few-position-requires-in-loop-position-clause-lanes
feed_inner-add_few-position-requires-in-loop-position-clause-lanes g t c =
    let l = c.lanes.result in
    let size = length_lanes (length l.values.now) (item_at l.start l.places.now l.values.now) in
    let same : length (laid_items l.start l.places.now l.values.now) ≡ length c.args.batch.now.items =
    ap length c.lanes.ensures in
    omega (arith, size, same, c.eval_columns-lanes.ensures.items)

pub feed_inner-loop-position-init : goal.feed_inner-loop-position-init
feed_inner-loop-position-init g t c =
    let h = g.S.LongSink.has_taken in
    let line = c.args.stage.later in
    let env = line.env.now in
    let os = c.args.batch.now.items in
    let s = c.args.sink.now in
    let none : List Item = [] in
    let inner = inner_of c.args.stage.inner.now in
    let columns = c.eval_columns-lanes in
    let l = c.lanes.result in
    let operands = operands_laid inner env l.start l.places.now l.values.now columns.result columns.new.registers os
    c.lanes.ensures columns.ensures.items columns.ensures.operands in
    let added = c.add_few-position.ensures.added c.args.stage.number env operands in
    let front : Trace = each (of_item c.args.stage.number (flat_map inner) env) (take c.add_few-position.result os)
    end.Done in
    let next : front ≡ trace (none ++ added.0) end.Done = added.2 refl in
    record {
      room = search rules;
      wants = c.requires.wants;
      done = ap (λ (u : Trace). u.ending) next;
      held = λ xs took. holds_further h line xs (trace none end.Done) front added.0 c.clear.new.self.items
          c.add_few-position.new.self.items s next added.1
          (subst (λ (b : Trace). Holds h line xs none b.items s) (sym c.clear.ensures) (holds_none h line xs s took));
    }

pub feed_inner-loop-position-preserved : goal.feed_inner-loop-position-preserved
feed_inner-loop-position-preserved g t c =
    let h = g.S.LongSink.has_taken in
    let line = c.args.stage.later in
    let env = line.env.now in
    let os = c.args.batch.now.items in
    let p = c.loop-position.position in
    let y = c.item_at-item.result in
    let f : Item → Trace = of_item c.args.stage.number (flat_map (inner_of c.args.stage.inner.now)) env in
    let zs = at_place y.origin (run_or_listed c.in-Ok.run' c.as_slice.result.now) in
    let front : Trace = each f (take p os) end.Done in
    let gives : f y ≡ trace zs end.Done =
    ap (flattened c.args.stage.number y)
    (c.in-Ok.ensures.ok ∙ ap (λ (vs : List ℤ). Ok (run_or_listed c.in-Ok.run' vs))
    (sym c.as_slice.ensures.value)) in
    let front' : Trace = each f (take (p + 1) os) end.Done in
    let next : front' ≡ trace (front.items ++ zs) end.Done =
    each_next f os p y zs c.item_at-item.ensures c.loop-position.invariant.done gives in
    let poured = rw c.in-More.is at c.in_ok-stopped-in-Ok.ensures.poured in
    let inner = inner_of c.args.stage.inner.now in
    let columns = c.eval_columns-lanes in
    let l = c.lanes.result in
    let operands = operands_laid inner env l.start l.places.now l.values.now columns.result columns.new.registers os
    c.lanes.ensures columns.ensures.items columns.ensures.operands in
    let further = c.add_few-position-in-loop-position in
    let added = further.ensures.added c.args.stage.number env operands in
    let last : Trace = each f (take further.result os) end.Done in
    let more : last ≡ trace (front'.items ++ added.0) end.Done = added.2 (ap (λ (u : Trace). u.ending) next) in
    record {
      room = search rules;
      wants = search rules;
      done = ap (λ (u : Trace). u.ending) more;
      held = λ xs took. holds_further h line xs front' last added.0 c.pour.new.pending.items further.new.self.items
          c.pour.new.sink more added.1 (subst
          (λ (u : Trace). Holds h line xs u.items c.pour.new.pending.items c.pour.new.sink) (sym next)
          (poured xs front.items (c.loop-position.invariant.held xs took)));
    }

pub feed_inner-returns-in_default-clause-fed : goal.feed_inner-returns-in_default-clause-fed
feed_inner-returns-in_default-clause-fed g t c = λ xs took.
    let h = g.S.LongSink.has_taken in
    let line = c.args.stage.later in
    let env = line.env.now in
    let os = c.args.batch.now.items in
    let e = c.args.batch.now.ending in
    let p = c.loop-position.position in
    let y = c.item_at-item.result in
    let f : Item → Trace = of_item c.args.stage.number (flat_map (inner_of c.args.stage.inner.now)) env in
    let zs = at_place y.origin (run_or_listed c.in-Ok.run' c.as_slice.result.now) in
    let front : Trace = each f (take p os) end.Done in
    let gives : f y ≡ trace zs end.Done =
    ap (flattened c.args.stage.number y)
    (c.in-Ok.ensures.ok ∙ ap (λ (vs : List ℤ). Ok (run_or_listed c.in-Ok.run' vs))
    (sym c.as_slice.ensures.value)) in
    inner_stopped h line xs f os p y zs e (Ok c.in_ok-stopped-in-Ok.stopped) c.pour.new.pending.items c.pour.new.sink
    c.item_at-item.ensures c.loop-position.invariant.done gives (λ e. c.in_default.not-More cc)
    (c.in_ok-stopped-in-Ok.ensures.poured xs front.items (c.loop-position.invariant.held xs took))

pub feed_inner-returns-in_err-stopped-in-Ok-clause-fed : goal.feed_inner-returns-in_err-stopped-in-Ok-clause-fed
feed_inner-returns-in_err-stopped-in-Ok-clause-fed g t c = λ xs took.
    let q = err_from_is_err_and c.from_residual.result c.from_residual.ensures.1 in
    let h = g.S.LongSink.has_taken in
    let line = c.args.stage.later in
    let env = line.env.now in
    let os = c.args.batch.now.items in
    let e = c.args.batch.now.ending in
    let p = c.loop-position.position in
    let y = c.item_at-item.result in
    let f : Item → Trace = of_item c.args.stage.number (flat_map (inner_of c.args.stage.inner.now)) env in
    let zs = at_place y.origin (run_or_listed c.in-Ok.run' c.as_slice.result.now) in
    let front : Trace = each f (take p os) end.Done in
    let gives : f y ≡ trace zs end.Done =
    ap (flattened c.args.stage.number y)
    (c.in-Ok.ensures.ok ∙ ap (λ (vs : List ℤ). Ok (run_or_listed c.in-Ok.run' vs))
    (sym c.as_slice.ensures.value)) in
    rw q.1 (inner_stopped h line xs f os p y zs e (Err c.in_err-stopped-in-Ok.field-0.0) c.pour.new.pending.items
    c.pour.new.sink c.item_at-item.ensures c.loop-position.invariant.done gives (λ e. cc)
    (c.in_err-stopped-in-Ok.ensures.poured xs front.items (c.loop-position.invariant.held xs took)))

pub feed_inner-returns-in-Err-clause-fed : goal.feed_inner-returns-in-Err-clause-fed
feed_inner-returns-in-Err-clause-fed g t c = λ xs took.
    let h = g.S.LongSink.has_taken in
    let line = c.args.stage.later in
    let env = line.env.now in
    let os = c.args.batch.now.items in
    let e = c.args.batch.now.ending in
    let p = c.loop-position.position in
    let y = c.item_at-item.result in
    let f : Item → Trace = of_item c.args.stage.number (flat_map (inner_of c.args.stage.inner.now)) env in
    let front : Trace = each f (take p os) end.Done in
    let fault : Fault = record { kind = c.in-Err.kind; stage = c.args.stage.number; origin = Some y.origin } in
    let gives : f y ≡ trace [] (end.Fault fault) = ap (flattened c.args.stage.number y) c.in-Err.ensures.fault in
    let whole : each f os e ≡ trace front.items (end.Fault fault) =
    each_fault f os p y e fault c.item_at-item.ensures c.loop-position.invariant.done gives in
    subst (λ (u : Trace). IsFed h xs (piped line u) c.finish.result c.finish.new.sink) (sym whole)
    (c.finish.ensures.fed xs front.items (c.loop-position.invariant.held xs took))

pub feed_inner-returns-clause-fed : goal.feed_inner-returns-clause-fed
feed_inner-returns-clause-fed g t c = λ xs took.
    let h = g.S.LongSink.has_taken in
    let line = c.args.stage.later in
    let env = line.env.now in
    let os = c.args.batch.now.items in
    let e = c.args.batch.now.ending in
    let p = c.loop-position.position in
    let f : Item → Trace = of_item c.args.stage.number (flat_map (inner_of c.args.stage.inner.now)) env in
    let front : Trace = each f (take p os) end.Done in
    let past : length os ≤ p = omega (arith, c.loop-position-test.false, c.count-count.ensures) in
    let whole : each f os e ≡ trace front.items e = each_whole f os p e past c.loop-position.invariant.done in
    let here = subst (λ (d : End). IsFed h xs (piped line (trace front.items d)) c.finish-2.result c.finish-2.new.sink)
    c.end-end.ensures (c.finish-2.ensures.fed xs front.items (c.loop-position.invariant.held xs took)) in
    subst (λ (u : Trace). IsFed h xs (piped line u) c.finish-2.result c.finish-2.new.sink) (sym whole) here

pub pour-returns-in_err-stopped-clause-poured : goal.pour-returns-in_err-stopped-clause-poured
pour-returns-in_err-stopped-clause-poured g t c = λ xs whole held.
    let e = err_from_is_err_and c.from_residual.result c.from_residual.ensures.1 in
    let zs = inner_items c.args.values.now in
    rw e.1 (poured_stopped g.S.LongSink.has_taken c.args.line xs whole zs (Err c.in_err-stopped.field-0.0)
    c.make_space.new.pending.items c.make_space.new.sink (λ e. cc) (c.in_err-stopped.ensures.poured xs whole held))

pub pour-returns-in_default-2-clause-poured : goal.pour-returns-in_default-2-clause-poured
pour-returns-in_default-2-clause-poured g t c = λ xs whole held.
    let zs = inner_items c.args.values.now in
    poured_stopped g.S.LongSink.has_taken c.args.line xs whole zs (Ok c.in_ok-stopped.stopped)
    c.make_space.new.pending.items c.make_space.new.sink (λ e. c.in_default-2.not-More cc)
    (c.in_ok-stopped.ensures.poured xs whole held)

pub pour-returns-then-accept_run-clause-poured : goal.pour-returns-then-accept_run-clause-poured
pour-returns-then-accept_run-clause-poured g t c = λ xs whole held.
    let h = g.S.LongSink.has_taken in
    let line = c.args.line in
    let values = c.args.values.now in
    let zs = inner_items values in
    let last = none_left line.stages.now (sym c.is_empty.ensures ∙ c.if-is_empty.true) in
    let pending = c.make_space.new.pending.items in
    let poured = rw c.in-More.is at c.in_ok-stopped.ensures.poured in
    let few : length pending ≤ 0 = c.in_ok-stopped.ensures.space (ap Ok c.in-More.is) in
    let same = values_at_place values.origin (run_or_listed values.run values.listed.now)
    ∙ ap (λ r. run_or_listed r values.listed.now) c.in-Some.is in
    let all = taken_at_once h line xs whole zs pending c.make_space.new.sink c.accept_run.new.self last few
    (poured xs whole held) (λ took. c.accept_run.ensures.taken c.if-accept_run.true (xs ++ whole) zs same took) in
    let fed = c.asked.ensures.fed xs (piped line (trace (whole ++ zs) end.Done)) all in
    subst (λ (ys : List Item). Poured h line xs (whole ++ zs) (Ok c.asked.result) ys c.asked.new.sink)
    (sym (none_waits pending few)) (flushed h line xs (whole ++ zs) (Ok c.asked.result) c.asked.new.sink fed)

pub pour-returns-then-takes_runs-clause-poured : goal.pour-returns-then-takes_runs-clause-poured
pour-returns-then-takes_runs-clause-poured g t c = λ xs whole held.
    let h = g.S.LongSink.has_taken in
    let line = c.args.line in
    let zs = inner_items c.args.values.now in
    let last = none_left line.stages.now (sym c.is_empty.ensures ∙ c.if-is_empty.true) in
    let pending = c.make_space.new.pending.items in
    let poured = rw c.in-More.is at c.in_ok-stopped.ensures.poured in
    let few : length pending ≤ 0 = c.in_ok-stopped.ensures.space (ap Ok c.in-More.is) in
    let r = c.accept_each.result in
    let s = c.accept_run.new.self in
    let same = none_waits pending few in
    let before : Holds h line xs whole pending s =
    rw (c.accept_run.ensures.other c.if-accept_run.false) (poured xs whole held) in
    let waits : Holds h line xs (whole ++ zs) zs s =
    subst (λ (ys : List Item). Holds h line xs (whole ++ zs) (ys ++ zs) s)
    same (holds_more h line xs whole pending zs s before) in
    let here : (vs : List Item) → h s vs → IsFed h vs (piped line (trace zs end.Done)) r c.accept_each.new.sink =
    λ vs took. subst (λ (u : Trace). IsFed h vs u r c.accept_each.new.sink)
    (sym (unpiped line (trace zs end.Done) last)) (c.accept_each.ensures.fed vs took) in
    let fed = holds_ended h line xs (whole ++ zs) zs end.Done r s c.accept_each.new.sink waits here in
    subst (λ (ys : List Item). Poured h line xs (whole ++ zs) r ys c.accept_each.new.sink)
    (sym same) (flushed h line xs (whole ++ zs) r c.accept_each.new.sink fed)
