use Rattle.std.proofs.Common.{◌-◌, ◌<◌, List, Ok, length, take, drop, sym, subst, rules}
use Rattle.lambda_values.specs.declared.item.Item.{Item}
use Rattle.trace.specs.declared.item.End.TheVariants as end
use Rattle.trace.specs.declared.feeding.Fed.{Fed}
use Rattle.trace.specs.Sinks.{IsFed}
use Rattle.trace.specs.Trace.{trace}
use Rattle.slice_ops.specs.Rests.{rest_of}
use Rattle.batch_eval.specs.Batches.{laid_items}
use Rattle.batch_eval.proofs.LaneLemmas.{length_laid}
use Rattle.batch_eval.specs.Pipelines.{piped}
use Rattle.job_plan.specs.declared.link_sink.Passage.{Passage}
use Rattle.job_plan.specs.declared.link_sink.Passage.TheVariants as passage
use Rattle.job_plan.specs.declared.link_sink.Passing.{Passing}
use Rattle.job_plan.specs.Passages.{HasPassed, HasPassedTo, junction_in}
use Rattle.job_plan.proofs.PassageLemmas.{answered, passed_on}
use Rattle.job_plan.proofs.link_sink.pass.Goals as goal

pub returns-clause-fed : goal.returns-clause-fed
returns-clause-fed g c = λ begun xs took.
    let p = c.args.passing.now in
    let h = g.S.LongSink.has_taken in
    let f = g.S.LongSink.flow in
    let j = junction_in c.args.junction in
    let items = laid_items c.args.lanes.start c.args.lanes.places.now c.args.lanes.values.now in
    let cut = c.cut_of-cut.result in
    let win = take (cut.to - cut.from) (drop cut.from items) in
    let here : HasPassedTo h f begun j (rest_of p.rest) passage.Open p.inner.value xs =
    subst (λ (q : Passage). HasPassedTo h f begun j (rest_of p.rest) q p.inner.value xs) c.in-Open.is took in
    let on = passed_on h f begun j xs items win cut.end (rest_of p.rest) (rest_of cut.rest) here.0
    c.hand_on.new.sink here.2 c.cut_of-cut.ensures.passes
    c.in-Ok.fed c.after-passage.result (subst
    (λ (ys : List Item). IsFed h here.0 (piped c.args.junction.next (trace ys end.Done)) (Ok c.in-Ok.fed)
    c.hand_on.new.sink) c.part-part.ensures.items
    (c.in-Ok.ensures.fed here.0 (subst (λ (s : g.row.S.Denot). h s here.0) (sym c.deref_mut-inner.ensures.value)
    here.1))) c.in-Ok.ensures.flow c.after-passage.ensures in
    let t : Passing g.row.S.Denot = record
    { rest = cut.rest; passage = c.after-passage.result; inner = record p.inner { value = c.hand_on.new.sink } } in
    let has = HasPassed h f begun j in
    subst (λ (r : Fed). IsFed has xs (trace items end.Done) (Ok r) t) (sym c.answer.ensures)
    (answered has t xs items c.after-passage.result on)

pub returns-clause-all : goal.returns-clause-all
returns-clause-all g c = λ begun xs took.
    let p = c.args.passing.now in
    let h = g.S.LongSink.has_taken in
    let f = g.S.LongSink.flow in
    let j = junction_in c.args.junction in
    let items = laid_items c.args.lanes.start c.args.lanes.places.now c.args.lanes.values.now in
    let cut = c.cut_of-cut.result in
    let win = take (cut.to - cut.from) (drop cut.from items) in
    let here : HasPassedTo h f begun j (rest_of p.rest) passage.Open p.inner.value xs =
    subst (λ (q : Passage). HasPassedTo h f begun j (rest_of p.rest) q p.inner.value xs) c.in-Open.is took in
    passed_on h f begun j xs items win cut.end (rest_of p.rest) (rest_of cut.rest) here.0 c.hand_on.new.sink
    here.2 c.cut_of-cut.ensures.passes
    c.in-Ok.fed c.after-passage.result (subst
    (λ (ys : List Item). IsFed h here.0 (piped c.args.junction.next (trace ys end.Done)) (Ok c.in-Ok.fed)
    c.hand_on.new.sink) c.part-part.ensures.items
    (c.in-Ok.ensures.fed here.0 (subst (λ (s : g.row.S.Denot). h s here.0) (sym c.deref_mut-inner.ensures.value)
    here.1))) c.in-Ok.ensures.flow c.after-passage.ensures

pub returns-in-Err-clause-fed : goal.returns-in-Err-clause-fed
returns-in-Err-clause-fed g c = λ begun xs took.
    let l = c.args.lanes in
    let size = length_laid l.start l.places.now l.values.now in
    let filled : 0 < length (laid_items l.start l.places.now l.values.now) = search (rules, size) in
    (0, filled, tt)
