use Rattle.std.proofs.Common.{◌≤◌, ◌++◌, length, take, sym, subst, arith, rules}
use Rattle.std.proofs.lemmas.List.{append-nil, take_all}
use Rattle.std.proofs.lemmas.Result.{err_from_is_err_and}
use Rattle.trace.specs.declared.item.End.TheVariants as end
use Rattle.trace.specs.Trace.{trace}
use Rattle.batch_eval.proofs.BatchWalkLemmas.{IsFed_given, one_taken, IsFed_enough, IsFed_refused}
use Rattle.batch_eval.proofs.sink.accept_each.Goals as goal

pub loop-position-init : goal.loop-position-init
loop-position-init g c = record {
  wants = c.requires.wants;
  taken = λ xs took. subst (g.S.LongSink.has_taken c.args.sink.now) (sym (append-nil xs)) took;
}

pub loop-position-preserved : goal.loop-position-preserved
loop-position-preserved g c = record {
  wants = search rules;
  taken = λ xs took. one_taken g.S.LongSink.has_taken xs (g.I.SourceItems.items c.args.source.now)
      c.loop-position.position c.item_at.result c.accept.new.self c.item_at.ensures
      (c.in_ok-accept.ensures.ok (xs ++ take c.loop-position.position (g.I.SourceItems.items c.args.source.now))
      (c.loop-position.invariant.taken xs took));
}

pub returns-in-Enough-clause-fed : goal.returns-in-Enough-clause-fed
returns-in-Enough-clause-fed g c = λ xs took. IsFed_enough g.S.LongSink.has_taken xs
    (trace (g.I.SourceItems.items c.args.source.now) end.Done) c.loop-position.position c.item_at.result
    c.accept.new.self c.item_at.ensures (c.in_ok-accept.ensures.ok
    (xs ++ take c.loop-position.position (g.I.SourceItems.items c.args.source.now))
    (c.loop-position.invariant.taken xs took))

pub returns-in_err-accept-clause-fed : goal.returns-in_err-accept-clause-fed
returns-in_err-accept-clause-fed g c = λ xs took.
    let p = err_from_is_err_and c.from_residual.result c.from_residual.ensures.1 in
    rw p.1 (IsFed_refused g.S.LongSink.has_taken xs (trace (g.I.SourceItems.items c.args.source.now) end.Done)
    c.loop-position.position c.item_at.result (c.in_err-accept.field-0.0) c.accept.new.self c.item_at.ensures
    (c.in_err-accept.ensures.err (xs ++ take c.loop-position.position (g.I.SourceItems.items c.args.source.now))
    (c.loop-position.invariant.taken xs took)))

pub returns-clause-fed : goal.returns-clause-fed
returns-clause-fed g c = λ xs took.
    let past : length (g.I.SourceItems.items c.args.source.now) ≤ c.loop-position.position =
    omega (arith, c.loop-position-test.false, c.count-position-end.ensures) in
    IsFed_given g.S.LongSink.has_taken xs (trace (g.I.SourceItems.items c.args.source.now) end.Done)
    c.loop-position.sink (rw (take_all c.loop-position.position (g.I.SourceItems.items c.args.source.now) past) at
    (c.loop-position.invariant.taken xs took))
