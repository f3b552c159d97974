use Rattle.std.proofs.Common.{List, [], Ok, Err, subst}
use Rattle.trace.specs.Sinks.{IsFed}
use Rattle.trace.specs.Trace.{trace}
use Rattle.trace.specs.declared.item.End.TheVariants as end
use Rattle.lambda_values.specs.declared.item.Item.{Item}
use Rattle.std.proofs.lemmas.Result.{err_from_is_err_and}
use Rattle.lambda_values.specs.Earlier.{Numbers, nothing_named}
use Rattle.trace.specs.Stages.{AbstractStage}
use Rattle.batch_eval.proofs.BatchWalkLemmas.{IsFed_end, IsFed_cut}
use Rattle.batch_eval.proofs.staging.give.Goals as goal

pub returns-in-More-clause-fed : goal.returns-in-More-clause-fed
returns-in-More-clause-fed g c = λ xs took.
    let more = rw c.in-More.is at c.in_ok-stopped.ensures.fed in
    let batch = c.args.batch.now in
    let none : List AbstractStage = [] in
    let env : Numbers = nothing_named in
    rw (c.fed_by.ensures, c.end.ensures)
    (IsFed_end g.S.LongSink.has_taken 0 none env xs batch.items batch.ending c.accept_lanes.new.self
    (rw c.lanes.ensures at (more xs took)))

pub returns-in_default-clause-fed : goal.returns-in_default-clause-fed
returns-in_default-clause-fed g c = λ xs took.
    let batch = c.args.batch.now in
    let none : List AbstractStage = [] in
    let env : Numbers = nothing_named in
    IsFed_cut g.S.LongSink.has_taken 0 none env xs batch.items batch.ending (Ok c.in_ok-stopped.stopped)
    c.accept_lanes.new.self (λ e. c.in_default.not-More cc)
    (subst (λ (ys : List Item). IsFed g.S.LongSink.has_taken xs (trace ys end.Done) (Ok c.in_ok-stopped.stopped)
    c.accept_lanes.new.self) c.lanes.ensures (c.in_ok-stopped.ensures.fed xs took))

pub returns-in_err-stopped-clause-fed : goal.returns-in_err-stopped-clause-fed
returns-in_err-stopped-clause-fed g c = λ xs took.
    let p = err_from_is_err_and c.from_residual.result c.from_residual.ensures.1 in
    let batch = c.args.batch.now in
    let none : List AbstractStage = [] in
    let env : Numbers = nothing_named in
    rw p.1 (IsFed_cut g.S.LongSink.has_taken 0 none env xs batch.items batch.ending (Err c.in_err-stopped.field-0.0)
    c.accept_lanes.new.self (λ e. cc) (rw c.lanes.ensures at (c.in_err-stopped.ensures.fed xs took)))
