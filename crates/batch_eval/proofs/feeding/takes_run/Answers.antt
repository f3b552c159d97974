use Rattle.std.proofs.Common.{◌≡◌, ℤ, Ok, sym, ap, subst, ◌∙◌, refl, rules, w64, to_z, of_z}
use Rattle.trace.specs.Cover.{counted, placed}
use Rattle.trace.specs.Sinks.{IsFed}
use Rattle.trace.specs.Trace.{Trace, trace}
use Rattle.trace.specs.declared.feeding.Fed.TheVariants as fed
use Rattle.trace.specs.declared.item.End.TheVariants as end
use Rattle.batch_eval.specs.BatchItems.{batch_items}
use Rattle.batch_eval.specs.declared.batch_items.BatchItems.{BatchItems}
use Rattle.batch_eval.specs.Pipelines.{piped}
use Rattle.batch_eval.proofs.RunLemmas.{unpiped, values_placed}
use Rattle.batch_eval.proofs.SetItemLemmas.{none_left}
use Rattle.batch_eval.proofs.feeding.takes_run.Goals as goal

pub returns-in-Range-clause-fed : goal.returns-in-Range-clause-fed
returns-in-Range-clause-fed g c = λ yes xs took.
    let h = g.S.LongSink.has_taken in
    let line = c.args.line in
    let r = c.in-Range.range in
    let zs = placed r.origin (counted r.first r.count) in
    let none = none_left line.stages.now (sym c.is_empty.ensures ∙ c.if-is_empty.true) in
    let whole : piped line (trace (batch_items c.args.items.now) end.Done) ≡ trace zs end.Done =
    unpiped line (trace (batch_items c.args.items.now) end.Done) none
    ∙ ap (λ (i : BatchItems). trace (batch_items i) end.Done) c.in-Range.is in
    let fits : to_z w64 (of_z w64 r.first) ≡ r.first = search rules in
    let same = values_placed r.origin (counted r.first r.count) ∙ ap (λ (a : ℤ). counted a r.count) (sym fits) in
    let taken = c.accept_run.ensures.taken yes xs zs same took in
    subst (λ (t : Trace). IsFed h xs t (Ok fed.More) c.accept_run.new.self) (sym whole) (taken, refl)
