use Rattle.std.proofs.Common.{◌≡◌, ◌<◌, arith, length, refl, rules, Err}
use Rattle.batch_eval.specs.Batches.{laid_items}
use Rattle.batch_eval.proofs.LaneLemmas.{length_laid}
use Rattle.trace.specs.declared.item.End.TheVariants as end
use Rattle.trace.specs.Trace.{trace}
use Rattle.job_plan.specs.Parts.{HasTaken}
use Rattle.job_routes.specs.Legs.{end_in}
use Rattle.job_plan.proofs.WalkLemmas.{enough_at_last, refused_at_first, taken_on}
use Rattle.job_plan.proofs.part_sink.accept_all.Goals as goal

pub returns-then-is_settled-clause-fed : goal.returns-then-is_settled-clause-fed
returns-then-is_settled-clause-fed c = λ begun xs took.
    let items = laid_items c.args.lanes.start c.args.lanes.places.now c.args.lanes.values.now in
    let e = end_in c.args.last.end.now in
    enough_at_last (HasTaken e c.args.last.number c.args.last.env.now begun c.push_all.new.self) xs items
    (taken_on e c.args.last.number c.args.last.env.now begun c.args.part.now c.push_all.new.self xs items took
    c.in_ok-push_all.ensures.ok c.push_all.ensures.kind)

pub returns-clause-fed : goal.returns-clause-fed
returns-clause-fed c = λ begun xs took. (
  taken_on (end_in c.args.last.end.now) c.args.last.number c.args.last.env.now begun c.args.part.now c.push_all.new.self
      xs (laid_items c.args.lanes.start c.args.lanes.places.now c.args.lanes.values.now) took
      c.in_ok-push_all.ensures.ok c.push_all.ensures.kind,
  refl,
)

pub returns-in_err-push_all-clause-fed : goal.returns-in_err-push_all-clause-fed
returns-in_err-push_all-clause-fed c = λ begun xs took.
    let l = c.args.lanes in
    let e = end_in c.args.last.end.now in
    let t = trace (laid_items l.start l.places.now l.values.now) end.Done in
    let is : c.from_residual.result ≡ Err c.in_err-push_all.field-0.0 = search rules in
    let same : c.push_all.new.self ≡ c.args.part.now = c.in_err-push_all.ensures.err in
    let some : 0 < length t.items = omega
    (arith, c.in_err-push_all.ensures.refused, length_laid l.start l.places.now l.values.now) in
    refused_at_first (HasTaken e c.args.last.number c.args.last.env.now begun) xs t c.push_all.new.self _
    c.from_residual.result is some (rw same took)
