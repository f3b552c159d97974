use Rattle.std.proofs.Common.{rules}
use Rattle.trace.specs.declared.item.End.TheVariants as end
use Rattle.trace.specs.Stages.{at_place}
use Rattle.trace.specs.Trace.{trace}
use Rattle.batch_eval.specs.Batches.{laid_items}
use Rattle.job_routes.specs.Legs.{end_in}
use Rattle.job_plan.proofs.KeptLemmas.{placed, sort_goes_on, unplaced}
use Rattle.job_plan.proofs.PartLemmas.{on_ok_map}
use Rattle.job_plan.proofs.sorted_end.SortedPartEndPart.push_all.Goals as goal

pub returns-then-keeps_places-clause-ok : goal.returns-then-keeps_places-clause-ok
returns-then-keeps_places-clause-ok c =
    let l = c.args.lanes in
    let last = c.args.last in
    let u = trace (laid_items l.start l.places.now l.values.now) end.Done in
    on_ok_map c.push_all.result
    (λ goes. sort_goes_on c.args.self.now c.push_all.new.self u u goes (end_in last.end.now)
    (placed (end_in last.end.now) (search rules) u) last.number last.env.now)
    c.push_all.ensures.ok

pub returns-clause-ok : goal.returns-clause-ok
returns-clause-ok c =
    let l = c.args.lanes in
    let last = c.args.last in
    let u = trace (laid_items l.start l.places.now l.values.now) end.Done in
    on_ok_map c.push_all-2.result
    (λ goes. sort_goes_on c.args.self.now c.push_all-2.new.self u (trace (at_place 0 l.values.now) end.Done) goes
    (end_in last.end.now)
    (unplaced (end_in last.end.now) (search rules) l.start l.places.now l.values.now) last.number last.env.now)
    c.push_all-2.ensures.ok
