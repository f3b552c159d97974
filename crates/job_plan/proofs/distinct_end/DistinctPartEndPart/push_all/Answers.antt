use Rattle.batch_eval.specs.Batches.{laid_items}
use Rattle.trace.specs.declared.item.End.TheVariants as end
use Rattle.trace.specs.Trace.{trace}
use Rattle.job_routes.specs.Legs.{end_in}
use Rattle.job_plan.proofs.FirstsLemmas.{firsts_go_on}
use Rattle.job_plan.proofs.PartLemmas.{on_ok_map}
use Rattle.job_plan.proofs.distinct_end.DistinctPartEndPart.push_all.Goals as goal

pub returns-clause-ok : goal.returns-clause-ok
returns-clause-ok c =
    let l = c.args.lanes in
    let last = c.args._last in
    on_ok_map c.push_all.result
    (λ goes. firsts_go_on c.args.self.now c.push_all.new.self
    (trace (laid_items l.start l.places.now l.values.now) end.Done) goes (end_in last.end.now) last.number
    last.env.now)
    c.push_all.ensures.ok
