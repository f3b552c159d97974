use Rattle.std.proofs.Common.{◌≡◌, rules}
use Rattle.batch_eval.proofs.LaneLemmas.{laid_values}
use Rattle.batch_eval.specs.Batches.{laid_items}
use Rattle.trace.specs.declared.item.End.TheVariants as end
use Rattle.job_routes.specs.Legs.{end_in}
use Rattle.job_plan.proofs.PartLemmas.{array_goes_on, on_ok_map}
use Rattle.job_plan.proofs.array_part.ArrayPartEndPart.push_all.Goals as goal

pub returns-clause-ok : goal.returns-clause-ok
returns-clause-ok c =
    let l = c.args.lanes in
    let xs = laid_items l.start l.places.now l.values.now in
    let done : c.args.self.now.ending ≡ end.Done = search rules in
    on_ok_map c.push_all.result (λ is t. array_goes_on (end_in c.args._last.end.now) c.args._last.number
    c.args._last.env.now t xs l.values.now c.args.self.now c.push_all.new.self
    (laid_values l.start l.places.now l.values.now) done is) c.push_all.ensures.ok
