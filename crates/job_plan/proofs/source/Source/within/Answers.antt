use Rattle.std.proofs.Common.{List, sym, ap}
use Rattle.lambda_values.specs.declared.item.Item.{Item}
use Rattle.trace.specs.Trace.{trace}
use Rattle.job_plan.specs.Bases.{base_walk}
use Rattle.job_plan.proofs.source.Source.within.Goals as goal

pub returns : goal.returns
returns c =
    let t = base_walk c.args.self.base in
    ap (λ (xs : List Item). trace xs t.ending) (sym (c.within.ensures t.items c.args.self.few))
