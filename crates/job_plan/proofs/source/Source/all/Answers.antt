use Rattle.std.proofs.Common.{◌∙◌, arith}
use Rattle.job_plan.specs.Bases.{base_walk}
use Rattle.job_routes.specs.Legs.{windowed}
use Rattle.job_routes.proofs.WindowLemmas.{all_positions}
use Rattle.job_plan.proofs.source.Source.all.Goals as goal

pub invariant_of-result : goal.invariant_of-result
invariant_of-result c = record {
  measured = c.size.ensures;
  few = omega (arith, c.size.ensures);
}

pub returns : goal.returns
returns c =
    let t = base_walk c.args.base in
    (λ i. windowed (c.all.ensures.0 i) (c.all.ensures.1 i) t) ∙ all_positions t
