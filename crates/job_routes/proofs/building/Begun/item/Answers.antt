use Rattle.std.proofs.Common.{arith}
use Rattle.job_routes.specs.Building.{walk_over}
use Rattle.job_routes.proofs.building.Begun.item.Goals as goal

pub returns : goal.returns
returns c = record {
  walk = λ env ss. c.in_ok-push.ensures.walk env (walk_over c.args.self.now env ss);
  number = c.in_ok-push.ensures.number;
  few = omega arith;
}
