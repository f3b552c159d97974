use Rattle.std.proofs.Common.{◌<◌, ◌≤◌, length, rules}
use Rattle.job_routes.specs.Legs.{leg_in}
use Rattle.job_routes.proofs.LinkLemmas.{leg_after, leg_found}
use Rattle.job_plan.proofs.plan.JobPlan.leg.Goals as goal

pub returns-then-number-len : goal.returns-then-number-len
returns-then-number-len c =
    let low : c.args.number < length c.args.self.now.scans.items = search rules in
    leg_found c.args.number c.args.self.now.scans.items c.index.result.now (leg_in c.args.self.now.last) low
    c.index.ensures

pub returns-else-number-len : goal.returns-else-number-len
returns-else-number-len c =
    let high : length c.args.self.now.scans.items ≤ c.args.number = search rules in
    leg_after c.args.number c.args.self.now.scans.items (leg_in c.args.self.now.last) high
