use Rattle.std.proofs.Common.{◌≡◌, length, sym, ◌∙◌, rules}
use Rattle.job_routes.proofs.LinkLemmas.{length_legs}
use Rattle.job_plan.proofs.plan.JobPlan.last_leg.Goals as goal

pub returns : goal.returns
returns c =
    let len : c.len.result ≡ length c.args.self.now.scans.items = search rules in
    len ∙ sym (length_legs c.args.self.now.scans.items)
