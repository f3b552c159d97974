use Rattle.std.proofs.Common.{◌≡◌, length, ap, arith, rules}
use Rattle.trace.specs.Stages.{stages_of}
use Rattle.job_routes.proofs.RouteLemmas.{length-stages_of}
use Rattle.job_routes.proofs.numbered_stages.NumberedStages.copy.Goals as goal

pub invariant_of-result : goal.invariant_of-result
invariant_of-result c =
    let s = c.args.self.now in
    let made = c.add_copies.new.to.items in
    let copied : stages_of made ≡ stages_of s.list.items = search rules in
    let l = ap length copied in
    let a = length-stages_of made in
    let b = length-stages_of s.list.items in
    record { numbered = omega (arith, l, a, b, s.numbered) }
