use Rattle.std.proofs.Common.{◌≡◌, length, arith, rules}
use Rattle.job_routes.proofs.RouteLemmas.{length-stages_of}
use Rattle.job_routes.proofs.numbered_stages.NumberedStages.next.Goals as goal

pub returns : goal.returns
returns c =
    let s = c.args.self.now in
    let len : c.len.result ≡ length s.list.items = search rules in
    let same = length-stages_of s.list.items in
    omega (arith, len, same)
