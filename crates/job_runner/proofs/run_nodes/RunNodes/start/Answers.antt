use Rattle.std.proofs.Common.{◌≡◌, ◌-◌, ◌<◌, ◌∙◌, ap, sym, length, arith}
use Rattle.job_runner.specs.Tasks.{node_at, kept_at}
use Rattle.job_runner.proofs.ArmLemmas.{start_got}
use Rattle.job_runner.proofs.run_nodes.RunNodes.start.Goals as goal

pub returns : goal.returns
returns g c =
    let ss = c.args.self.now.starts.items in
    let n = c.args.self.now.count in
    let l = c.len.ensures in
    let low : c.len.result - 1 - c.args.job < length ss = omega (arith, c.requires) in
    let got = start_got ss (c.len.result - 1 - c.args.job) c.index.result.now low c.index.ensures in
    let at : c.len.result - 1 - c.args.job ≡ g.R.RunBrand.jobs - 1 - c.args.job = omega arith in
    let is = c.args.self.now.started c.args.job in
    (got.0 ∙ ap (node_at ss) at ∙ sym is.0, got.1 ∙ ap (kept_at ss) at ∙ sym is.1)
