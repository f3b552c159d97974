use Rattle.prefix_walks.proofs.WindowPositions.{window_size}
use Rattle.job_plan.specs.Bases.{base_walk}
use Rattle.job_plan.proofs.source.Source.size.Goals as goal

pub returns : goal.returns
returns c =
    let s = c.args.self.now in
    let xs = (base_walk s.base).items in
    window_size s.window.from s.window.to xs s.size c.within-count.result.1 s.measured s.few
    c.within-count.ensures.count
