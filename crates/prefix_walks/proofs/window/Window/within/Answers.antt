use Rattle.prefix_walks.proofs.WindowPositions.{window_positions}
use Rattle.prefix_walks.proofs.window.Window.within.Goals as goal

pub returns : goal.returns
returns c = λ xs few. window_positions c.args.from c.args.self.from _ c.args.to c.args.self.to _ _ xs few
    c.saturating_add.ensures c.moved.ensures c.earlier.ensures
