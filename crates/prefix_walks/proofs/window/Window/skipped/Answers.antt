use Rattle.std.proofs.Common.{◌≡◌, ◌+◌, ℕ, ap, ◌∙◌, rules}
use Rattle.prefix_walks.specs.Pieces.{elements}
use Rattle.prefix_walks.proofs.WindowPositions.{drop_within}
use Rattle.prefix_walks.proofs.window.Window.skipped.Goals as goal

pub returns-clause-some : goal.returns-clause-some
returns-clause-some c = λ xs.
    let from : c.in_ok-from.from ≡ c.args.self.from + c.args.count = search rules in
    ap (λ (f : ℕ). elements f c.args.self.to xs) from ∙ drop_within c.args.count c.args.self.from c.args.self.to xs
