use Rattle.std.proofs.Common.{◌≡◌, ◌+◌, ℕ, Option, Some, ap, ◌∙◌, rules}
use Rattle.prefix_walks.specs.Pieces.{earlier, elements}
use Rattle.prefix_walks.proofs.WindowPositions.{take_within}
use Rattle.prefix_walks.proofs.window.Window.limited.Goals as goal

pub returns-clause-some : goal.returns-clause-some
returns-clause-some c = λ xs.
    let end : c.in_ok-end.end ≡ c.args.self.from + c.args.count = search rules in
    ap (λ (o : Option ℕ). elements c.args.self.from o xs)
    (c.earlier.ensures ∙ ap (λ (e : ℕ). earlier c.args.self.to (Some e)) end)
    ∙ take_within c.args.count c.args.self.from c.args.self.to xs
