use Rattle.std.proofs.Common.{◌≡◌, ℤ, ◌-◌, true, subst, sym}
use Rattle.std.specs.Prelude.{vec_len}
use Rattle.sort_ops.specs.Firsts.{is_among}
use Rattle.sort_ops.specs.NewValues.{AreAmong}
use Rattle.sort_ops.specs.Parts.{values_in}
use Rattle.sort_ops.proofs.NotedLemmas.{filled_among}
use Rattle.sort_ops.proofs.noted.Noted.begin.Goals as goal

pub returns : goal.returns
returns c = λ xs among all.
    let vs = values_in xs in
    subst (AreAmong vs) (sym c.resize.ensures.items)
    (filled_among vs 2048 (2048 - vec_len c.args.self.now.values) c.twice.result c.args.self.now.values.items
    c.resize.result (subst (λ (p : ℤ × ℤ). is_among p.0 vs ≡ true) (sym c.twice.ensures) among)
    (subst (λ (p : ℤ × ℤ). is_among p.1 vs ≡ true) (sym c.twice.ensures) among) all)
