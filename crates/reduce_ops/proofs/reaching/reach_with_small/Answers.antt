use Rattle.std.proofs.Common.{◌≡◌, ap, subst}
use Rattle.reduce_ops.specs.Reaches.{AbstractReach, IsReach, reach_beside, reach_in, reach_of}
use Rattle.reduce_ops.proofs.ExactLemmas.{covered_same, one_sided_same, ordered}
use Rattle.reduce_ops.proofs.reaching.reach_with_small.Goals as goal
use Rattle.reduce_ops.proofs.reaching.reach_with_small.Goals.{then-is_one_sided-via-then-is_one_sided}
use Rattle.reduce_ops.proofs.reaching.reach_with_small.Goals.{then-is_one_sided-via-else-is_one_sided+then-covers}

pub returns-then-is_one_sided : goal.returns-then-is_one_sided
returns-then-is_one_sided c =
    let before : AbstractReach = reach_in c.args.before in
    let widest : AbstractReach = reach_in c.widest_of_small-widest.result in
    let actual : AbstractReach = reach_of c.args.values.now in
    let is = c.widest_of_small-widest.ensures in
    let same : reach_beside before widest ≡ reach_beside before actual = elim c.then-is_one_sided.branch [
      | then-is_one_sided-via-then-is_one_sided w ↦
          ap (reach_beside before) (one_sided_same widest actual is (ordered c.args.values.now)
          (c.is_one_sided.ensures w.if-is_one_sided.true))
      | then-is_one_sided-via-else-is_one_sided+then-covers w ↦
          covered_same before widest actual is (ordered c.args.values.now) (w.covers.ensures w.if-covers.true)
    ] in
    subst (λ (r : AbstractReach). IsReach c.beside.result r) same c.beside.ensures
