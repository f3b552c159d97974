use Rattle.std.proofs.Common.{subst, Option}
use Rattle.reduce_ops.specs.declared.reach.Reach.{Reach}
use Rattle.reduce_ops.specs.Reaches.{IsReach, item_values, reach_of}
use Rattle.reduce_ops.proofs.ExactLemmas.{wide_over}
use Rattle.reduce_ops.proofs.exact_part.of_reach.Goals as goal

pub returns-in-None : goal.returns-in-None
returns-in-None c t is ending = wide_over t.items
    (subst (λ (r : Option Reach). IsReach r (reach_of (item_values t.items))) c.in-None.is is)
