use Rattle.std.proofs.Common.{◌∙◌}
use Rattle.job_plan.proofs.LookLemmas.{as_named, inner_flow, inner_wants, not_left, still_taken, unless_left}
use Rattle.job_plan.proofs.looking.LookingLeavingSink.leaves.Goals as goal

pub returns-clause-taken : goal.returns-clause-taken
returns-clause-taken g c = λ xs looked.
    let h = g.S.LongSink.has_taken in
    let decides = g.P.StartBrand.decides in
    let from = g.P.StartBrand.from in
    let self = c.args.self.now in (
      looked.0,
      (λ d known. looked.1 d (c.is_past-self.ensures.still d known)),
      unless_left decides from (h self.inner xs) c.is_past-self.result
          (λ past. as_named g.W.Stop.decides decides from self.from self.stop.now looked.0 looked.1
          (c.is_past-self.ensures.past past))
          (still_taken decides from (h self.inner xs) self.has_left
          (not_left self.has_left (g.S.LongSink.flow self.inner) c.requires) looked.2),
    )

pub returns-clause-wants : goal.returns-clause-wants
returns-clause-wants g c = λ e. inner_flow _ _ e ∙ inner_wants _ _ c.requires
