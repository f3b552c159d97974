use Rattle.std.proofs.Common.{refl, sym, true≢false}
use Rattle.completion_core.proofs.ArmCheckLemmas.{not_earlier, may_arm}
use Rattle.completion_core.proofs.graph.Graph.refusal_of_arm.Goals as goal

pub returns-then-not-all_below : goal.returns-then-not-all_below
returns-then-not-all_below c g r =
    not_earlier c.args.self.now g r c.args.actor c.args.node c.args.pending c.args.onward.now c.in-Some.state.now
    c.in-Some.ensures c.if-state-actor.false c.if-state.false (c.if-not-holds_all.ensures.0 refl)
    (λ all. true≢false (sym (c.if-not-all_below.ensures.1 all)))

pub returns : goal.returns
returns c g r =
    may_arm c.args.self.now g r c.args.actor c.args.node c.args.pending c.args.onward.now c.in-Some.state.now
    c.in-Some.ensures c.if-state-actor.false c.if-state.false (c.if-not-holds_all.ensures.0 refl)
    c.ranges.pending.fits (c.if-not-all_below.ensures.0 refl)
