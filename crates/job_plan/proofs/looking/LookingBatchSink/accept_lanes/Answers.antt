use Rattle.std.proofs.Common.{List, true≢false, sym, ◌≡◌, ◌∙◌}
use Rattle.lambda_values.specs.declared.item.Item.{Item}
use Rattle.job_plan.specs.declared.looking.Looking.{Looking}
use Rattle.job_plan.specs.Stretches.{KnowsPlaces, UnlessLeft}
use Rattle.job_plan.proofs.LookLemmas.{inner_flow, inner_wants, not_left, still_taken, unless_left}
use Rattle.job_plan.proofs.WalkLemmas.{fed_as}
use Rattle.job_plan.proofs.looking.LookingBatchSink.accept_lanes.Goals as goal

pub accept_lanes-requires : goal.accept_lanes-requires
accept_lanes-requires g c = record {
  wants =
      inner_wants c.args.self.now.has_left (g.S.LongSink.flow c.args.self.now.inner) c.requires.wants;
}

pub returns-clause-fed : goal.returns-clause-fed
returns-clause-fed g c = λ xs looked.
    let h = g.S.LongSink.has_taken in
    let decides = g.P.StartBrand.decides in
    let from = g.P.StartBrand.from in
    let self = c.args.self.now in
    let stays = not_left self.has_left (g.S.LongSink.flow self.inner) c.requires.wants in
    fed_as h
    (λ (l : Looking g.row.P.Denot g.row.S.Denot g.row.W.Denot) (ys : List Item). (l.from ≡ from)
    × KnowsPlaces g.W.Stop.decides decides l.stop.now × UnlessLeft l.has_left decides from (h l.inner ys))
    c.accept_lanes.new.self _
    (λ ys took. (
      looked.0,
      looked.1,
      unless_left decides from (h c.accept_lanes.new.self ys) self.has_left
          (λ e. absurd (true≢false (sym e ∙ stays))) took,
    ))
    xs _ c.accept_lanes.result (c.accept_lanes.ensures.fed xs
    (still_taken decides from (h self.inner xs) self.has_left stays looked.2))

pub returns-clause-flow : goal.returns-clause-flow
returns-clause-flow g c =
    let self = c.args.self.now in
    inner_flow self.has_left (g.S.LongSink.flow c.accept_lanes.new.self)
    (not_left self.has_left (g.S.LongSink.flow self.inner) c.requires.wants) ∙ c.accept_lanes.ensures.flow
