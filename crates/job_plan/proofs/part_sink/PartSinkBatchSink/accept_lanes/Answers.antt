use Rattle.std.proofs.Common.{◌≡◌, List, sym, ap}
use Rattle.lambda_values.specs.declared.item.Item.{Item}
use Rattle.job_plan.specs.declared.part_sink.PartSink.{PartSink}
use Rattle.job_plan.specs.Parts.{HasTaken}
use Rattle.job_routes.specs.Legs.{end_in}
use Rattle.job_plan.proofs.WalkLemmas.{fed_as, taken_as}
use Rattle.job_plan.proofs.part_sink.PartSinkBatchSink.accept_lanes.Goals as goal

pub returns-clause-fed : goal.returns-clause-fed
returns-clause-fed g c = λ xs took.
    let closing = c.args.self.now.last in
    let close = closing.end.now in
    let stage = closing.number in
    let env = closing.env.now in
    let last = g.K.EndBrand.last in
    let f = end_in last in
    let begun = g.K.EndBrand.begun in
    let ends = ap end_in took.0 in
    let part = c.accept_all.new.part in
    fed_as (HasTaken (end_in close) stage env begun)
    (λ (sink : PartSink g.row.K.Denot g.K.EndBrand) (items : List Item). (sink.last.end.now ≡ last)
    × (sink.last.number ≡ g.K.EndBrand.stage) × (sink.last.env.now ≡ g.K.EndBrand.env)
    × HasTaken f g.K.EndBrand.stage g.K.EndBrand.env begun sink.part items)
    part (record { part = part; last = closing; of = c.args.self.now.of; kind = c.self-1.given.0 })
    (λ ys h. (
      took.0,
      took.1,
      took.2,
      taken_as f (end_in close) g.K.EndBrand.stage stage g.K.EndBrand.env env begun part
          ys (sym ends) (sym took.1) (sym took.2) h,
    ))
    xs _ c.accept_all.result
    (c.accept_all.ensures.fed begun xs (taken_as (end_in close) f stage g.K.EndBrand.stage env g.K.EndBrand.env begun
    c.args.self.now.part xs ends took.1 took.2 took.3))
