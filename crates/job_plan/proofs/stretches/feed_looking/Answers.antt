use Rattle.std.proofs.Common.{List, Ok, sym, ◌≡◌, ◌∙◌}
use Rattle.lambda_values.specs.declared.item.Item.{Item}
use Rattle.job_plan.specs.declared.looking.Looking.{Looking}
use Rattle.job_plan.specs.Stretches.{KnowsPlaces, UnlessLeft}
use Rattle.job_plan.proofs.LookLemmas.{inner_flow, left_decided, still_taken}
use Rattle.job_plan.proofs.WalkLemmas.{fed_as}
use Rattle.job_plan.proofs.stretches.feed_looking.Goals as goal

pub returns-then-looking-clause-left : goal.returns-then-looking-clause-left
returns-then-looking-clause-left g c = λ xs took.
    let h = g.S.LongSink.has_taken in
    let decides = g.P.StartBrand.decides in
    let from = g.P.StartBrand.from in
    let s = c.feed_stretches.new.sink in
    let some = c.in_ok-fed.ensures.left xs (c.requires.from, c.requires.decides, took) in
    left_decided decides from (h s.inner some.0) s.has_left c.if-looking.true some.1.2

pub returns-clause-fed : goal.returns-clause-fed
returns-clause-fed g c = λ xs took.
    let h = g.S.LongSink.has_taken in
    let decides = g.P.StartBrand.decides in
    let from = g.P.StartBrand.from in
    let s = c.feed_stretches.new.sink in
    let stays = c.if-looking.false in
    fed_as (λ (l : Looking g.row.P.Denot g.row.S.Denot g.row.W.Denot) (ys : List Item). (l.from ≡ from)
    × KnowsPlaces g.W.Stop.decides decides l.stop.now × UnlessLeft l.has_left decides from (h l.inner ys)) h s s.inner
    (λ ys looked. still_taken decides from (h s.inner ys) s.has_left stays looked.2) xs _ (Ok c.in_ok-fed.fed)
    (c.in_ok-fed.ensures.fed stays xs (c.requires.from, c.requires.decides, took))

pub returns-clause-flow : goal.returns-clause-flow
returns-clause-flow g c =
    let s = c.feed_stretches.new.sink in
    let stays = c.if-looking.false in
    sym (inner_flow s.has_left (g.S.LongSink.flow s.inner) stays) ∙ c.in_ok-fed.ensures.flow stays
