use Rattle.std.proofs.Common.{◌≡◌, suc, length, sym, ap, ◌∙◌, arith, rules}
use Rattle.std.specs.Vec.Iter.{into_iter_items, into_iter_len}
use Rattle.job_language.specs.Jobs.{job_stages_of, terminal_of}
use Rattle.job_meaning.specs.Walks.{after_stages, answer_of, source_walk}
use Rattle.job_routes.specs.Building.{begun_walk}
use Rattle.job_routes.specs.Legs.{end_in, legs_in, links_in, number_after, walk_through, AbstractEnd, ended}
use Rattle.job_routes.specs.Legs.{given_answer, linked, scanned, windowed}
use Rattle.job_routes.proofs.RouteLemmas.{no_items, terminal_ends}
use Rattle.job_routes.proofs.building.legs_of.Goals as goal

pub loop-stage-init : goal.loop-stage-init
loop-stage-init c =
    let b = c.none-begun.result in
    let all : into_iter_items c.into_iter-stage-iterator.result ≡ c.args.stages.items = search rules in
    let count : into_iter_len c.into_iter-stage-iterator.result
    ≡ length (into_iter_items c.into_iter-stage-iterator.result) = search rules in
    let k = ap length all in
    let one : number_after b.stages ≡ 1 = c.none-begun.ensures.number in (
      tt,
      tt,
      λ env ss. (λ i. after_stages (one i) (job_stages_of (all i)) env (c.none-begun.ensures.walk env ss i)),
      omega (arith, k, one),
      omega (arith, k, c.none-begun.ensures.few, c.requires.few),
      count,
      c.of-end.ensures,
    )

pub loop-stage-preserved : goal.loop-stage-preserved
loop-stage-preserved c =
    let b = c.loop-stage.begun in
    let new = c.add.new.self in
    let rest = into_iter_items c.next.new.self in
    let count : into_iter_len c.next.new.self ≡ length (into_iter_items c.next.new.self) = search rules in
    let k = ap length c.in-Some.ensures.steps.0 in
    let next = c.in_ok-add.ensures.number in (
      tt,
      tt,
      λ env ss. (λ i. after_stages (next i) (job_stages_of rest) env (c.in_ok-add.ensures.walk env ss i))
          ∙ sym (ap (λ js. after_stages (number_after b.stages) (job_stages_of js) env (begun_walk b env ss))
          c.in-Some.ensures.steps.0) ∙ c.loop-stage.invariant.2 env ss,
      omega (arith, k, next, c.loop-stage.invariant.3),
      omega (arith, k, c.in_ok-add.ensures.few, c.loop-stage.invariant.4),
      count,
      c.loop-stage.invariant.6,
    )

pub returns : goal.returns
returns c = λ env ss.
    let b = c.loop-stage.begun in
    let asked = c.ask_for.new.self in
    let dropped = c.drop_places.new.self in
    let e = c.take_leg-last.ensures in
    let d = terminal_of c.args.terminal in
    let n = number_after b.stages in
    let none = no_items (into_iter_items c.loop-stage.stage-iterator)
    (sym c.loop-stage.invariant.5 ∙ c.in-None.ensures.steps.0) in
    let z = ap length none in
    let last : n ≡ suc (length c.args.stages.items) = omega (arith, z, c.loop-stage.invariant.3) in
    let walk : begun_walk b env ss ≡ after_stages 1 (job_stages_of c.args.stages.items) env (source_walk ss)
    = sym (ap (λ js. after_stages n (job_stages_of js) env (begun_walk b env ss)) none)
    ∙ c.loop-stage.invariant.2 env ss in
    (λ i. given_answer (ended (end_in (e.leg.3 i)) (number_after (e.leg.2 i)) env
    (walk_through (e.leg.2 i) env (linked (links_in (e.leg.1 i).items) env
    (windowed (e.leg.0 i).from (e.leg.0 i).to (scanned (legs_in (e.kept i).items) env (source_walk ss)))))))
    ∙ (λ i. given_answer (ended (end_in c.end_for-walked.result)
    (number_after ((c.drop_places.ensures.kept.1 ∙ c.ask_for.ensures.kept.1) i)) env (begun_walk dropped env ss)))
    ∙ ap given_answer (c.drop_places.ensures.walk n env ss ∙ c.end_for-walked.ensures n env ss
    ∙ c.ask_for.ensures.walk n env ss
    ∙ ap (λ (f : AbstractEnd). ended f n env (begun_walk b env ss)) c.loop-stage.invariant.6)
    ∙ terminal_ends d n env (begun_walk b env ss)
    ∙ (λ i. answer_of (last i) env d (walk i))
