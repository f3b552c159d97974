use Rattle.std.proofs.Common.{length, ap, ◌∙◌, arith}
use Rattle.trace.specs.Stages.{pipe, stages_of}
use Rattle.job_meaning.specs.Walks.{source_walk}
use Rattle.job_routes.specs.Legs.{end_in, legs_in, links_in, number_after, walk_through, ended, given_walk, linked}
use Rattle.job_routes.specs.Legs.{scanned, windowed}
use Rattle.job_routes.proofs.LinkLemmas.{last_scanned}
use Rattle.job_routes.proofs.WindowLemmas.{all_positions}
use Rattle.job_routes.proofs.building.Begun.scan.Goals as goal

pub returns : goal.returns
returns c =
    let taken = c.take_leg-leg in
    let s = taken.new.self in
    let e = taken.ensures in
    let new = c.push.new.self.items in
    let stages = ap (λ gs. length (stages_of gs)) e.none.1 in
    let links = ap length e.none.0 in
    record {
      walk = λ env ss.
          let u = scanned (legs_in new) env (source_walk ss) in
          (λ i. pipe s.stages.first (stages_of (e.none.1 i)) env
          (linked (links_in (e.none.0 i)) env (windowed (e.none.3 i) (e.none.4 i) u)))
          ∙ all_positions u
          ∙ last_scanned new s.scans.items taken.result env (source_walk ss) c.in_ok-push.ensures.items
          ∙ (λ i. given_walk (ended (end_in (e.leg.3 i)) (number_after (e.leg.2 i)) env
          (walk_through (e.leg.2 i) env (linked (links_in (e.leg.1 i).items) env
          (windowed (e.leg.0 i).from (e.leg.0 i).to (scanned (legs_in (e.kept i).items) env (source_walk ss)))))));
      number = omega (arith, stages, e.none.2);
      few = omega (arith, links);
    }
