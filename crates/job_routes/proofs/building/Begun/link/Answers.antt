use Rattle.std.proofs.Common.{length, ap, ◌∙◌, arith}
use Rattle.trace.specs.Stages.{pipe, stages_of}
use Rattle.slice_ops.specs.Slices.{slice_of, sliced}
use Rattle.job_meaning.specs.Walks.{source_walk}
use Rattle.job_routes.specs.declared.numbered_stages.NumberedStages.{NumberedStages}
use Rattle.job_routes.specs.Legs.{legs_in, links_in, number_after, walk_through, linked, scanned, windowed}
use Rattle.job_routes.proofs.BuiltLemmas.{pushed_length}
use Rattle.job_routes.proofs.LinkLemmas.{last_linked}
use Rattle.job_routes.proofs.building.Begun.link.Goals as goal

pub returns : goal.returns
returns c =
    let b = c.args.self.now in
    let r = c.replace-stages.ensures in
    let s = c.replace-stages.new.dest in
    let first = ap (λ (x : NumberedStages). x.first) r.after ∙ c.none.ensures.0 in
    let none = ap (λ (x : NumberedStages). x.list.items) r.after ∙ c.none.ensures.1 in
    let new = c.push.new.self.items in
    let k = ap (λ gs. length (stages_of gs)) none in
    let l = pushed_length new b.links.items _ c.in_ok-push.ensures.items in
    record {
      walk = λ env ss.
          let u = windowed b.window.from b.window.to (scanned (legs_in b.scans.items) env (source_walk ss)) in
          (λ i. pipe s.first (stages_of (none i)) env (linked (links_in new) env u))
          ∙ last_linked new b.links.items _ env u c.in_ok-push.ensures.items
          ∙ (λ i. sliced (slice_of c.args.slice) (number_after (r.value i)) env
          (walk_through (r.value i) env (linked (links_in b.links.items) env u)));
      number = omega (arith, k, first, c.next-next.ensures);
      few = omega (arith, l);
    }
