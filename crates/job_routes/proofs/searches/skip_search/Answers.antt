use Rattle.std.proofs.Common.{◌≡◌, ◌++◌, [], ◌∷◌, List, suc, length, refl, ap, ◌∙◌, arith}
use Rattle.find_ops.specs.Finds.{first as find_first}
use Rattle.lambda_values.specs.Term.{row}
use Rattle.slice_ops.specs.Slices.{skipped}
use Rattle.slice_ops.specs.declared.slice_part.Slice.TheVariants as slice
use Rattle.trace.specs.declared.stage.Stage.{Stage}
use Rattle.trace.specs.Stages.{map, pipe, stages_of, through}
use Rattle.trace.specs.Trace.{Trace}
use Rattle.job_routes.specs.declared.leg.Link.{Link}
use Rattle.job_routes.specs.Legs.{ended, finding, linked, links_in, number_after, walk_through, windowed}
use Rattle.job_routes.proofs.SearchedLegs.{sought}
use Rattle.job_routes.proofs.searches.skip_search.Goals as goal

pub returns : goal.returns
returns c =
    let s = c.args.stages in
    let none = c.none-sought.result in
    let new = c.push.new.self in
    let link : Link = record { stages = s; slice = slice.Skip c.args.count } in
    let only : c.push-2.new.self.items ≡ link ∷ [] =
    c.in_ok-push-2.ensures.items ∙ ap (λ (ls : List Link). ls ++ link ∷ []) c.new-links.ensures.items in
    let number : number_after none ≡ suc (number_after s) =
    let a = ap (λ (gs : List Stage). length (stages_of gs)) c.none-sought.ensures.1 in
    omega (arith, a, c.none-sought.ensures.0, c.next.ensures) in
    record {
      window = refl;
      ends = refl;
      outcome = λ env t.
          let u = windowed c.args.window.from c.args.window.to t in
          let v : Trace = skipped c.args.count (walk_through s env u) in
          (λ i. ended (finding find_first) (number_after new) env
          (walk_through new env (linked (links_in (only i)) env u)))
          ∙ sought (number_after none) (number_after s) new env v v c.in_ok-push.ensures.number number
          (c.in_ok-push.ensures.walk env v
          ∙ ap (λ (gs : List Stage). through (number_after none) (map row) env (pipe none.first (stages_of gs) env v))
          c.none-sought.ensures.1);
    }
