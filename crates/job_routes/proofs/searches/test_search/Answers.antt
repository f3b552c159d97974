use Rattle.std.proofs.Common.{◌≡◌, suc, refl, ap, ◌∙◌, rules}
use Rattle.find_ops.specs.Finds.{first as find_first}
use Rattle.lambda_values.specs.Term.{row, truth_of}
use Rattle.lambda_values.specs.declared.expr.BoolExpr.{BoolExpr}
use Rattle.trace.specs.Stages.{map, through}
use Rattle.job_routes.specs.Legs.{ended, finding, linked, links_in, number_after, walk_through, windowed}
use Rattle.job_routes.specs.Searches.{failing}
use Rattle.job_routes.proofs.searches.test_search.Goals as goal

pub returns-clause-walk : goal.returns-clause-walk
returns-clause-walk c = λ env t.
    let s = c.args.stages in
    let boxed : c.in_ok-new.field-0.value ≡ c.args.test = search rules in
    c.in_ok-push-2.ensures.walk env t
    ∙ (λ i. through (c.in_ok-push.ensures.number i) (map row) env
    ((c.in_ok-push.ensures.walk env t
    ∙ ap (λ (e : BoolExpr). failing s (truth_of e) env (walk_through s env t)) boxed) i))

pub returns-clause-finds : goal.returns-clause-finds
returns-clause-finds c =
    let s = c.args.stages in
    let mid = c.push.new.self in
    let new = c.push-2.new.self in
    record {
      window = refl;
      ends = refl;
      outcome = λ env t.
          let u = windowed c.args.window.from c.args.window.to t in
          (λ i. ended (finding find_first) (number_after new) env
          (walk_through new env (linked (links_in (c.new-links.ensures.items i)) env u)))
          ∙ (λ i. ended (finding find_first)
          ((c.in_ok-push-2.ensures.number ∙ ap suc c.in_ok-push.ensures.number) i) env
          (returns-clause-walk c env u i));
    }
