use Rattle.std.proofs.Common.{List, sym, ap, ◌∙◌}
use Rattle.batch_eval.specs.Pipelines.{piped}
use Rattle.slice_ops.specs.Slices.{slice_of, sliced}
use Rattle.job_routes.specs.declared.leg.Link.{Link}
use Rattle.job_routes.specs.Legs.{links_in, number_after, linked}
use Rattle.job_routes.proofs.LinkLemmas.{last_linked}
use Rattle.job_plan.proofs.nest.Chain.split_last.Goals as goal

pub returns-in-Some-clause-walk : goal.returns-in-Some-clause-walk
returns-in-Some-clause-walk c = λ t.
    let env = c.args.self.line.env.now in
    let link = c.in-Some.link.now in
    let links = c.in-Some.links.now in
    let u = linked (links_in links) env t in
    let up = c.up_to.ensures in
    last_linked c.args.self.links.now links link env t c.in-Some.ensures.cases.0
    ∙ ap (sliced (slice_of link.slice) (number_after link.stages) env)
    (sym (up.line u) ∙ ap (λ (ls : List Link). piped c.up_to.result.line (linked (links_in ls) env t)) (sym up.links))
