use Rattle.std.proofs.Common.{List, ap, ◌∙◌}
use Rattle.job_language.specs.Jobs.{source_of, sources_of}
use Rattle.job_meaning.specs.FileAnswers.{all_put_in, put_in}
use Rattle.job_plan.specs.declared.plan.Named.{Named}
use Rattle.job_plan.specs.Plans.{jobs_at, plans_in}
use Rattle.job_table.specs.PlanLegs.{answers_before}
use Rattle.job_table.proofs.PlannedAnswers.{put_more}
use Rattle.job_table.proofs.planned.PlanJobs.put_sources.Goals as goal

pub loop-source-preserved : goal.loop-source-preserved
loop-source-preserved g c =
    let plan = c.args.plan.now in
    let named = jobs_at (answers_before (plans_in g.P.PlanBrand.jobs) c.args.job) plan.named.items in
    let put = c.in_ok-put.ensures ∙ ap (λ (ns : List Named). put_in
    (jobs_at (answers_before (plans_in g.P.PlanBrand.jobs) c.args.job) ns) (source_of c.source-item.result))
    c.deref.ensures.value in
    put_more named c.deref-source-items.result.now c.loop-source.source-index c.source-item.result c.in_ok-put.put
    c.loop-source.sources.items c.push.new.self.items
    (all_put_in named (sources_of plan.sources.items)) c.loop-source-test.true c.source-item.is put
    c.in_ok-push.ensures.items c.loop-source.invariant
