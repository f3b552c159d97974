use Rattle.std.proofs.Common.{[], ◌∷◌, ◌++◌, ap, sym, ◌∙◌, is_ok}
use Rattle.std.proofs.ResultArms.{chosen}
use Rattle.job_plan.proofs.NameLemmas.{plan_names_more}
use Rattle.engine.proofs.reporting.names_in.Goals as goal

pub loop-job-preserved : goal.loop-job-preserved
loop-job-preserved c =
    chosen _ _ _ _ c.push.ensures.items (ap is_ok c.in_ok-push.was)
    ∙ (λ i. c.loop-job.invariant i ++ c.into_name.ensures i ∷ [])
    ∙ sym (plan_names_more c.loop-job.yielded c.in-Some.job)
