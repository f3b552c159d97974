use Rattle.std.proofs.Common.{◌<◌, arith}
use Rattle.job_plan.specs.Plans.{plans_in}
use Rattle.job_table.proofs.PlannedAnswers.{answer_before}
use Rattle.job_table.proofs.planned.PlanJobs.named_answer.Goals as goal

pub returns-in-Some : goal.returns-in-Some
returns-in-Some g c =
    let earlier : c.args.named < c.args.job = omega (arith, c.if-named-job.false) in
    answer_before (plans_in g.P.PlanBrand.jobs) c.args.job c.args.named c.in-Some.answer.now c.requires.job earlier
    (c.requires.earlier c.args.named c.in-Some.answer.now c.in-Some.ensures)
