use Rattle.std.proofs.Common.{Vec, Global}
use Rattle.job_meaning.specs.declared.answer.Answer.{Answer}
use Rattle.job_table.proofs.PlannedAnswers.{planned_jobs}
use denote.Exit.{no}
use denote.Param.{param}
use denote.Param.Send.{arg_send, arg_sync, param_send, param_sync}
use mir.Syntax.{static}
use Rattle.job_plan.specs.contracts.part.Part as parts
use Rattle.job_plan.specs.contracts.given.Given as given_walks
use Rattle.job_table.specs.contracts.planned.PlanJobs as plan_jobs
use Rattle.job_table.proofs.SharedPlanLemmas.{jobs_send, jobs_sync, part_send, source_send, source_sync}
use Rattle.job_table.proofs.planned.run_as.Goals as goal

pub returns : goal.returns
returns g c = planned_jobs (λ (v : Vec Answer Global). v.items) c.args.plan.now.jobs.items g.P.PlanBrand.jobs
    c.requires.planned c.run_all.result c.run_all.ensures.count c.run_all.ensures.each

pub run_all-requires-send-S : goal.run_all-requires-send-S
run_all-requires-send-S g c = λ κs within.
    param_send 0 _ (arg_send _ no (plan_jobs.the_row _ _ (param 0 g.row.P) g.P.PlanBrand)
    (jobs_send _ _ _ _ (param_send 0 _ c.type_bounds.send-P)))

pub run_all-requires-sync-S : goal.run_all-requires-sync-S
run_all-requires-sync-S g c = λ κs within.
    param_sync 0 _ (arg_sync _ no (plan_jobs.the_row _ _ (param 0 g.row.P) g.P.PlanBrand)
    (jobs_sync _ _ _ _ (param_sync 0 _ c.type_bounds.sync-P)))

pub run_all-requires-send-S-Part : goal.run_all-requires-send-S-Part
run_all-requires-send-S-Part g c = λ κs within. param_send 3 _ (arg_send _ no (parts.the_row _) (part_send _))

pub run_all-requires-send-S-Source : goal.run_all-requires-send-S-Source
run_all-requires-send-S-Source g c = λ κs within. param_send 4 _
    (arg_send _ no (given_walks.the_row (record { mir = static; lft = _ }) (record { mir = static; lft = _ }))
    (source_send _ _))

pub run_all-requires-sync-S-Source : goal.run_all-requires-sync-S-Source
run_all-requires-sync-S-Source g c = λ κs within. param_sync 4 _
    (arg_sync _ no (given_walks.the_row (record { mir = static; lft = _ }) (record { mir = static; lft = _ }))
    (source_sync _ _))
