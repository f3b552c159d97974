use denote.Exit.{no}
use denote.Param.{param}
use mir.Syntax.{static}
use denote.Param.Send.{arg_send, arg_sync, param_send, param_sync}
use Rattle.job_plan.specs.contracts.part.Part as parts
use Rattle.job_plan.specs.contracts.given.Given as given_walks
use Rattle.job_table.specs.contracts.planned.PlanJobs as plan_jobs
use Rattle.job_table.proofs.SharedPlanLemmas.{jobs_send, jobs_sync, part_send, source_send, source_sync}
use Rattle.test_engine.proofs.driven.plan_found_as.Goals as goal

pub found-requires-send-S : goal.found-requires-send-S
found-requires-send-S g c = λ κs within.
    param_send 0 _ (arg_send _ no (plan_jobs.the_row _ _ (param 0 g.row.P) g.P.PlanBrand)
    (jobs_send _ _ _ _ (param_send 0 _ c.type_bounds.send-P)))

pub found-requires-sync-S : goal.found-requires-sync-S
found-requires-sync-S g c = λ κs within.
    param_sync 0 _ (arg_sync _ no (plan_jobs.the_row _ _ (param 0 g.row.P) g.P.PlanBrand)
    (jobs_sync _ _ _ _ (param_sync 0 _ c.type_bounds.sync-P)))

pub found-requires-send-S-Part : goal.found-requires-send-S-Part
found-requires-send-S-Part g c = λ κs within. param_send 2 _ (arg_send _ no (parts.the_row _) (part_send _))

pub found-requires-send-S-Source : goal.found-requires-send-S-Source
found-requires-send-S-Source g c = λ κs within. param_send 3 _
    (arg_send _ no (given_walks.the_row (record { mir = static; lft = _ }) (record { mir = static; lft = _ }))
    (source_send _ _))

pub found-requires-sync-S-Source : goal.found-requires-sync-S-Source
found-requires-sync-S-Source g c = λ κs within. param_sync 3 _
    (arg_sync _ no (given_walks.the_row (record { mir = static; lft = _ }) (record { mir = static; lft = _ }))
    (source_sync _ _))
