use Rattle.std.proofs.Common.{◌≡◌, drop}
use Rattle.job_language.specs.Jobs.{job_stages_of}
use Rattle.report_merge.specs.Possible.{flattens}
use Rattle.report_merge.proofs.possible.flattens.Given as goal

-- none of the stages so far is a `flatMap`
abbrev pub invariant-loop-stage : goal.invariant-loop-stage
invariant-loop-stage l = flattens (job_stages_of (drop l.stage-index l.stages)) ≡ flattens (job_stages_of l.stages)
