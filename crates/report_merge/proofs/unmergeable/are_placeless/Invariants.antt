use Rattle.std.proofs.Common.{◌≡◌, drop}
use Rattle.std.specs.List.{list_all}
use Rattle.job_language.specs.Jobs.{job_stages_of}
use Rattle.job_language.specs.Places.{stage_is_placeless}
use Rattle.report_merge.proofs.unmergeable.are_placeless.Given as goal

-- the stages so far have neither cells nor rows
abbrev pub invariant-loop-stage : goal.invariant-loop-stage
invariant-loop-stage l = list_all stage_is_placeless (job_stages_of (drop l.stage-index l.stages))
    ≡ list_all stage_is_placeless (job_stages_of l.stages)
