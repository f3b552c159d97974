use Rattle.std.proofs.Common.{◌≡◌, ◌++◌, drop}
use Rattle.job_language.specs.Jobs.{job_stages_of}
use Rattle.job_meaning.specs.Names.{all_stage_names}
use Rattle.job_meaning.proofs.names.push_stages.Given as goal

-- the names so far, and those that are left
abbrev pub invariant-loop-stage : goal.invariant-loop-stage
invariant-loop-stage l = l.names.items ++ all_stage_names (job_stages_of (drop l.stage-index l.stages))
    ≡ l.initial.names.items ++ all_stage_names (job_stages_of l.stages)
