use Rattle.std.proofs.Common.{◌≡◌, drop}
use Rattle.job_language.specs.Jobs.{job_stages_of}
use Rattle.report_merge.specs.Mergeable.{are_items}
use Rattle.report_merge.proofs.unmergeable.are_items.Given as goal

-- the stages so far look at one item at a time
abbrev pub invariant-loop-stage : goal.invariant-loop-stage
invariant-loop-stage l = are_items (job_stages_of (drop l.stage-index l.stages)) ≡ are_items (job_stages_of l.stages)
