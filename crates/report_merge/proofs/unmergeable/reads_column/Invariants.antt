use Rattle.std.proofs.Common.{◌≡◌, drop}
use Rattle.job_language.specs.Jobs.{sources_of}
use Rattle.report_merge.specs.Mergeable.{reads_column}
use Rattle.report_merge.proofs.unmergeable.reads_column.Given as goal

-- none of the sources so far is a column
abbrev pub invariant-loop-source : goal.invariant-loop-source
invariant-loop-source l = reads_column (sources_of (drop l.source-index l.sources))
    ≡ reads_column (sources_of l.sources)
