use Rattle.std.proofs.Common.{◌≡◌, ◌++◌, drop}
use Rattle.job_language.specs.Jobs.{sources_of}
use Rattle.job_meaning.specs.Names.{all_source_names}
use Rattle.job_meaning.proofs.names.push_sources.Given as goal

-- the names so far, and those that are left
abbrev pub invariant-loop-source : goal.invariant-loop-source
invariant-loop-source l = l.names.items ++ all_source_names (sources_of (drop l.source-index l.sources))
    ≡ l.initial.names.items ++ all_source_names (sources_of l.sources)
