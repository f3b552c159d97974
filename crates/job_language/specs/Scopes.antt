-- Condition: which names the scope of the program means.
use Rattle.std.specs.Prelude.{map}
use Rattle.job_language.specs.declared.scope.Scope as code
use Rattle.job_language.specs.Causes.{Scope}
use Rattle.job_language.specs.Jobs.{jobs_of}
use Rattle.job_language.specs.Verdicts.{earlier_of}

abbrev pub scope_of : code.Scope → Scope
scope_of s =
    record { version = s.version; rows = s.rows; jobs = map earlier_of (jobs_of s.jobs.now); columns = s.columns.now }
