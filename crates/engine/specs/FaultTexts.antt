-- Design: what a message says of a run that failed, and its line on standard error.
use Rattle.std.specs.Prelude.{ℕ, ◌++◌, List, [], ◌∷◌, codes, decimal}
use Rattle.columns.specs.FaultTexts.{fault_text as column_text}
use Rattle.job_language.specs.FaultTexts.{job_fault_text}
use Rattle.job_language.specs.declared.fault.Cause.{Cause}
use Rattle.job_language.specs.declared.fault.Cause.TheVariants as cause
use Rattle.job_language.specs.declared.fault.JobFault.{JobFault}
use Rattle.engine.specs.declared.fault.EngineFault.{EngineFault}
use Rattle.engine.specs.declared.fault.EngineFault.TheVariants.{Columns, Jobs, JobsRead, NoMemory, Write}

-- of a job file that is refused for this cause: being out of memory belongs to no file
abbrev pub refusal_text : Cause → JobFault → List ℕ
refusal_text cause.NoMemory f = job_fault_text f
refusal_text c f = codes "jobs: " ++ job_fault_text f

-- the bytes of the message
abbrev pub fault_text : EngineFault → List ℕ
fault_text (Columns f) = column_text f
fault_text (Jobs f) = refusal_text f.cause f
fault_text JobsRead = codes "jobs: read failed"
fault_text NoMemory = codes "out of memory"
fault_text (Write n) = codes "write failed after " ++ (decimal n ++ codes " bytes")

-- the bytes of the line: the program, the message, and a line feed
abbrev pub line_of : EngineFault → List ℕ
line_of fault = (codes "streamrun: " ++ fault_text fault) ++ 10 ∷ []
