-- Meaning: which bytes are a file of jobs, and what every other file is refused for.
use Rattle.std.specs.Prelude.{◌≡◌, ℕ, ◌<◌, ◌≤◌, ◌⊎◌, List, [], ◌∷◌, ◌++◌, length, map, false, Result, Ok, Err}
use Rattle.stream_tokens.specs.declared.job_text.JobText.{JobText}
use Rattle.stream_tokens.specs.declared.job_text.TextFault.{TextFault}
use Rattle.stream_tokens.specs.declared.job_text.TextFault.TheVariants as text
use Rattle.stream_tokens.specs.JobTexts.{job_texts_within, version_within}
use Rattle.tables.specs.Table.{NamedColumn}
use Rattle.job_language.specs.declared.fault.Cause.{Cause}
use Rattle.job_language.specs.declared.fault.Cause.TheVariants.{Syntax, TooLong}
use Rattle.job_language.specs.declared.fault.JobFault.{JobFault}
use Rattle.job_language.specs.Causes.{Scope}
use Rattle.job_language.specs.Jobs.{AbstractJob}
use Rattle.job_language.specs.Verdicts.{IsRead, earlier_of}

-- what a job of this version may name that stands below these
abbrev pub scope_below : ℕ → List NamedColumn → List AbstractJob → Scope
scope_below version columns above =
    record { version = version; rows = false; jobs = map earlier_of above; columns = columns }

-- what the next text is read as below these jobs: the 257th is one too many, whatever it says
abbrev pub IsNext : ℕ → List NamedColumn → List AbstractJob → List ℕ → Result AbstractJob Cause → Type 0
IsNext version columns above text r =
    ((256 ≤ length above) × (r ≡ Err TooLong))
    ⊎ ((length above < 256) × IsRead (scope_below version columns above) text r)

-- helper: a cause at the line of its job
abbrev pub fault_at : JobText → Cause → JobFault
fault_at t c = record { line = t.line; cause = c }

-- the texts of a file of this version in order, below these jobs: the first that is refused, at the line that begins
-- it, or all jobs
abbrev pub AreJobsRead : ℕ → List NamedColumn → List AbstractJob → List JobText → Result (List AbstractJob) JobFault
    → Type 0
AreJobsRead version columns above [] r = r ≡ Ok above
AreJobsRead version columns above (t ∷ ts) r =
    ((c : Cause) × IsNext version columns above t.text (Err c) × (r ≡ Err (fault_at t c)))
    ⊎ ((j : AbstractJob) × IsNext version columns above t.text (Ok j)
    × AreJobsRead version columns (above ++ j ∷ []) ts r)

-- helper: the texts that are left, read in order below these jobs; a line that continues no job is refused instead of
-- all of them
abbrev pub AreJobsLeft : ℕ → List NamedColumn → List AbstractJob → Result (List JobText) TextFault
    → Result (List AbstractJob) JobFault → Type 0
AreJobsLeft version columns above (Ok texts) r = AreJobsRead version columns above texts r
AreJobsLeft version columns above (Err (text.Syntax line)) r = r ≡ Err (record { line = line; cause = Syntax })
AreJobsLeft version columns above (Err text.NoMemory) r = ⊥

-- the bytes are a file of these jobs, where the newest version of the language is this
abbrev pub SpellsJobsWithin : ℕ → List ℕ → List NamedColumn → List AbstractJob → Type 0
SpellsJobsWithin newest bytes columns jobs =
    AreJobsLeft (version_within newest bytes) columns [] (job_texts_within newest bytes) (Ok jobs)

-- the bytes are a file of these jobs, where the newest version is 2
abbrev pub SpellsJobs : List ℕ → List NamedColumn → List AbstractJob → Type 0
SpellsJobs bytes columns jobs = SpellsJobsWithin 2 bytes columns jobs

-- the bytes are refused with this fault, where the newest version of the language is this
abbrev pub IsRefusedWithin : ℕ → List ℕ → List NamedColumn → JobFault → Type 0
IsRefusedWithin newest bytes columns fault =
    AreJobsLeft (version_within newest bytes) columns [] (job_texts_within newest bytes) (Err fault)

-- the bytes are refused with this fault, where the newest version is 2
abbrev pub IsRefused : List ℕ → List NamedColumn → JobFault → Type 0
IsRefused bytes columns fault = IsRefusedWithin 2 bytes columns fault
