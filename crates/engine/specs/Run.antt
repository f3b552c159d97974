-- Meaning: what a run writes, from the bytes of both files to the bytes of the report. Read this first.
--   bytes of the column file → columns       columns/specs/Cells, Table, Refusals
--   bytes of the job file    → texts of jobs    stream_tokens/specs/JobTexts, Tokens
--   texts of jobs            → jobs          job_language/specs/Files, Verdicts, Grammar, Table
--     their lambdas                          lambda_expr/specs/Grammar, Refusals
--   jobs                     → answers       job_meaning/specs/FileAnswers, Names, Walks
--     their walks                            trace/specs/Cover, Stages, Trace, Stops
--     slices, prefixes, finds                slice_ops/specs/Slices, prefix_scan/specs/Prefixes, find_ops/specs/Finds
--     folds                                  reduce_ops/specs/Folds, Operators, ExactSums
--     values of lambdas                      lambda_values/specs/Value, Operators, Streams
--   answers                  → bytes of report    report/specs/Text, Json
--     an answer in both forms                report/specs/AnswerForms
--   these steps, one after the other       report/specs/Reports
-- Reports of small files, worked out: report/specs/Worked.
use Rattle.std.specs.Prelude.{◌≡◌, ◌≢◌, ℕ, ◌<◌, false, List, length, take, Option, Some, None, Ok, Err}
use Rattle.std.specs.Io.KnownBytes.{Appends, Keeps}
use Rattle.columns.specs.declared.fault.ColumnFault.{ColumnFault}
use Rattle.columns.specs.declared.fault.ColumnFault.TheVariants as column
use Rattle.columns.specs.TableForms.{AbstractForm, cells_by}
use Rattle.tables.specs.Table.{NamedColumn}
use Rattle.job_language.specs.declared.fault.Cause.TheVariants as cause
use Rattle.job_language.specs.declared.fault.JobFault.{JobFault}
use Rattle.job_language.specs.Files.{IsRefusedWithin}
use Rattle.engine.specs.declared.fault.EngineFault.{EngineFault}
use Rattle.engine.specs.declared.fault.EngineFault.TheVariants.{Columns, Jobs, JobsRead, NoMemory, Write}
pub use Rattle.report.specs.Reports.{Input, IsReport, columns_by, columns_given, form_for, form_with, names_for}
pub use Rattle.report.specs.Reports.{reads_by_jobs, report_in}

-- a writer that held these bytes before and those after took the report and nothing else
abbrev pub Reported : Input → Option (List ℕ) → Option (List ℕ) → Type 0
Reported input before after = (report : List ℕ) × IsReport input report × Appends before after report

-- a column file is refused in a form for just this, unless a read failed or memory ran out; without a file nothing is
-- refused
abbrev pub IsColumnFault : AbstractForm → Option (List ℕ) → ColumnFault → Type 0
IsColumnFault form None f = ⊥
IsColumnFault form (Some bytes) f = f ≢ column.Read → f ≢ column.NoMemory → cells_by form bytes ≡ Err f

-- the column file, if there is one, is a table: a fault of the job file comes after every fault of the column file
abbrev pub HasColumns : Input → Type 0
HasColumns input = (columns : List NamedColumn) × (columns_given input ≡ Ok columns)

-- the job file is refused for just this, unless memory ran out
pub record IsJobFault (input : Input) (f : JobFault) : Type 0 where
  pub columns : List NamedColumn
  pub given : columns_given input ≡ Ok columns
  pub refused : f.cause ≢ cause.NoMemory → IsRefusedWithin input.asked.newest input.jobs columns f
  pub memory : f.cause ≡ cause.NoMemory → f.line ≡ 0

-- what a fault other than a failed write says of the input; the job file is read first if how the column file is read
-- depends on it
abbrev pub Says : Input → EngineFault → Type 0
Says input (Columns f) = IsColumnFault (form_for input.asked input.jobs) input.columns f
Says input (Jobs f) = IsJobFault input f
Says input JobsRead = reads_by_jobs input.asked ≡ false → HasColumns input
Says input NoMemory = reads_by_jobs input.asked ≡ false → HasColumns input
Says input (Write n) = ⊥

-- what a fault says of the input, and what the writer then holds: after a failed write the first bytes of the report
-- went out and no others; otherwise nothing was written
abbrev pub Faulted : Input → Option (List ℕ) → Option (List ℕ) → EngineFault → Type 0
Faulted input before after (Write n) = (report : List ℕ) × IsReport input report × (n < length report)
    × Appends before after (take n report)
Faulted input before after fault = Says input fault × Keeps before after
