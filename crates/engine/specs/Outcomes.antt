-- Design: what an input gives: a report, or the refusal of one of its files. Of the settings of a run only what they
-- ask for is a part of it.
use Rattle.std.specs.Prelude.{◌≡◌, ℕ, List, [], Option, Some, None, Result, Ok, Err}
use Rattle.columns.specs.declared.fault.ColumnFault.{ColumnFault}
use Rattle.columns.specs.Cells.{cells_of}
use Rattle.tables.specs.Table.{NamedColumn}
use Rattle.job_language.specs.declared.fault.JobFault.{JobFault}
use Rattle.job_language.specs.Files.{IsRefusedWithin}
use Rattle.engine.specs.Run.{Input, IsReport, columns_given}

-- what an input may give
pub data Outcome : Type 0 where
  reports : List ℕ → Outcome
  columns_refused : ColumnFault → Outcome
  jobs_refused : JobFault → Outcome

-- the column file, if there is one, is a table, and the job file is refused for this
pub record HasJobsRefused (input : Input) (f : JobFault) : Type 0 where
  pub columns : List NamedColumn
  pub given : columns_given input ≡ Ok columns
  pub refused : IsRefusedWithin input.asked.newest input.jobs columns f

-- the input, with this newest version of job files
abbrev pub in_language : ℕ → Input → Input
in_language newest input = record input { asked = record input.asked { newest = newest } }

-- the columns of a table of integers, all of which are looked at; without a file there are none
abbrev pub columns_of : Option (List ℕ) → Result (List NamedColumn) ColumnFault
columns_of None = Ok []
columns_of (Some bytes) = cells_of bytes

-- the input gives this
abbrev pub HasOutcome : Input → Outcome → Type 0
HasOutcome input (reports bytes) = IsReport input bytes
HasOutcome input (columns_refused f) = columns_given input ≡ Err f
HasOutcome input (jobs_refused f) = HasJobsRefused input f
