-- Design: the exit status of the program.
use Rattle.std.specs.Prelude.{ℕ, Result, Ok, Err}
use Rattle.engine.specs.declared.fault.EngineFault.{EngineFault}
use Rattle.engine.specs.declared.fault.EngineFault.TheVariants.{Columns, Jobs, JobsRead, NoMemory, Write}
use Rattle.columns.specs.declared.fault.ColumnFault.{ColumnFault}
use Rattle.columns.specs.declared.fault.ColumnFault.TheVariants as column
use Rattle.job_language.specs.declared.fault.Cause.{Cause}
use Rattle.job_language.specs.declared.fault.Cause.TheVariants as cause

-- of a refused job file: 1, and 3 if memory for its reading was refused
abbrev pub status_of_cause : Cause → ℕ
status_of_cause cause.Syntax = 1
status_of_cause cause.SameName = 1
status_of_cause cause.UnknownColumn = 1
status_of_cause cause.UnknownJob = 1
status_of_cause cause.NotANumber = 1
status_of_cause cause.NotAnArray = 1
status_of_cause cause.NegativeCount = 1
status_of_cause cause.NotIdentity = 1
status_of_cause cause.NoIdentity = 1
status_of_cause cause.OperatorNotListed = 1
status_of_cause cause.BadRange = 1
status_of_cause cause.TooLong = 1
status_of_cause (cause.Expr f) = 1
status_of_cause cause.NoMemory = 3
status_of_cause cause.NotScalar = 1
status_of_cause cause.NoRow = 1

-- of a refused column file: 1, 3 if memory for it was refused, and 4 if a read failed
abbrev pub status_of_columns : ColumnFault → ℕ
status_of_columns column.NoHeader = 1
status_of_columns column.SameName = 1
status_of_columns (column.BadNumber row place) = 1
status_of_columns (column.RowLength row) = 1
status_of_columns column.TooManyColumns = 1
status_of_columns column.Read = 4
status_of_columns column.NoMemory = 3

-- 1 for a refused file, 3 for out of memory, 4 for a file that can't be read or written
abbrev pub status_of : EngineFault → ℕ
status_of (Columns f) = status_of_columns f
status_of (Jobs f) = status_of_cause f.cause
status_of JobsRead = 4
status_of NoMemory = 3
status_of (Write n) = 4

-- after a run: 0 unless it answered a fault
abbrev pub status_after : {A : Type 0} → Result A EngineFault → ℕ
status_after (Ok a) = 0
status_after (Err fault) = status_of fault
