-- Design: what the bytes of a table of integers say, with commas and all its columns.
use Rattle.std.specs.Prelude.{◌≡◌, ◌≢◌, ℕ, List, Result, Ok, Err, MatchResult}
use Rattle.csv.specs.Reading.{default_config, records, strip_bom}
use Rattle.columns.specs.declared.fault.ColumnFault.{ColumnFault}
use Rattle.columns.specs.declared.fault.ColumnFault.TheVariants.{Read, NoMemory}
use Rattle.columns.specs.Table.{table_of}
use Rattle.tables.specs.Table.{NamedColumn}

-- the records of the bytes, as `csv` defines them with its defaults, one byte order mark at the start skipped
abbrev pub records_of : List ℕ → List (List (List ℕ))
records_of bytes = records default_config (strip_bom bytes)

-- the columns that the bytes of a file give, or the first reason why they give none
abbrev pub cells_of : List ℕ → Result (List NamedColumn) ColumnFault
cells_of bytes = table_of (records_of bytes)

-- the answer follows from the bytes, or says that a read failed or that memory was refused
abbrev pub IsAnswerTo : List ℕ → Result (List NamedColumn) ColumnFault → Type 0
IsAnswerTo bytes answer =
    MatchResult answer (λ columns. cells_of bytes ≡ Ok columns)
    (λ fault. fault ≢ Read → fault ≢ NoMemory → cells_of bytes ≡ Err fault)
