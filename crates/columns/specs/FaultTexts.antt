-- Design: what a message says of a refused column file.
use Rattle.std.specs.Prelude.{ℕ, ◌++◌, List, codes, decimal}
use Rattle.columns.specs.declared.fault.ColumnFault.{ColumnFault}
use Rattle.columns.specs.declared.fault.ColumnFault.TheVariants as column

-- the bytes of the message
abbrev pub fault_text : ColumnFault → List ℕ
fault_text column.NoHeader = codes "columns: no header"
fault_text column.SameName = codes "columns: same name"
fault_text (column.BadNumber row place) =
    codes "columns: bad number in row " ++ (decimal row ++ (codes " column " ++ decimal place))
fault_text (column.RowLength row) = codes "columns: wrong length of row " ++ decimal row
fault_text column.TooManyColumns = codes "columns: more than 256 columns"
fault_text column.Read = codes "columns: read failed"
fault_text column.NoMemory = codes "out of memory"
