-- Meaning: how a column file is read.
use Rattle.std.specs.Prelude.{ℕ, false, None}
use Rattle.run_settings.specs.declared.table.Separator.{Separator}
use Rattle.run_settings.specs.declared.table.Separator.TheVariants as separator
use Rattle.run_settings.specs.declared.table.TableSetting.{TableSetting}

-- the byte of a separator
abbrev pub byte_of : Separator → ℕ
byte_of separator.Comma = 44
byte_of separator.Semicolon = 59
byte_of separator.Bar = 124
byte_of separator.Tab = 9

-- a table of integers with commas, all of whose columns are looked at
abbrev pub integers : TableSetting
integers = record { separator = separator.Comma; only_named = false; blank = None }
