-- Condition: how a table is read, in memory, and what its rows are read by.
use Rattle.std.specs.Prelude.{◌≡◌, ◌≢◌, ◌<◌, [], ◌∷◌, ℕ, List, Result, Ok, Err, MatchResult, length, map, take}
use Rattle.std.specs.List.{filter}
use Rattle.std.specs.Str.{bytes_eq}
use Rattle.csv.specs.Reading.{records, strip_bom}
use Rattle.run_settings.specs.TableSettings.{byte_of}
use Rattle.columns.specs.declared.fault.ColumnFault.{ColumnFault}
use Rattle.columns.specs.declared.fault.ColumnFault.TheVariants.{Read, NoMemory}
use Rattle.columns.specs.declared.layout.Layout.{Layout}
use Rattle.columns.specs.declared.layout.Look.{Look}
use Rattle.columns.specs.declared.layout.Look.TheVariants as look
use Rattle.columns.specs.declared.layout.TableForm.{TableForm}
use Rattle.tables.specs.Table.{NamedColumn}
use Rattle.columns.specs.TableForms.{AbstractForm, cells_by, config_of, looks_of}
use Rattle.columns.specs.TextRows.{AreReadIn, IsSeparator, look_count}

-- the form that a form in memory is
abbrev pub form_of : TableForm → AbstractForm
form_of f = record {
  separator = byte_of f.separator;
  is_all = f.is_all;
  names = map (λ name. name.items) f.names.items;
  blank = f.blank;
}

-- the records of the bytes with a separator, one byte order mark at the start skipped
abbrev pub records_in : ℕ → List ℕ → List (List (List ℕ))
records_in s bytes = records (config_of s) (strip_bom bytes)

-- the answer follows from the bytes in a form, or says that a read failed or that memory was refused
abbrev pub IsAnswerBy : AbstractForm → List ℕ → Result (List NamedColumn) ColumnFault → Type 0
IsAnswerBy form bytes answer =
    MatchResult answer (λ columns. cells_by form bytes ≡ Ok columns)
    (λ fault. fault ≢ Read → fault ≢ NoMemory → cells_by form bytes ≡ Err fault)

-- the keys that begin with a name
abbrev pub begun_by : List ℕ → List (List ℕ) → List (List ℕ)
begun_by name keys = filter (λ key. bytes_eq name (take (length name) key)) keys

-- the numbers of decimal places of a look at a column
abbrev pub places_in : Look → List ℕ
places_in look.Other = []
places_in look.Integers = 0 ∷ []
places_in (look.Decimals places) = places.items

-- how each column of the header is looked at
abbrev pub looks_in : Layout → List (List ℕ)
looks_in l = map places_in l.looks.items

-- rows under a header are read by this layout
pub record IsLayout (form : AbstractForm) (l : Layout) (header : List (List ℕ)) : Type 0 where
  pub separator : l.separator ≡ form.separator
  pub blank : l.blank ≡ form.blank
  pub looks : looks_in l ≡ map (looks_of form) header

-- rows can be read by a layout under this many columns
pub record Fits (l : Layout) (width : ℕ) : Type 0 where
  pub separator : IsSeparator l.separator
  pub some_cell : 0 < length (looks_in l)
  pub some_column : 0 < width
  pub wide : look_count (looks_in l) ≡ width

-- from a record's start at xs to one at ys there are rows without a fault, which put the columns from `before` to
-- `after`
abbrev pub AreReadBy : Layout → List ℕ → List ℕ → List NamedColumn → List NamedColumn → Type 0
AreReadBy l xs ys before after = AreReadIn l.separator l.blank (looks_in l) xs ys before after
