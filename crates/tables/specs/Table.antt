-- Meaning: the columns of a table, each a name and the numbers under it.
use Rattle.std.specs.Prelude.{ℕ, ℤ, List, [], Option, option_map}
use Rattle.std.specs.List.{find}
use Rattle.std.specs.Str.{bytes_eq}

-- a column: its name, and its numbers from the top
pub record NamedColumn : Type 0 where
  pub name : List ℕ
  pub cells : List ℤ

-- a column without rows
abbrev pub bare : List ℕ → NamedColumn
bare name = record { name = name; cells = [] }

-- the numbers under a name
abbrev pub cells_named : List ℕ → List NamedColumn → Option (List ℤ)
cells_named name columns = option_map (λ c. c.cells) (find (λ c. bytes_eq c.name name) columns)
