-- Meaning: what the names in lambdas stand for: the numbers of earlier jobs, and the columns whose rows the items are.
use Rattle.std.specs.Prelude.{ℕ, ℤ, pos, nat_eq, if◌then◌else◌, List, [], ◌∷◌, Option, Some, None, slice_index_or}
use denote.Ref.{Bor}
use Rattle.std.specs.Cmp.Lexicographic.{pointwise}
use Rattle.tables.specs.Table.{NamedColumn}
use Rattle.lambda_values.specs.declared.env.NamedNumber.{NamedNumber}

-- the numbers under the `$` names of lambdas, and the table whose columns `cell` names; without columns if the items
-- are
-- no rows
pub record Numbers : Type 0 where
  pub earlier : List NamedNumber
  pub table : List NamedColumn

-- nothing under any name
abbrev pub nothing_named : Numbers
nothing_named = record { earlier = []; table = [] }

-- the first number under a name, if there is one
abbrev pub number_under : List ℕ → List NamedNumber → Option ℤ
number_under name [] = None
number_under name (n ∷ ns) = if pointwise nat_eq n.name name then Some n.number else number_under name ns

-- the cell of a row in a column; 0 if there is none
abbrev pub cell_at : ℕ → Option (List ℤ) → ℤ
cell_at row None = pos 0
cell_at row (Some cells) = slice_index_or cells row (pos 0)

-- helper: a table that may be missing
abbrev pub table_in : Option (Bor (List NamedColumn)) → List NamedColumn
table_in None = []
table_in (Some t) = t.now
