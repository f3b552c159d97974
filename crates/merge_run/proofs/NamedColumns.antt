-- The columns of names, without cells.
use Rattle.std.proofs.Common.{◌≡◌, ℕ, List, [], ◌∷◌, refl, ap}
use Rattle.std.specs.Prelude.{map}
use Rattle.tables.specs.Table.{NamedColumn, bare}

pub bare_columns : {N : Type 0} (name_of : N → List ℕ) (names : List N)
    → map (λ name. bare (name_of name)) names ≡ map bare (map name_of names)
bare_columns name_of [] = refl
bare_columns name_of (name ∷ names) = ap (λ (columns : List NamedColumn). bare (name_of name) ∷ columns)
    (bare_columns name_of names)
