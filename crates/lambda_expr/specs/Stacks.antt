-- Condition: a stack as a list whose first element is the top one.
use Rattle.std.specs.Prelude.{List, [], ◌∷◌, ◌++◌}

-- the elements of a vector whose last one is the top
abbrev pub stacked : {A : Type 0} → List A → List A
stacked [] = []
stacked (a ∷ rest) = stacked rest ++ a ∷ []

abbrev pub top_or : {A : Type 0} → A → List A → A
top_or d [] = d
top_or d (a ∷ rest) = a

abbrev pub below : {A : Type 0} → List A → List A
below [] = []
below (a ∷ rest) = rest
