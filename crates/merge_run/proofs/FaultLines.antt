-- The line of a fault that is about a file.
use Rattle.std.proofs.Common.{◌≡◌, ℕ, List, [], ◌∷◌, ◌++◌, append_assoc, sym}
use Rattle.std.specs.Prelude.{codes}
use Rattle.merge_run.specs.FaultTexts.{of_file}

pub line_of_file : (path text : List ℕ) → path ++ (codes ": " ++ (text ++ 10 ∷ [])) ≡ of_file path text ++ 10 ∷ []
line_of_file path text = sym (append_assoc path (codes ": " ++ text) (10 ∷ []))
