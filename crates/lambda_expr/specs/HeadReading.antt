-- Condition: how heads are read.
use Rattle.std.specs.Prelude.{◌≡◌, ◌≢◌, ℕ, zero, suc, max, nat_eq, if◌then◌else◌, List, [], ◌∷◌, length, Result, Ok}
use Rattle.std.specs.Prelude.{Err, Some}
use Rattle.lambda_expr.specs.declared.head.HeadMark.{HeadMark}
use Rattle.lambda_expr.specs.declared.lexeme.Lexeme.{Lexeme}
use Rattle.lambda_expr.specs.Heads.{mark_of}

-- the number of words, from the first on, that are what their marks want
abbrev pub IsMatched : List HeadMark → List Lexeme → ℕ → Type 0
IsMatched [] ws n = n ≡ 0
IsMatched (m ∷ ms) [] n = n ≡ 0
IsMatched (m ∷ ms) (w ∷ ws) zero = mark_of w ≢ Some m
IsMatched (m ∷ ms) (w ∷ ws) (suc n) = (mark_of w ≡ Some m) × IsMatched ms ws n

abbrev pub further : ℕ → Result ℕ ℕ → Result ℕ ℕ
further n (Ok k) = Ok k
further n (Err k) = Err (max n k)

-- the length of a pattern if all of it matched, else what others give, at least as far
abbrev pub first_of : ℕ → ℕ → Result ℕ ℕ → Result ℕ ℕ
first_of size n other = if nat_eq n size then Ok n else further n other

abbrev pub IsTried : List HeadMark → List Lexeme → Result ℕ ℕ → Result ℕ ℕ → Type 0
IsTried p ws other r = (n : ℕ) × IsMatched p ws n × (r ≡ first_of (length p) n other)

-- the length of the pattern that the words begin with, or how far they match one of these patterns
abbrev pub AreTried : List (List HeadMark) → List Lexeme → Result ℕ ℕ → Type 0
AreTried [] ws r = r ≡ Err 0
AreTried (p ∷ ps) ws r = (other : Result ℕ ℕ) × IsTried p ws other r × AreTried ps ws other
