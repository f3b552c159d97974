-- Meaning: integers as they are written.
use Rattle.std.specs.Prelude.{ℕ, ◌+◌, ◌-◌, ◌*◌, Bool, true, false, not, ◌==◌, ◌&&◌, List, [], ◌∷◌, take_while, fold}
use Rattle.std.specs.Char.{is_ascii_digit}

-- helper: the number that digits write, after a number that was read before them
abbrev pub read_on : ℕ → List ℕ → ℕ
read_on n ds = fold (λ n d. 10 * n + (d - 48)) n ds

-- the value of a number: of its digits, without the mark `L` or `l` after them (JLS 17, 3.10.1)
abbrev pub numeral_value : List ℕ → ℕ
numeral_value w = read_on 0 (take_while is_ascii_digit w)

-- a number that may stand in a grammar: not one of two or more digits that begins with 0, which are octal in
-- JLS 17, 3.10.1
abbrev pub is_numeral : List ℕ → Bool
is_numeral [] = false
is_numeral (a ∷ []) = true
is_numeral (a ∷ b ∷ w) = not ((a == 48) && is_ascii_digit b)
