-- Meaning: the number of a cell as a function; the contract of `read_cell` says that it is the one of the grammar.
use Rattle.std.specs.Prelude.{◌^◌, [], ◌∷◌, ◌&&◌, ◌==◌, ℕ, ℤ, pos, negsuc, neg_ℤ, List, Option, Some, None, length}
use Rattle.std.specs.Prelude.{reverse, nat_lt, if◌then◌else◌}
use Rattle.std.specs.List.{list_all}
use Rattle.std.specs.Char.{is_ascii_digit}
use Rattle.columns.specs.Cell.{digits_value, is_blank}

-- helper: a text without the blanks at its start
abbrev pub drop_blanks : List ℕ → List ℕ
drop_blanks [] = []
drop_blanks (b ∷ bs) = if is_blank b then drop_blanks bs else b ∷ bs

-- helper: a number, if it lies between -2^63 and 2^63 - 1
abbrev pub in_range : ℤ → Option ℤ
in_range (pos m) = if nat_lt m (2 ^ 63) then Some (pos m) else None
in_range (negsuc m) = if nat_lt m (2 ^ 63) then Some (negsuc m) else None

-- helper: the number that one digit or more spell after a sign
abbrev pub signed_digits : (ℕ → ℤ) → List ℕ → Option ℤ
signed_digits sign digits =
    if nat_lt 0 (length digits) && list_all is_ascii_digit digits then in_range (sign (digits_value digits)) else None

-- helper: `-` in ASCII
abbrev pub minus_sign : ℕ
minus_sign = 45

-- helper: `+` in ASCII
abbrev pub plus_sign : ℕ
plus_sign = 43

-- helper: the number that a text without blanks around it spells: a sign or none, and digits
abbrev pub signed_number : List ℕ → Option ℤ
signed_number [] = None
signed_number (b ∷ rest) =
    if b == minus_sign then signed_digits (λ m. neg_ℤ (pos m)) rest
    else if b == plus_sign then signed_digits pos rest
    else signed_digits pos (b ∷ rest)

-- helper: a text without the blanks at its start and at its end
abbrev pub trimmed : List ℕ → List ℕ
trimmed text = reverse (drop_blanks (reverse (drop_blanks text)))

-- the number that a cell spells, or none
unfoldable pub number_of : List ℕ → Option ℤ
number_of cell = signed_number (trimmed cell)
