-- Meaning: the grammar of a cell that is looked at with decimal places, its number as a function, and the cell of
-- integers that it is read as.
use Rattle.std.specs.Prelude.{◌≡◌, ◌≢◌, ◌≤◌, ◌-◌, ◌*◌, ◌^◌, ◌==◌, ◌++◌, [], ◌∷◌, ℕ, ℤ, zero, suc, pos, neg_ℤ, List}
use Rattle.std.specs.Prelude.{Option, Some, None, true, length, nat_le, if◌then◌else◌, FitsSigned}
use Rattle.std.specs.Int.{w64}
use Rattle.std.specs.Fmt.{signed_decimal}
use Rattle.std.specs.List.{list_all}
use Rattle.std.specs.Char.{is_ascii_digit}
use Rattle.columns.specs.Cell.{IsSigned, digits_value, is_blank}
use Rattle.columns.specs.Number.{minus_sign, plus_sign, signed_digits, trimmed}

-- helper: `.` in ASCII
abbrev pub point : ℕ
point = 46

-- helper: digits before a point, the point, and digits after it; without the point if there are none after it
abbrev pub pointed : List ℕ → List ℕ → List ℕ
pointed whole [] = whole
pointed whole (d ∷ fraction) = whole ++ point ∷ d ∷ fraction

-- a cell spells a number with p decimal places: blanks, a sign or none, digits, then nothing or a point and at most p
-- digits, and blanks; one digit or more in all. n is this number times 10^p, and lies between -2^63 and 2^63 - 1
pub record SpellsDecimal (p : ℕ) (cell : List ℕ) (n : ℤ) : Type 0 where
  pub before : List ℕ
  pub sign : List ℕ
  pub whole : List ℕ
  pub fraction : List ℕ
  pub after : List ℕ
  pub text : cell ≡ before ++ (sign ++ (pointed whole fraction ++ after))
  pub blank_before : list_all is_blank before ≡ true
  pub blank_after : list_all is_blank after ≡ true
  pub some_digit : whole ++ fraction ≢ []
  pub all_digits : list_all is_ascii_digit (whole ++ fraction) ≡ true
  pub few : length fraction ≤ p
  pub value : IsSigned sign (digits_value (whole ++ fraction) * 10 ^ (p - length fraction)) n
  pub fits : FitsSigned w64 n

-- helper: this many zeros in ASCII
abbrev pub zeros : ℕ → List ℕ
zeros zero = []
zeros (suc k) = 48 ∷ zeros k

-- helper: the bytes of a text before its first point
abbrev pub before_point : List ℕ → List ℕ
before_point [] = []
before_point (b ∷ bs) = if b == point then [] else b ∷ before_point bs

-- helper: the bytes of a text from its first point on
abbrev pub from_point : List ℕ → List ℕ
from_point [] = []
from_point (b ∷ bs) = if b == point then b ∷ bs else from_point bs

-- helper: what stands before a point, and what stands from the point on, as digits of which p stand after the point;
-- no digits if none stands there, none after the point, or more than p after it
abbrev pub moved : ℕ → List ℕ → List ℕ → List ℕ
moved p [] [] = []
moved p [] (b ∷ whole) = (b ∷ whole) ++ zeros p
moved p (c ∷ []) whole = []
moved p (c ∷ d ∷ fraction) whole =
    if nat_le (length (d ∷ fraction)) p then whole ++ ((d ∷ fraction) ++ zeros (p - length (d ∷ fraction))) else []

-- helper: the digits of a text without a sign, with the point moved p places to the right
abbrev pub digits_with : ℕ → List ℕ → List ℕ
digits_with p text = moved p (from_point text) (before_point text)

-- helper: the number with p decimal places that a text without blanks around it spells, times 10^p
abbrev pub signed_with : ℕ → List ℕ → Option ℤ
signed_with p [] = None
signed_with p (b ∷ rest) =
    if b == minus_sign then signed_digits (λ m. neg_ℤ (pos m)) (digits_with p rest)
    else if b == plus_sign then signed_digits pos (digits_with p rest)
    else signed_digits pos (digits_with p (b ∷ rest))

-- the number with p decimal places that a cell spells, times 10^p, or none
unfoldable pub decimal_of : ℕ → List ℕ → Option ℤ
decimal_of p cell = signed_with p (trimmed cell)

-- helper: a number written out, or a cell that spells none
abbrev pub written : Option ℤ → List ℕ
written None = []
written (Some n) = signed_decimal n

-- the cell of integers that a cell is read as which is looked at with p decimal places: itself without any
abbrev pub scaled : ℕ → List ℕ → List ℕ
scaled zero cell = cell
scaled (suc p) cell = written (decimal_of (suc p) cell)
