-- Meaning: the grammar of a cell of a column file, and the number that it spells.
use Rattle.std.specs.Prelude.{◌≡◌, ◌≢◌, ◌+◌, ◌*◌, ◌-◌, ◌⊎◌, ◌++◌, [], ◌||◌, ◌==◌, ℕ, ℤ, pos, neg_ℤ, Bool, true, List}
use Rattle.std.specs.Prelude.{codes, fold, FitsSigned}
use Rattle.std.specs.Int.{w64}
use Rattle.std.specs.List.{list_all}
use Rattle.std.specs.Char.{is_ascii_digit}

-- helper: a blank is a space or a tab
abbrev pub is_blank : ℕ → Bool
is_blank b = (b == 32) || (b == 9)

-- what decimal digits are worth, the first one most; zeros in front are worth nothing
abbrev pub digits_value : List ℕ → ℕ
digits_value digits = fold (λ n d. 10 * n + (d - 48)) 0 digits

-- with no sign or a + before it a magnitude is itself, with a - its opposite
abbrev pub IsSigned : List ℕ → ℕ → ℤ → Type 0
IsSigned sign m n =
    ((sign ≡ []) × (n ≡ pos m)) ⊎ ((sign ≡ codes "+") × (n ≡ pos m)) ⊎ ((sign ≡ codes "-") × (n ≡ neg_ℤ (pos m)))

-- a cell spells a number: blanks, a sign or none, one digit or more, blanks, and the number lies between -2^63 and 2^63
-- - 1
pub record SpellsCell (cell : List ℕ) (n : ℤ) : Type 0 where
  pub before : List ℕ
  pub sign : List ℕ
  pub digits : List ℕ
  pub after : List ℕ
  pub text : cell ≡ before ++ (sign ++ (digits ++ after))
  pub blank_before : list_all is_blank before ≡ true
  pub blank_after : list_all is_blank after ≡ true
  pub some_digit : digits ≢ []
  pub all_digits : list_all is_ascii_digit digits ≡ true
  pub value : IsSigned sign (digits_value digits) n
  pub fits : FitsSigned w64 n
