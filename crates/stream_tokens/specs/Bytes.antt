-- Meaning: the kinds of bytes that tokens are made of.
use Rattle.std.specs.Prelude.{ℕ, Bool, ◌==◌, ◌||◌}
use Rattle.std.specs.Char.{is_ascii_alphabetic, is_ascii_alphanumeric}

-- a space or a tab
abbrev pub is_blank : ℕ → Bool
is_blank b = (b == 32) || (b == 9)

-- an ASCII letter or `_`
abbrev pub is_name_start : ℕ → Bool
is_name_start b = is_ascii_alphabetic b || (b == 95)

-- an ASCII letter, a digit or `_`
abbrev pub is_name_byte : ℕ → Bool
is_name_byte b = is_ascii_alphanumeric b || (b == 95)

-- `L` or `l`
abbrev pub is_long_mark : ℕ → Bool
is_long_mark b = (b == 76) || (b == 108)

-- a quote, a backslash, CR or LF
abbrev pub ends_text : ℕ → Bool
ends_text b = (b == 34) || (b == 92) || (b == 13) || (b == 10)
