-- Meaning: which words are a number, and its value.
use Rattle.std.specs.Prelude.{ℕ, ◌^◌, ℤ, pos, negsuc, neg_ℤ, Bool, true, false, nat_lt, ◌&&◌, if◌then◌else◌, List, []}
use Rattle.std.specs.Prelude.{◌∷◌, codes, Option, Some, None, is_some, option_and_then}
use Rattle.stream_tokens.specs.declared.symbol.Symbol.TheVariants as symbol
use Rattle.lambda_expr.specs.Members.{is_named}
use Rattle.lambda_expr.specs.Words.{Word, named, numeral, sign}
use Rattle.lambda_expr.specs.Numerals.{is_numeral, numeral_value}

-- helper: a minus
abbrev pub is_minus : Word → Bool
is_minus (sign symbol.Minus) = true
is_minus w = false

-- helper: the class that the constants are of
abbrev pub is_owner : Word → Bool
is_owner (named w) = is_named w (codes "Long")
is_owner w = false

-- helper: a dot
abbrev pub is_dot : Word → Bool
is_dot (sign symbol.Dot) = true
is_dot w = false

-- helper: an integer, after a minus or without one
abbrev pub signed : Bool → ℕ → ℤ
signed true n = neg_ℤ (pos n)
signed false n = pos n

-- the value of digits that may stand in a grammar, after a minus or without one
abbrev pub digits_value : Bool → Word → Option ℤ
digits_value minus (numeral w) = if is_numeral w then Some (signed minus (numeral_value w)) else None
digits_value minus w = None

-- the value of `MAX_VALUE` and of `MIN_VALUE`
abbrev pub limit_value : Word → Option ℤ
limit_value (named w) =
    if is_named w (codes "MAX_VALUE") then Some (pos 9223372036854775807)
    else (if is_named w (codes "MIN_VALUE") then Some (negsuc 9223372036854775807) else None)
limit_value w = None

-- the value of a number, without bound: digits, a minus and digits, `Long.MAX_VALUE` or `Long.MIN_VALUE`
-- (JLS 17, 3.10.1 and 15.15.4); other words have none
abbrev pub number_value : List Word → Option ℤ
number_value (w ∷ []) = digits_value false w
number_value (m ∷ w ∷ []) = if is_minus m then digits_value true w else None
number_value (o ∷ d ∷ w ∷ []) = if is_owner o && is_dot d then limit_value w else None
number_value ws = None

-- whether words are a number
abbrev pub is_number : List Word → Bool
is_number ws = is_some (number_value ws)

-- an integer, if it has 64 bits
abbrev pub in_64_bits : ℤ → Option ℤ
in_64_bits (pos n) = if nat_lt n (2 ^ 63) then Some (pos n) else None
in_64_bits (negsuc n) = if nat_lt n (2 ^ 63) then Some (negsuc n) else None

-- the value of a number, if it has 64 bits
abbrev pub number_read : List Word → Option ℤ
number_read ws = option_and_then in_64_bits (number_value ws)
