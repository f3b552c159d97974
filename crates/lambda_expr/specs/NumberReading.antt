-- Condition: where the reader of numbers stops.
use Rattle.std.specs.Prelude.{ℕ, Bool, false, is_some, if◌then◌else◌}
use Rattle.lambda_expr.specs.Words.{Word}
use Rattle.lambda_expr.specs.NumberWords.{digits_value, is_dot, is_minus, is_owner, limit_value}

-- the words that end a number
abbrev pub is_digits : Word → Bool
is_digits w = is_some (digits_value false w)

abbrev pub is_limit : Word → Bool
is_limit w = is_some (limit_value w)

-- how many words of a constant stand there, if its first one does
abbrev pub front_of_constant : Word → Word → ℕ
front_of_constant b c = if is_dot b then (if is_limit c then 3 else 2) else 1

-- how many of three words some number begins with; a bad word is one that isn't there
abbrev pub front : Word → Word → Word → ℕ
front a b c =
    if is_digits a then 1
    else (if is_minus a then (if is_digits b then 2 else 1)
    else (if is_owner a then front_of_constant b c else 0))
