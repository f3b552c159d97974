-- Condition: which symbol the scanner takes, by the bytes at the front of a text.
use Rattle.std.specs.Prelude.{ℕ, ◌==◌, ◌&&◌, nat_eq, List, codes, slice_index, slice_get, if◌then◌else◌, Option, Some}
use Rattle.std.specs.Prelude.{None}
use Rattle.std.specs.List.{starts_with}
use Rattle.stream_tokens.specs.declared.symbol.Symbol.{Symbol}
use Rattle.stream_tokens.specs.declared.symbol.Symbol.TheVariants as symbol

-- the symbol of two bytes
abbrev pub pair_of : ℕ → ℕ → Option Symbol
pair_of a b =
    if (a == 45) && (b == 62) then Some symbol.Arrow
    else (if (a == 58) && (b == 58) then Some symbol.DoubleColon
    else (if (a == 60) && (b == 60) then Some symbol.ShiftLeft
    else (if (a == 62) && (b == 62) then Some symbol.ShiftRight
    else (if (a == 60) && (b == 61) then Some symbol.LessOrEqual
    else (if (a == 62) && (b == 61) then Some symbol.GreaterOrEqual
    else (if (a == 61) && (b == 61) then Some symbol.Equal
    else (if (a == 33) && (b == 61) then Some symbol.NotEqual
    else (if (a == 38) && (b == 38) then Some symbol.AndAnd
    else (if (a == 124) && (b == 124) then Some symbol.OrOr
    else (if (a == 43) && (b == 43) then Some symbol.PlusPlus
    else (if (a == 45) && (b == 45) then Some symbol.MinusMinus
    else None)))))))))))

-- the symbol of one byte
abbrev pub single_of : ℕ → Option Symbol
single_of a =
    if a == 40 then Some symbol.Open
    else (if a == 41 then Some symbol.Close
    else (if a == 44 then Some symbol.Comma
    else (if a == 46 then Some symbol.Dot
    else (if a == 59 then Some symbol.Semicolon
    else (if a == 61 then Some symbol.Assign
    else (if a == 60 then Some symbol.Less
    else (if a == 62 then Some symbol.Greater
    else (if a == 43 then Some symbol.Plus
    else (if a == 45 then Some symbol.Minus
    else (if a == 42 then Some symbol.Star
    else (if a == 47 then Some symbol.Slash
    else (if a == 37 then Some symbol.Percent
    else (if a == 38 then Some symbol.And
    else (if a == 124 then Some symbol.Or
    else (if a == 94 then Some symbol.Xor
    else (if a == 126 then Some symbol.Tilde
    else (if a == 33 then Some symbol.Bang
    else (if a == 63 then Some symbol.Question
    else (if a == 58 then Some symbol.Colon
    else None)))))))))))))))))))

-- the first of two that is there
abbrev pub either : Option Symbol → Option Symbol → Option Symbol
either None b = b
either (Some s) b = Some s

-- the symbol of the first two bytes
abbrev pub pair_with : ℕ → Option ℕ → Option Symbol
pair_with a None = None
pair_with a (Some b) = pair_of a b

-- the symbol at the front of a text: of three bytes, else of two, else of one
abbrev pub symbol_at : List ℕ → Option Symbol
symbol_at text =
    if starts_with nat_eq text (codes ">>>") then Some symbol.ShiftRightUnsigned
    else either (pair_with (slice_index text 0) (slice_get text 1)) (single_of (slice_index text 0))
