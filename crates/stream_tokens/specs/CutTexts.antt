-- Meaning: a text with its tokens, and the part of it between two of them.
use Rattle.std.specs.Prelude.{ℕ, zero, suc, ◌-◌, ◌+◌, List, [], ◌∷◌, length, slice_range}
use Rattle.stream_tokens.specs.declared.token.Token.{Token}

-- a text and its tokens
pub record TokenizedText : Type 0 where
  pub bytes : List ℕ
  pub tokens : List Token

-- tokens with their positions counted from position a
abbrev pub shifted : ℕ → List Token → List Token
shifted a [] = []
shifted a (t ∷ ts) = record { kind = t.kind; from = t.from - a; to = t.to - a } ∷ shifted a ts

-- where token n begins, as a byte position from 1; after the last token, one past the end of the text
abbrev pub column : List ℕ → List Token → ℕ → ℕ
column text [] n = suc (length text)
column text (t ∷ ts) zero = suc t.from
column text (t ∷ ts) (suc n) = column text ts n

-- the part with the bytes from a up to, not with, b, and the tokens from i up to, not with, j
abbrev pub part : TokenizedText → ℕ → ℕ → ℕ → ℕ → TokenizedText
part t a b i j = record { bytes = slice_range t.bytes a b; tokens = shifted a (slice_range t.tokens i j) }

-- the part between two tokens, without either
abbrev pub between : TokenizedText → Token → Token → ℕ → ℕ → TokenizedText
between t o c i j = part t o.to c.from (i + 1) j
