-- Meaning: the tokens of a text, cut from left to right, the longest first (JLS 17, 3.2).
use Rattle.std.specs.Prelude.{◌≡◌, ℕ, ◌-◌, ◌<◌, ◌≤◌, true, false, ◌⊎◌, List, [], ◌∷◌, length, take, drop, slice_index}
use Rattle.std.specs.Prelude.{slice_range}
use Rattle.std.specs.List.{list_all}
use Rattle.stream_tokens.specs.declared.token.TokenKind.{TokenKind}
use Rattle.stream_tokens.specs.declared.token.TokenKind.TheVariants.{Bad}
use Rattle.stream_tokens.specs.declared.token.Token.{Token}
use Rattle.stream_tokens.specs.Bytes.{is_blank}
use Rattle.stream_tokens.specs.Forms.{HasForm}

-- the first n bytes have the form of a kind, and no longer front has the form of any
pub record IsLongest (text : List ℕ) (kind : TokenKind) (n : ℕ) : Type 0 where
  pub within : n ≤ length text
  pub form : HasForm kind (take n text)
  pub longest : (other : TokenKind) (m : ℕ) → m ≤ length text → HasForm other (take m text) → m ≤ n

-- the first byte is no blank, and no front has a form: the byte is bad, by itself
pub record IsBadByte (text : List ℕ) (kind : TokenKind) (n : ℕ) : Type 0 where
  pub within : 0 < length text
  pub solid : is_blank (slice_index text 0) ≡ false
  pub formless : (other : TokenKind) (m : ℕ) → m ≤ length text → HasForm other (take m text) → ⊥
  pub bad : kind ≡ Bad
  pub single : n ≡ 1

-- the token at the front of a text is of this kind and has n bytes
abbrev pub IsFirstToken : List ℕ → TokenKind → ℕ → Type 0
IsFirstToken text kind n = IsLongest text kind n ⊎ IsBadByte text kind n

-- helper: the bytes from a up to but not including b are spaces and tabs
abbrev pub AreBlank : List ℕ → ℕ → ℕ → Type 0
AreBlank text a b = list_all is_blank (slice_range text a b) ≡ true

-- helper: the tokens cut the text from place a up to place b, one after the other, with nothing but blanks around them
abbrev pub CutBetween : List ℕ → ℕ → List Token → ℕ → Type 0
CutBetween text a [] b = (a ≤ b) × AreBlank text a b
CutBetween text a (t ∷ ts) b =
    (a ≤ t.from) × AreBlank text a t.from × (t.from < t.to) × IsFirstToken (drop t.from text) t.kind (t.to - t.from)
    × CutBetween text t.to ts b

-- the tokens of a text
abbrev pub AreTokensOf : List Token → List ℕ → Type 0
AreTokensOf tokens text = CutBetween text 0 tokens (length text)

-- the bytes of a token in its text
abbrev pub token_text : List ℕ → Token → List ℕ
token_text text t = slice_range text t.from t.to

-- each token has a byte at least, and ends before the next one begins; all stand from place a up to place b
abbrev pub StandInOrder : ℕ → List Token → ℕ → Type 0
StandInOrder a [] b = a ≤ b
StandInOrder a (t ∷ ts) b = (a ≤ t.from) × (t.from < t.to) × StandInOrder t.to ts b
