-- Meaning: the forms of tokens, as in Java for ASCII (JLS 17, 3.8 to 3.12), but for what each line says.
use Rattle.std.specs.Prelude.{◌≡◌, ℕ, ◌<◌, true, not, List, [], ◌∷◌, ◌++◌, length}
use Rattle.std.specs.List.{list_all}
use Rattle.std.specs.Char.{is_ascii_digit}
use Rattle.stream_tokens.specs.declared.token.TokenKind.{TokenKind}
use Rattle.stream_tokens.specs.declared.token.TokenKind.TheVariants.{Name, Number, String, Reference, Symbol, Bad}
use Rattle.stream_tokens.specs.Bytes.{is_name_start, is_name_byte, is_long_mark, ends_text}
use Rattle.stream_tokens.specs.Symbols.{spelling_of}

-- a letter or `_`, then letters, digits and `_` (JLS 17, 3.8; no name has a `$`)
abbrev pub IsName : List ℕ → Type 0
IsName [] = ⊥
IsName (b ∷ bs) = (is_name_start b ≡ true) × (list_all is_name_byte bs ≡ true)

-- helper: nothing, or one `L` or `l`
abbrev pub IsMark : List ℕ → Type 0
IsMark [] = Unit {0}
IsMark (b ∷ []) = is_long_mark b ≡ true
IsMark (b ∷ c ∷ bs) = ⊥

-- a digit at least, then at most one mark (JLS 17, 3.10.1; zeros may lead, and no other base has a form)
abbrev pub IsNumber : List ℕ → Type 0
IsNumber w = (digits mark : List ℕ) × (w ≡ digits ++ mark) × (0 < length digits)
    × (list_all is_ascii_digit digits ≡ true) × IsMark mark

-- bytes between two quotes (JLS 17, 3.10.5; without escapes)
abbrev pub IsString : List ℕ → Type 0
IsString w = (inside : List ℕ) × (w ≡ 34 ∷ inside ++ 34 ∷ []) × (list_all (λ b. not (ends_text b)) inside ≡ true)

-- `$`, and a name right after it (no form of Java)
abbrev pub IsReference : List ℕ → Type 0
IsReference w = (name : List ℕ) × (w ≡ 36 ∷ name) × IsName name

-- the form of each kind; a bad byte has none
abbrev pub HasForm : TokenKind → List ℕ → Type 0
HasForm Name w = IsName w
HasForm Number w = IsNumber w
HasForm String w = IsString w
HasForm Reference w = IsReference w
HasForm (Symbol s) w = w ≡ spelling_of s
HasForm Bad w = ⊥
