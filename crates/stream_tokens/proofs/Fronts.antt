-- A text has the form of one kind, which its front decides.
use Rattle.std.proofs.Common.{◌≡◌, ℕ, ◌<◌, true, false, ◌==◌, cond, List, [], ◌∷◌, ◌++◌, length, Option, Some, None}
use Rattle.std.proofs.Common.{refl, ap, ◌∙◌, arith}
use Rattle.std.specs.List.{list_all}
use Rattle.std.specs.Char.{is_ascii_digit}
use Rattle.std.proofs.lemmas.Grind.{common_steps}
use Rattle.stream_tokens.specs.declared.symbol.Symbol.{Symbol as SymbolType}
use Rattle.stream_tokens.specs.declared.symbol.Symbol.TheVariants as symbol
use Rattle.stream_tokens.specs.declared.token.TokenKind.{TokenKind}
use Rattle.stream_tokens.specs.declared.token.TokenKind.TheVariants.{Name, Number, String, Reference, Symbol, Bad}
use Rattle.stream_tokens.specs.Bytes.{is_name_start}
use Rattle.stream_tokens.specs.Symbols.{spelling_of}
use Rattle.stream_tokens.specs.Scanning.{symbol_at}
use Rattle.stream_tokens.specs.Forms.{HasForm}
use Rattle.stream_tokens.proofs.Runs.{and_left}

abbrev pub kind_of_symbol : Option SymbolType → TokenKind
kind_of_symbol None = Bad
kind_of_symbol (Some s) = Symbol s

-- the kind of a text that is one token, by its front
abbrev pub kind_at : List ℕ → TokenKind
kind_at [] = Bad
kind_at (a ∷ w) = cond (is_name_start a) Name
    (cond (is_ascii_digit a) Number (cond (a == 34) String
    (cond (a == 36) Reference (kind_of_symbol (symbol_at (a ∷ w))))))

-- each symbol is read back from its bytes
symbol_reads : (s : SymbolType) → kind_at (spelling_of s) ≡ Symbol s
symbol_reads symbol.Arrow = refl
symbol_reads symbol.DoubleColon = refl
symbol_reads symbol.ShiftLeft = refl
symbol_reads symbol.ShiftRight = refl
symbol_reads symbol.ShiftRightUnsigned = refl
symbol_reads symbol.LessOrEqual = refl
symbol_reads symbol.GreaterOrEqual = refl
symbol_reads symbol.Equal = refl
symbol_reads symbol.NotEqual = refl
symbol_reads symbol.AndAnd = refl
symbol_reads symbol.OrOr = refl
symbol_reads symbol.PlusPlus = refl
symbol_reads symbol.MinusMinus = refl
symbol_reads symbol.Open = refl
symbol_reads symbol.Close = refl
symbol_reads symbol.Comma = refl
symbol_reads symbol.Dot = refl
symbol_reads symbol.Semicolon = refl
symbol_reads symbol.Assign = refl
symbol_reads symbol.Less = refl
symbol_reads symbol.Greater = refl
symbol_reads symbol.Plus = refl
symbol_reads symbol.Minus = refl
symbol_reads symbol.Star = refl
symbol_reads symbol.Slash = refl
symbol_reads symbol.Percent = refl
symbol_reads symbol.And = refl
symbol_reads symbol.Or = refl
symbol_reads symbol.Xor = refl
symbol_reads symbol.Tilde = refl
symbol_reads symbol.Bang = refl
symbol_reads symbol.Question = refl
symbol_reads symbol.Colon = refl

-- a digit begins no name
pub digit_starts_no_name : (d : ℕ) → is_ascii_digit d ≡ true → is_name_start d ≡ false
digit_starts_no_name d h = grind (arith, common_steps)

kind_of_number : (digits mark w : List ℕ) → w ≡ digits ++ mark → 0 < length digits
    → list_all is_ascii_digit digits ≡ true → kind_at w ≡ Number
kind_of_number [] mark w is some all = absurd (omega arith)
kind_of_number (d ∷ ds) mark w is some all =
    let digit : is_ascii_digit d ≡ true = and_left (is_ascii_digit d) _ all in
    let later : TokenKind = cond (d == 34) String
    (cond (d == 36) Reference (kind_of_symbol (symbol_at (d ∷ (ds ++ mark))))) in
    ap kind_at is ∙ ap (λ b. cond b Name (cond (is_ascii_digit d) Number later)) (digit_starts_no_name d digit)
    ∙ ap (λ b. cond b Number later) digit

-- what has a form has the kind that its front decides
pub kind_is : (k : TokenKind) (w : List ℕ) → HasForm k w → kind_at w ≡ k
kind_is Name [] h = absurd h
kind_is Name (a ∷ w) h = ap (λ b. cond b Name
    (cond (is_ascii_digit a) Number (cond (a == 34) String
    (cond (a == 36) Reference (kind_of_symbol (symbol_at (a ∷ w))))))) h.0
kind_is Number w h = kind_of_number h.0 h.1 w h.2 h.3 h.4
kind_is String w h = ap kind_at h.1
kind_is Reference w h = ap kind_at h.1
kind_is (Symbol s) w h = ap kind_at h ∙ symbol_reads s
kind_is Bad w h = absurd h
