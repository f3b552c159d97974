-- Design: which tokens are a number, and why others are refused.
use Rattle.std.specs.Prelude.{◌≡◌, ℕ, ℤ, true, List, Some, None}
use Rattle.stream_tokens.specs.declared.token.Token.{Token}
use Rattle.lambda_expr.specs.declared.fault.ReadFault.{ReadFault}
use Rattle.lambda_expr.specs.declared.fault.ReadFault.TheVariants as fault
use Rattle.lambda_expr.specs.Words.{Word, words_of}
use Rattle.lambda_expr.specs.NumberWords.{is_number, number_read}
use Rattle.lambda_expr.specs.Stops.{StopsAt}
use Rattle.lambda_expr.specs.Refusals.{column}

-- the words are a number
abbrev pub ANumber : List Word → Type 0
ANumber ws = is_number ws ≡ true

-- the tokens are a number of 64 bits, and this is its value
pub record SpellsNumber (text : List ℕ) (tokens : List Token) (z : ℤ) : Type 0 where
  pub number : ANumber (words_of text tokens)
  pub value : number_read (words_of text tokens) ≡ Some z

-- the tokens are a number, and it is outside 64 bits
pub record IsTooLarge (text : List ℕ) (tokens : List Token) : Type 0 where
  pub number : ANumber (words_of text tokens)
  pub outside : number_read (words_of text tokens) ≡ None

-- the tokens are no number, and stop being the beginning of one at this column
pub record StopsAtColumn (text : List ℕ) (tokens : List Token) (at : ℕ) : Type 0 where
  pub place : ℕ
  pub stops : StopsAt ANumber (words_of text tokens) place
  pub here : at ≡ column text tokens place

-- the tokens are refused for this
abbrev pub IsNumberRefused : List ℕ → List Token → ReadFault → Type 0
IsNumberRefused text tokens (fault.Syntax at) = StopsAtColumn text tokens at
IsNumberRefused text tokens fault.LiteralTooLarge = IsTooLarge text tokens
IsNumberRefused text tokens _ = ⊥
