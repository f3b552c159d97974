-- Meaning: what stands between the parentheses of a call.
use Rattle.std.specs.Prelude.{◌≡◌, ℕ, zero, suc, true, List, [], ◌∷◌, ◌++◌, length, Option, Some, None}
use Rattle.stream_tokens.specs.declared.symbol.Symbol.{Symbol}
use Rattle.stream_tokens.specs.declared.symbol.Symbol.TheVariants as symbol
use Rattle.lambda_expr.specs.Words.{Word, named, numeral, quoted, referred, sign, bad}
use Rattle.job_language.specs.declared.operation.Operation.{Operation}
use Rattle.job_language.specs.declared.word.Bracket.{Bracket}
use Rattle.job_language.specs.declared.word.Bracket.TheVariants as bracket
use Rattle.job_language.specs.Table.{name_of, allows, param_of, fits}

-- helper: what a symbol is to the nesting of parentheses
abbrev pub symbol_bracket : Symbol → Bracket
symbol_bracket symbol.Arrow = bracket.Plain
symbol_bracket symbol.DoubleColon = bracket.Plain
symbol_bracket symbol.ShiftLeft = bracket.Plain
symbol_bracket symbol.ShiftRight = bracket.Plain
symbol_bracket symbol.ShiftRightUnsigned = bracket.Plain
symbol_bracket symbol.LessOrEqual = bracket.Plain
symbol_bracket symbol.GreaterOrEqual = bracket.Plain
symbol_bracket symbol.Equal = bracket.Plain
symbol_bracket symbol.NotEqual = bracket.Plain
symbol_bracket symbol.AndAnd = bracket.Plain
symbol_bracket symbol.OrOr = bracket.Plain
symbol_bracket symbol.PlusPlus = bracket.Plain
symbol_bracket symbol.MinusMinus = bracket.Plain
symbol_bracket symbol.Open = bracket.Open
symbol_bracket symbol.Close = bracket.Close
symbol_bracket symbol.Comma = bracket.Comma
symbol_bracket symbol.Dot = bracket.Plain
symbol_bracket symbol.Semicolon = bracket.Plain
symbol_bracket symbol.Assign = bracket.Plain
symbol_bracket symbol.Less = bracket.Plain
symbol_bracket symbol.Greater = bracket.Plain
symbol_bracket symbol.Plus = bracket.Plain
symbol_bracket symbol.Minus = bracket.Plain
symbol_bracket symbol.Star = bracket.Plain
symbol_bracket symbol.Slash = bracket.Plain
symbol_bracket symbol.Percent = bracket.Plain
symbol_bracket symbol.And = bracket.Plain
symbol_bracket symbol.Or = bracket.Plain
symbol_bracket symbol.Xor = bracket.Plain
symbol_bracket symbol.Tilde = bracket.Plain
symbol_bracket symbol.Bang = bracket.Plain
symbol_bracket symbol.Question = bracket.Plain
symbol_bracket symbol.Colon = bracket.Plain

-- what a word is to the nesting of parentheses
abbrev pub bracket_of : Word → Bracket
bracket_of (named w) = bracket.Plain
bracket_of (numeral w) = bracket.Plain
bracket_of (quoted w) = bracket.Plain
bracket_of (referred w) = bracket.Plain
bracket_of (sign s) = symbol_bracket s
bracket_of bad = bracket.Plain

-- how many parentheses are open after a word; none if it closes one that isn't open, or is a comma outside them
abbrev pub nest : ℕ → Bracket → Option ℕ
nest d bracket.Open = Some (suc d)
nest zero bracket.Close = None
nest (suc d) bracket.Close = Some d
nest zero bracket.Comma = None
nest (suc d) bracket.Comma = Some (suc d)
nest d bracket.Plain = Some d

abbrev pub nested : Option ℕ → Word → Option ℕ
nested None w = None
nested (Some d) w = nest d (bracket_of w)

abbrev pub nests : Option ℕ → List Word → Option ℕ
nests o [] = o
nests o (w ∷ ws) = nests (nested o w) ws

-- parentheses pair up, and no comma stands outside them
abbrev pub IsPart : List Word → Type 0
IsPart ws = nests (Some 0) ws ≡ Some 0

abbrev pub AreParts : List (List Word) → Type 0
AreParts [] = Unit {0}
AreParts (a ∷ xs) = IsPart a × AreParts xs

-- the parts with commas between them
abbrev pub parts_words : List (List Word) → List Word
parts_words [] = []
parts_words (a ∷ []) = a
parts_words (a ∷ b ∷ xs) = a ++ sign symbol.Comma ∷ parts_words (b ∷ xs)

-- from part i on, each of n parts is what the row says
abbrev pub FitFrom : Operation → ℕ → ℕ → List (List Word) → Type 0
FitFrom o n i [] = Unit {0}
FitFrom o n i (a ∷ xs) = (fits (param_of o n i) a ≡ true) × FitFrom o n (suc i) xs

-- a call as it is written: an operation, and the words of each part
pub record Call : Type 0 where
  pub operation : Operation
  pub parts : List (List Word)

-- the call is as the row of its operation says
pub record IsCall (c : Call) : Type 0 where
  pub pair : AreParts c.parts
  pub allowed : allows c.operation (length c.parts) ≡ true
  pub fit : FitFrom c.operation (length c.parts) 0 c.parts

-- the words of a call
abbrev pub call_words : Call → List Word
call_words c = named (name_of c.operation) ∷ sign symbol.Open ∷ (parts_words c.parts ++ sign symbol.Close ∷ [])
