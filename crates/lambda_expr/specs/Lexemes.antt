-- Meaning: what the words of a text are to the grammar of lambdas.
use Rattle.std.specs.Prelude.{◌≡◌, ℕ, suc, ◌-◌, ◌^◌, min, Bool, true, false, ◌&&◌, ◌||◌, if◌then◌else◌, List, [], ◌∷◌}
use Rattle.std.specs.Prelude.{codes, drop, take, length}
use Rattle.std.specs.Prelude.{slice_index_or, Option, Some, None}
use Rattle.stream_tokens.specs.declared.symbol.Symbol.{Symbol}
use Rattle.stream_tokens.specs.declared.symbol.Symbol.TheVariants as symbol
use Rattle.stream_tokens.specs.declared.token.Token.{Token}
use Rattle.lambda_expr.specs.declared.sign.Sign.{Sign}
use Rattle.lambda_expr.specs.declared.lexeme.Lexeme.{Lexeme}
use Rattle.lambda_expr.specs.declared.lexeme.Lexeme.TheVariants as lexeme
use Rattle.lambda_expr.specs.declared.lexeme.Name.{Name}
use Rattle.lambda_expr.specs.declared.lexeme.Numeral.{Numeral}
use Rattle.lambda_expr.specs.declared.lexeme.Numeral.TheVariants.{Places, Value}
use Rattle.lambda_expr.specs.declared.lexeme.Name.TheVariants.{Plain, ClassName, Truth, LowerLong, LongStream}
use Rattle.lambda_expr.specs.declared.lexeme.Name.TheVariants.{Cell, Row}
use Rattle.lambda_expr.specs.declared.lexeme.ClassName.TheVariants.{Math, Long}
use Rattle.job_names.specs.ColumnKeys.{places_of}
use Rattle.lambda_expr.specs.Members.{is_named, member_of}
use Rattle.lambda_expr.specs.Signs.{sign_of}
use Rattle.lambda_expr.specs.Words.{Word, named, numeral, quoted, referred, sign, bad, words_of}
use Rattle.lambda_expr.specs.Numerals.{is_numeral, numeral_value}

-- helper: the symbols of lambdas that are no signs
abbrev pub punctuation : Symbol → Lexeme
punctuation symbol.Arrow = lexeme.Arrow
punctuation symbol.Open = lexeme.Open
punctuation symbol.Close = lexeme.Close
punctuation symbol.Dot = lexeme.Dot
punctuation symbol.Question = lexeme.Question
punctuation symbol.Colon = lexeme.Colon
punctuation s = lexeme.Other

-- helper
abbrev sign_or : Lexeme → Option Sign → Lexeme
sign_or w (Some s) = lexeme.Sign s
sign_or w None = w

-- the symbols of lambdas
abbrev pub symbol_lexeme : Symbol → Lexeme
symbol_lexeme s = sign_or (punctuation s) (sign_of s)

-- helper: whether a name is this one, if there is one
abbrev pub is_that : Option (List ℕ) → List ℕ → Bool
is_that None w = false
is_that (Some name) w = is_named w name

-- which of the names of a text this one is, if these are the first two: 0, 1, or 2 for any other
abbrev pub order_of : Option (List ℕ) → Option (List ℕ) → List ℕ → ℕ
order_of first second w = if is_that first w then 0 else (if is_that second w then 1 else 2)

-- a name of a text, if these are the first two that a parameter may have
abbrev pub name_of : Bool → Option (List ℕ) → Option (List ℕ) → List ℕ → Name
name_of cells first second w =
    if is_named w (codes "Math") then ClassName Math
    else (if is_named w (codes "Long") then ClassName Long
    else (if is_named w (codes "LongStream") then LongStream
    else (if is_named w (codes "long") then LowerLong
    else (if is_named w (codes "true") then Truth true
    else (if is_named w (codes "false") then Truth false
    else (if cells && is_named w (codes "cell") then Cell
    else (if cells && is_named w (codes "row") then Row
    else Plain (record { number = order_of first second w; member = member_of w }))))))))

-- helper: a number that may be a number of decimal places, or any other one by its value
abbrev pub numeral_or : Option ℕ → ℕ → Numeral
numeral_or (Some p) n = Places p
numeral_or None n = Value n

-- helper: a numeral: one that may be a number of decimal places, or any other one by its value, or by 2^64 - 1 if that
-- is less
abbrev pub numeral_of : List ℕ → Numeral
numeral_of w = numeral_or (places_of w) (min (numeral_value w) (2 ^ 64 - 1))

-- helper: its value
abbrev pub value_in : Numeral → ℕ
value_in (Places p) = p
value_in (Value n) = n

-- a number, if it may stand in a grammar
abbrev pub number_lexeme : List ℕ → Lexeme
number_lexeme w = if is_numeral w then lexeme.Number (numeral_of w) else lexeme.Other

-- the lexeme of the word at a place; a reference and a string are known by their places
abbrev pub lexeme_of : Bool → Option (List ℕ) → Option (List ℕ) → ℕ → Word → Lexeme
lexeme_of cells first second at (named w) = lexeme.Name (name_of cells first second w)
lexeme_of cells first second at (numeral w) = number_lexeme w
lexeme_of cells first second at (quoted w) = if cells then lexeme.Text at else lexeme.Other
lexeme_of cells first second at (referred w) = lexeme.Reference at
lexeme_of cells first second at (sign s) = symbol_lexeme s
lexeme_of cells first second at bad = lexeme.Other

-- a word that no parameter is named by
abbrev pub is_reserved : Bool → List ℕ → Bool
is_reserved cells w =
    (cells && (is_named w (codes "cell") || is_named w (codes "row"))) || is_named w (codes "Math")
    || is_named w (codes "Long") || is_named w (codes "LongStream") || is_named w (codes "long")
    || is_named w (codes "true") || is_named w (codes "false")

-- no parameter has this name, or it is the one that is taken, if there is one
abbrev pub is_taken : Bool → Option (List ℕ) → List ℕ → Bool
is_taken cells None w = is_reserved cells w
is_taken cells (Some taken) w = is_reserved cells w || is_named w taken

-- the first name among words that a parameter may have, apart from one that is taken, if there is any
abbrev pub first_name : Bool → Option (List ℕ) → List Word → Option (List ℕ)
first_name cells taken [] = None
first_name cells taken (named w ∷ ws) = if is_taken cells taken w then first_name cells taken ws else Some w
first_name cells taken (numeral w ∷ ws) = first_name cells taken ws
first_name cells taken (quoted w ∷ ws) = first_name cells taken ws
first_name cells taken (referred w ∷ ws) = first_name cells taken ws
first_name cells taken (sign s ∷ ws) = first_name cells taken ws
first_name cells taken (bad ∷ ws) = first_name cells taken ws

-- the lexemes of the words from a place on, if these are the first two names that a parameter may have
abbrev pub lexemes_from : Bool → Option (List ℕ) → Option (List ℕ) → ℕ → List Word → List Lexeme
lexemes_from cells first second at [] = []
lexemes_from cells first second at (w ∷ ws) =
    lexeme_of cells first second at w ∷ lexemes_from cells first second (suc at) ws

-- the lexemes of words, by the first two different names among them that a parameter may have
abbrev pub lexemes_in : Bool → List Word → List Lexeme
lexemes_in cells ws = let first = first_name cells None ws in lexemes_from cells first (first_name cells first ws) 0 ws

-- the lexemes of a text, which may have cells and rows or not
abbrev pub lexemes_of : Bool → List ℕ → List Token → List Lexeme
lexemes_of cells text tokens = lexemes_in cells (words_of text tokens)

-- no word is `cell`, `row` or a string
abbrev pub NameNoPlace : List Word → Type 0
NameNoPlace [] = Unit {0}
NameNoPlace (named w ∷ ws) =
    (is_named w (codes "cell") ≡ false) × (is_named w (codes "row") ≡ false) × NameNoPlace ws
NameNoPlace (numeral w ∷ ws) = NameNoPlace ws
NameNoPlace (quoted w ∷ ws) = ⊥
NameNoPlace (referred w ∷ ws) = NameNoPlace ws
NameNoPlace (sign s ∷ ws) = NameNoPlace ws
NameNoPlace (bad ∷ ws) = NameNoPlace ws

-- the bytes between the quotes of a string
abbrev pub between_quotes : List ℕ → List ℕ
between_quotes w = take (length w - 2) (drop 1 w)

-- the name of a reference, without its `$`, or that in a string
abbrev pub reference_name : Word → List ℕ
reference_name (referred w) = drop 1 w
reference_name (named w) = []
reference_name (numeral w) = []
reference_name (quoted w) = between_quotes w
reference_name (sign s) = []
reference_name bad = []

-- the names of the references of a text, by their places
abbrev pub Names : Type 0
Names = ℕ → List ℕ

abbrev pub names_in : List ℕ → List Token → Names
names_in text tokens at = reference_name (slice_index_or (words_of text tokens) at bad)
