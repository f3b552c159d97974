-- Meaning: which texts are lambdas, and what each other text is refused for.
pub use Rattle.stream_tokens.specs.CutTexts.{column}
use Rattle.std.specs.Prelude.{Bool, false, ◌≡◌, ℕ, suc, max, ◌<◌, ◌≤◌, not, nat_lt, if◌then◌else◌, ◌⊎◌, List, length}
use Rattle.std.specs.Prelude.{Option, Some}
use Rattle.std.specs.Prelude.{None, Result, Ok, Err}
use Rattle.stream_tokens.specs.declared.token.Token.{Token}
use Rattle.stream_tokens.specs.Tokens.{AreTokensOf}
use Rattle.lambda_expr.specs.declared.fault.ReadFault.{ReadFault}
use Rattle.lambda_expr.specs.declared.fault.ReadFault.TheVariants as fault
use Rattle.lambda_expr.specs.declared.want.Want.{Want}
use Rattle.lambda_expr.specs.declared.want.Want.TheVariants as want
use Rattle.lambda_values.specs.declared.lambda.Lambda.{Lambda}
use Rattle.lambda_values.specs.declared.lambda.PairForm.{PairForm}
use Rattle.lambda_expr.specs.declared.source.StreamSource.{StreamSource}
use Rattle.lambda_expr.specs.Checks.{depth, fit, literals, names_known}
use Rattle.lambda_expr.specs.Grammar.{Shape}
use Rattle.lambda_expr.specs.Heads.{ALambda, BodyShape, expression, operands, IsLambda, parameters}
use Rattle.lambda_expr.specs.Lexemes.{NameNoPlace, Names, lexemes_of, names_in}
use Rattle.lambda_expr.specs.Stops.{StopsAt}
use Rattle.lambda_expr.specs.PairForms.{form, whole_form}
use Rattle.lambda_expr.specs.StreamChecks.{all_fit, all_known, deepest, numbers, stream_of}
use Rattle.lambda_values.specs.Lambda.{AbstractLambda, long, boolean, stream, pair, body_of}
use Rattle.lambda_values.specs.Streams.{Inner}
use Rattle.lambda_values.specs.Term.{Long}
use Rattle.lambda_expr.specs.Typing as typing
use Rattle.lambda_expr.specs.Typing.{Typed, typed}
use Rattle.lambda_expr.specs.Words.{words_of}

-- the lambda of an expression of this type and form, if it is of the type that is wanted
abbrev pub wanted : Want → Typed → PairForm → Result AbstractLambda ReadFault
wanted want.Long (typing.long a) f = Ok (long a)
wanted want.Bool (typing.boolean a) f = Ok (boolean a)
wanted want.Pair (typing.long a) f = Ok (pair f)
wanted w t f = Err fault.WrongType

-- what a lambda whose body is this expression gives, if its references have these names: the first that applies
abbrev pub expression_verdict : Want → Names → Shape → Result AbstractLambda ReadFault
expression_verdict w h e =
    if not (fit (literals e)) then Err fault.LiteralTooLarge
    else (if nat_lt 64 (depth e) then Err fault.TooDeep
    else (if not (names_known (parameters w) e) then Err fault.UnknownName
    else wanted w (typed h e) (whole_form (form e))))

-- helper: the lambda of an inner stream, if it is one
abbrev pub lambda_of : Option Inner → Result AbstractLambda ReadFault
lambda_of None = Err fault.WrongType
lambda_of (Some g) = Ok (stream g)

-- helper: the lambda of a source and the numbers that its operands are
abbrev pub streamed : StreamSource → Option (List Long) → Result AbstractLambda ReadFault
streamed s None = Err fault.WrongType
streamed s (Some es) = lambda_of (stream_of s es)

-- what a lambda whose body is a source with these operands gives: the first that applies. The body is a call, so it is
-- one deeper than its deepest operand, and it has at most 64 operands
abbrev pub stream_verdict : Names → StreamSource → List Shape → Result AbstractLambda ReadFault
stream_verdict h s es =
    if not (all_fit es) then Err fault.LiteralTooLarge
    else (if nat_lt 64 (max (suc (deepest es)) (length es)) then Err fault.TooDeep
    else (if not (all_known 1 es) then Err fault.UnknownName
    else streamed s (numbers h es)))

-- what a lambda with this body gives
abbrev pub verdict : Want → Names → BodyShape → Result AbstractLambda ReadFault
verdict w h (expression e) = expression_verdict w h e
verdict w h (operands s es) = stream_verdict h s es

-- the text has at most 4,096 tokens, and they are a lambda with this body
pub record IsSpelled (cells : Bool) (text : List ℕ) (w : Want) (body : BodyShape) : Type 0 where
  pub tokens : List Token
  pub cut : AreTokensOf tokens text
  pub few : length tokens ≤ 4096
  pub lambda : IsLambda w (lexemes_of cells text tokens) body

-- the text is a lambda, and that is what it gives
pub record Judged (cells : Bool) (text : List ℕ) (w : Want) (r : Result AbstractLambda ReadFault) : Type 0 where
  pub body : BodyShape
  pub spelled : IsSpelled cells text w body
  pub gives : verdict w (names_in text spelled.tokens) body ≡ r

-- the text is no lambda, and stops being the beginning of one at this column
pub record IsNoLambda (cells : Bool) (text : List ℕ) (w : Want) (at : ℕ) : Type 0 where
  pub tokens : List Token
  pub cut : AreTokensOf tokens text
  pub few : length tokens ≤ 4096
  pub place : ℕ
  pub stops : StopsAt (ALambda w) (lexemes_of cells text tokens) place
  pub here : at ≡ column text tokens place

-- the text has more than 4,096 tokens
pub record HasTooManyTokens (text : List ℕ) : Type 0 where
  pub tokens : List Token
  pub cut : AreTokensOf tokens text
  pub many : 4096 < length tokens

-- the text, which may have cells and rows or not, spells this lambda of that want
abbrev pub SpellsLambdaWithin : Bool → List ℕ → Want → Lambda → Type 0
SpellsLambdaWithin cells text w l = Judged cells text w (Ok (body_of l.body))

-- the text, which has neither cells nor rows, spells this lambda of that want
abbrev pub SpellsLambda : List ℕ → Want → Lambda → Type 0
SpellsLambda text w l = SpellsLambdaWithin false text w l

-- the text, which may have cells and rows or not, is refused for this; out of memory may be the answer for any text
abbrev pub IsRefusedWithin : Bool → List ℕ → Want → ReadFault → Type 0
IsRefusedWithin cells text w (fault.Syntax at) = IsNoLambda cells text w at
IsRefusedWithin cells text w fault.TooDeep = HasTooManyTokens text ⊎ Judged cells text w (Err fault.TooDeep)
IsRefusedWithin cells text w fault.LiteralTooLarge = Judged cells text w (Err fault.LiteralTooLarge)
IsRefusedWithin cells text w fault.UnknownName = Judged cells text w (Err fault.UnknownName)
IsRefusedWithin cells text w fault.WrongType = Judged cells text w (Err fault.WrongType)
IsRefusedWithin cells text w fault.NoMemory = Unit {0}

-- the text, which has neither cells nor rows, is refused for this
abbrev pub IsRefused : List ℕ → Want → ReadFault → Type 0
IsRefused text w f = IsRefusedWithin false text w f

-- neither `cell`, nor `row`, nor a string stands in the text
abbrev pub NamesNoPlace : List ℕ → Type 0
NamesNoPlace text = (tokens : List Token) → AreTokensOf tokens text → NameNoPlace (words_of text tokens)
