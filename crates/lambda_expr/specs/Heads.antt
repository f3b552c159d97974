-- Meaning: heads of lambdas, and lambdas.
use Rattle.std.specs.Prelude.{◌≡◌, ◌⊎◌, ℕ, List, [], ◌∷◌, ◌++◌, Option, Some, None}
use Rattle.lambda_expr.specs.declared.head.HeadMark.{HeadMark}
use Rattle.lambda_expr.specs.declared.head.HeadMark.TheVariants as mark
use Rattle.lambda_expr.specs.declared.want.Want.{Want}
use Rattle.lambda_expr.specs.declared.want.Want.TheVariants as want
use Rattle.lambda_expr.specs.declared.lexeme.Lexeme.{Lexeme}
use Rattle.lambda_expr.specs.declared.lexeme.Lexeme.TheVariants as word
use Rattle.lambda_expr.specs.declared.lexeme.Name.TheVariants.{Plain, LowerLong}
use Rattle.lambda_expr.specs.declared.sign.Sign.TheVariants.{Comma}
use Rattle.lambda_expr.specs.declared.source.StreamSource.{StreamSource}
use Rattle.lambda_expr.specs.Grammar.{Shape, IsExpression}
use Rattle.lambda_expr.specs.Sources.{IsStream}

-- what a word is in a head: a name is a parameter by its number
abbrev pub mark_of : Lexeme → Option HeadMark
mark_of (word.Name (Plain i)) = Some (mark.Parameter i.number)
mark_of (word.Name LowerLong) = Some mark.LowerLong
mark_of word.Open = Some mark.Open
mark_of (word.Sign Comma) = Some mark.Comma
mark_of word.Close = Some mark.Close
mark_of word.Arrow = Some mark.Arrow
mark_of w = None

-- the words fit a pattern, one for each mark
abbrev pub Fit : List HeadMark → List Lexeme → Type 0
Fit [] [] = Unit {0}
Fit [] (w ∷ ws) = ⊥
Fit (m ∷ ms) [] = ⊥
Fit (m ∷ ms) (w ∷ ws) = (mark_of w ≡ Some m) × Fit ms ws

abbrev pub IsOneOf : List HeadMark → List (List HeadMark) → Type 0
IsOneOf p [] = ⊥
IsOneOf p (q ∷ qs) = (p ≡ q) ⊎ IsOneOf p qs

-- the words fit one of these patterns, and then comes a text that may be after them
pub record HasHead (ps : List (List HeadMark)) (after : List Lexeme → List Lexeme → Type 0)
    (ws : List Lexeme) : Type 0 where
  pub pattern : List HeadMark
  pub listed : IsOneOf pattern ps
  pub front : List Lexeme
  pub fit : Fit pattern front
  pub rest : List Lexeme
  pub spelled : front ++ rest ≡ ws
  pub stands : after front rest

-- the heads of one parameter: `x ->`, `(x) ->` and `(long x) ->` (JLS 17, 15.27.1)
abbrev pub heads_of_one : List (List HeadMark)
heads_of_one =
    (mark.Parameter 0 ∷ mark.Arrow ∷ [])
    ∷ (mark.Open ∷ mark.Parameter 0 ∷ mark.Close ∷ mark.Arrow ∷ [])
    ∷ (mark.Open ∷ mark.LowerLong ∷ mark.Parameter 0 ∷ mark.Close ∷ mark.Arrow ∷ [])
    ∷ []

-- the heads of two parameters: `(a, b) ->` and `(long a, long b) ->`
abbrev pub heads_of_two : List (List HeadMark)
heads_of_two =
    (mark.Open ∷ mark.Parameter 0 ∷ mark.Comma ∷ mark.Parameter 1 ∷ mark.Close ∷ mark.Arrow ∷ [])
    ∷ (mark.Open ∷ mark.LowerLong ∷ mark.Parameter 0 ∷ mark.Comma ∷ mark.LowerLong ∷ mark.Parameter 1
    ∷ mark.Close ∷ mark.Arrow ∷ [])
    ∷ []

abbrev pub heads : Want → List (List HeadMark)
heads want.Long = heads_of_one
heads want.Bool = heads_of_one
heads want.Stream = heads_of_one
heads want.Pair = heads_of_two

-- how many parameters a lambda has
abbrev pub parameters : Want → ℕ
parameters want.Long = 1
parameters want.Bool = 1
parameters want.Stream = 1
parameters want.Pair = 2

-- a body as it is written: an expression, or a source of an inner stream with its operands
pub data BodyShape : Type 0 where
  expression : Shape → BodyShape
  operands : StreamSource → List Shape → BodyShape

-- the words are a body that is wanted: of a stream a source and its operands, else an expression
abbrev pub IsBody : Want → List Lexeme → BodyShape → Type 0
IsBody want.Stream ws (expression e) = ⊥
IsBody want.Stream ws (operands s es) = IsStream s es ws
IsBody w ws (expression e) = IsExpression ws e
IsBody w ws (operands s es) = ⊥

-- helper: the words are a body
abbrev pub ABody : Want → List Lexeme → Type 0
ABody w ws = (b : BodyShape) × IsBody w ws b

-- the words are a lambda of this want with this body (JLS 17, 15.27)
abbrev pub IsLambda : Want → List Lexeme → BodyShape → Type 0
IsLambda w ws b = HasHead (heads w) (λ front rest. IsBody w rest b) ws

abbrev pub ALambda : Want → List Lexeme → Type 0
ALambda w ws = (b : BodyShape) × IsLambda w ws b
