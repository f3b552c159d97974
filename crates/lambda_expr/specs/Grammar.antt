-- Meaning: the grammar of expressions, apart from any reader.
use Rattle.std.specs.Prelude.{◌≡◌, ℕ, suc, ◌≤◌, Bool, true, List, [], ◌∷◌, ◌++◌}
use Rattle.lambda_expr.specs.declared.sign.Sign.{Sign}
use Rattle.lambda_expr.specs.declared.lexeme.ClassName.TheVariants.{Long}
use Rattle.lambda_expr.specs.declared.step.Opening.{Opening}
use Rattle.lambda_expr.specs.declared.step.Opening.TheVariants.{Paren, Call}
use Rattle.lambda_expr.specs.declared.lexeme.Lexeme.{Lexeme}
use Rattle.lambda_expr.specs.declared.lexeme.Lexeme.TheVariants as word
use Rattle.lambda_expr.specs.declared.lexeme.Name.{Name}
use Rattle.lambda_expr.specs.declared.lexeme.Numeral.{Numeral}
use Rattle.lambda_expr.specs.declared.lexeme.Numeral.TheVariants.{Places}
use Rattle.lambda_expr.specs.declared.lexeme.PlainName.{PlainName}
use Rattle.lambda_expr.specs.declared.lexeme.Name.TheVariants.{Plain, ClassName, Truth, Cell, Row}
use Rattle.lambda_expr.specs.declared.step.ParseStep.{ParseStep}
use Rattle.lambda_expr.specs.declared.step.ParseStep.TheVariants as step
use Rattle.lambda_expr.specs.declared.sign.Sign.TheVariants.{Comma}
use Rattle.lambda_expr.specs.Signs.{is_infix, is_prefix, level}

-- an expression as it is written; operands of a call hang together by commas, and a reference and a cell are known by
-- the places of their names; a cell may be of a column with decimal places
pub data Shape : Type 0 where
  name : PlainName → Shape
  number : Numeral → Shape
  truth : Bool → Shape
  reference : ℕ → Shape
  cell : ℕ → Shape
  decimal_cell : ℕ → ℕ → Shape
  row : Shape
  constant : Name → Shape
  prefix : Sign → Shape → Shape
  binary : Sign → Shape → Shape → Shape
  ternary : Shape → Shape → Shape → Shape
  enclosed : Opening → Shape → Shape

-- the words of an opening, and the level of what stands in it: commas stand in calls alone
abbrev pub opening : Opening → List Lexeme
opening Paren = word.Open ∷ []
opening (Call o i) = word.Name (ClassName o) ∷ word.Dot ∷ word.Name i ∷ word.Open ∷ []

abbrev pub inside : Opening → ℕ
inside Paren = 1
inside (Call o i) = 0

-- the words of an expression, from left to right
abbrev pub spells : Shape → List Lexeme
spells (name i) = word.Name (Plain i) ∷ []
spells (number i) = word.Number i ∷ []
spells (truth i) = word.Name (Truth i) ∷ []
spells (reference i) = word.Reference i ∷ []
spells (cell i) = word.Name Cell ∷ word.Open ∷ word.Text i ∷ word.Close ∷ []
spells (decimal_cell i p) =
    word.Name Cell ∷ word.Open ∷ word.Text i ∷ word.Sign Comma ∷ word.Number (Places p) ∷ word.Close ∷ []
spells row = word.Name Row ∷ word.Open ∷ word.Close ∷ []
spells (constant i) = word.Name (ClassName Long) ∷ word.Dot ∷ word.Name i ∷ []
spells (prefix s a) = word.Sign s ∷ spells a
spells (binary s a b) = spells a ++ word.Sign s ∷ spells b
spells (ternary c p q) = spells c ++ word.Question ∷ (spells p ++ word.Colon ∷ spells q)
spells (enclosed o a) = opening o ++ (spells a ++ word.Close ∷ [])

-- the expression may stand where one of this level is wanted: signs group to the left, `? :` to the right
abbrev pub Binds : ℕ → Shape → Type 0
Binds n (name i) = Unit {0}
Binds n (number i) = Unit {0}
Binds n (truth i) = Unit {0}
Binds n (reference i) = Unit {0}
Binds n (cell i) = Unit {0}
Binds n (decimal_cell i p) = Unit {0}
Binds n row = Unit {0}
Binds n (constant i) = Unit {0}
Binds n (prefix s a) = (n ≤ 12) × (is_prefix s ≡ true) × Binds 12 a
Binds n (binary s a b) = (n ≤ level s) × (is_infix s ≡ true) × Binds (level s) a × Binds (suc (level s)) b
Binds n (ternary c p q) = (n ≤ 1) × Binds 2 c × Binds 1 p × Binds 1 q
Binds n (enclosed o a) = Binds (inside o) a

-- the words are this expression
pub record IsExpression (ws : List Lexeme) (e : Shape) : Type 0 where
  pub binds : Binds 1 e
  pub spelled : spells e ≡ ws

abbrev pub Expression : List Lexeme → Type 0
Expression ws = (e : Shape) × IsExpression ws e

-- the steps of an expression, each operand before what it is an operand of
abbrev pub postfix : Shape → List ParseStep
postfix (name i) = step.Name i ∷ []
postfix (number i) = step.Number i ∷ []
postfix (truth i) = step.Truth i ∷ []
postfix (reference i) = step.Reference i ∷ []
postfix (cell i) = step.Cell i ∷ []
postfix (decimal_cell i p) = step.DecimalCell i p ∷ []
postfix row = step.Row ∷ []
postfix (constant i) = step.Constant i ∷ []
postfix (prefix s a) = postfix a ++ step.Prefix s ∷ []
postfix (binary s a b) = postfix a ++ (postfix b ++ step.Binary s ∷ [])
postfix (ternary c p q) = postfix c ++ (postfix p ++ (postfix q ++ step.Ternary ∷ []))
postfix (enclosed o a) = postfix a ++ step.Enclose o ∷ []
