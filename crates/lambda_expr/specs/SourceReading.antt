-- Condition: how sources and their operands are read.
use Rattle.std.specs.Prelude.{◌≡◌, ℕ, suc, ◌+◌, ◌<◌, Bool, true, false, List, [], ◌∷◌, length, take, Option, Some, None}
use Rattle.std.specs.Prelude.{Result, Ok, Err}
use Rattle.std.specs.Global.{Vec}
use Rattle.lambda_expr.specs.declared.source.StreamSource.{StreamSource}
use Rattle.lambda_expr.specs.declared.source.StreamSource.TheVariants as source
use Rattle.lambda_expr.specs.declared.source.Opened.{Opened}
use Rattle.lambda_expr.specs.declared.lexeme.Lexeme.{Lexeme}
use Rattle.lambda_expr.specs.declared.lexeme.Lexeme.TheVariants as word
use Rattle.lambda_expr.specs.declared.lexeme.Name.TheVariants.{Plain, LongStream}
use Rattle.lambda_expr.specs.declared.parse.ParseStop.{ParseStop}
use Rattle.lambda_expr.specs.declared.parse.ParseStop.TheVariants.{At, NoMemory}
use Rattle.lambda_expr.specs.declared.step.ParseStep.{ParseStep}
use Rattle.lambda_expr.specs.Grammar.{Shape, postfix, Expression}
use Rattle.lambda_expr.specs.Codes.{ArePostfix}
use Rattle.lambda_expr.specs.Sources.{AreBound, AreOperands, Takes, listed, source_of}
use Rattle.lambda_expr.specs.Stops.{StopsAt}

-- an answer to a question
abbrev pub Says : Bool → Type 0 → Type 0
Says true A = A
Says false A = A → ⊥

-- whether one more operand may follow after n of them
abbrev pub TakesMore : StreamSource → ℕ → Type 0
TakesMore source.Range n = n < 2
TakesMore source.RangeClosed n = n < 2
TakesMore source.Of n = Unit {0}
TakesMore source.Empty n = ⊥

-- the source that words name and how many words name it, or where they stop
abbrev pub opened_at : ℕ → StreamSource → List Lexeme → Result Opened ℕ
opened_at n s [] = Err n
opened_at n s (word.Open ∷ ws) = Ok (record { source = s; count = n + 1 })
opened_at n s (w ∷ ws) = Err n

abbrev pub sourced_at : ℕ → Option StreamSource → List Lexeme → Result Opened ℕ
sourced_at n None ws = Err n
sourced_at n (Some s) ws = opened_at (n + 1) s ws

abbrev pub named_at : ℕ → List Lexeme → Result Opened ℕ
named_at n [] = Err n
named_at n (word.Name (Plain i) ∷ ws) = sourced_at n (source_of i.member) ws
named_at n (w ∷ ws) = Err n

abbrev pub dotted_at : List Lexeme → Result Opened ℕ
dotted_at [] = Err 1
dotted_at (word.Dot ∷ ws) = named_at 2 ws
dotted_at (w ∷ ws) = Err 1

abbrev pub stream_at : List Lexeme → Result Opened ℕ
stream_at [] = Err 0
stream_at (word.Name LongStream ∷ ws) = dotted_at ws
stream_at (w ∷ ws) = named_at 0 (w ∷ ws)

-- the words are operands of this source and the parenthesis that closes
abbrev pub Operands : StreamSource → List Lexeme → Type 0
Operands s ws = (es : List Shape) × AreOperands s es ws

-- the words are one more operand of a source after n of them, and others
pub record IsNext (s : StreamSource) (n : ℕ) (e : Shape) (es : List Shape) (ws : List Lexeme) : Type 0 where
  pub count : Takes s (n + suc (length es))
  pub bound : AreBound (e ∷ es)
  pub spelled : listed (e ∷ es) ≡ ws

abbrev pub Next : StreamSource → ℕ → List Lexeme → Type 0
Next s n ws = (e : Shape) × (es : List Shape) × IsNext s n e es ws

-- the words stop there, for each source that may have one more operand, unless memory was refused
abbrev pub IsNoNext : List Lexeme → ParseStop → Type 0
IsNoNext ws (At k) = (s : StreamSource) (n : ℕ) → TakesMore s n → StopsAt (Next s n) ws k
IsNoNext ws NoMemory = Unit {0}

-- an expression stands in front of the word at this place, and ends there
pub record IsFront (ws : List Lexeme) (steps : List ParseStep) (n : ℕ) : Type 0 where
  pub within : n < length ws
  pub stops : StopsAt Expression ws n
  pub posted : ArePostfix (take n ws) steps

-- the steps of each operand
abbrev pub steps_of : List (Vec ParseStep) → List (List ParseStep)
steps_of [] = []
steps_of (v ∷ vs) = v.items ∷ steps_of vs

abbrev pub each_postfix : List Shape → List (List ParseStep)
each_postfix [] = []
each_postfix (e ∷ es) = postfix e ∷ each_postfix es

-- the words are operands of these steps
abbrev pub ArePosted : StreamSource → List Lexeme → List (Vec ParseStep) → Type 0
ArePosted s ws vs = (es : List Shape) × AreOperands s es ws × (steps_of vs ≡ each_postfix es)
