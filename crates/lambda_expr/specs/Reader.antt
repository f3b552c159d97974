-- Condition: the reader of expressions as a function from word to word.
use Rattle.std.specs.Prelude.{ℕ, Bool, true, false, nat_lt, if◌then◌else◌, List, [], ◌∷◌, Option, Some, None}
use Rattle.lambda_expr.specs.declared.sign.Sign.{Sign}
use Rattle.lambda_expr.specs.declared.sign.Sign.TheVariants as sign
use Rattle.lambda_expr.specs.declared.lexeme.ClassName.{ClassName as Class}
use Rattle.lambda_expr.specs.declared.lexeme.ClassName.TheVariants.{Math, Long}
use Rattle.lambda_expr.specs.declared.step.Opening.{Opening}
use Rattle.lambda_expr.specs.declared.step.Opening.TheVariants.{Paren, Call}
use Rattle.lambda_expr.specs.declared.lexeme.Lexeme.{Lexeme}
use Rattle.lambda_expr.specs.declared.lexeme.Lexeme.TheVariants as word
use Rattle.lambda_expr.specs.declared.lexeme.Name.{Name}
use Rattle.lambda_expr.specs.declared.lexeme.Numeral.TheVariants.{Places}
use Rattle.lambda_expr.specs.declared.lexeme.Name.TheVariants.{Plain, ClassName, Truth, Cell, Row}
use Rattle.lambda_expr.specs.Grammar.{Shape, name, number, truth, reference, cell, decimal_cell, row, constant}
use Rattle.lambda_expr.specs.Grammar.{prefix, binary, ternary, enclosed}
use Rattle.lambda_expr.specs.Signs.{level, is_infix, is_prefix}

-- what waits for the operand to its right
pub data Frame : Type 0 where
  opened : Opening → Frame
  signed : Sign → Frame
  left : Shape → Sign → Frame
  question : Shape → Frame
  colon : Shape → Shape → Frame

pub record Top : Type 0 where
  pub frames : List Frame
  pub shape : Shape

-- an expression joined to what waits, as far as that binds as tightly as n
abbrev pub joined : ℕ → List Frame → Shape → Top
joined n [] e = record { frames = []; shape = e }
joined n (opened o ∷ fs) e = record { frames = opened o ∷ fs; shape = e }
joined n (signed s ∷ fs) e = joined n fs (prefix s e)
joined n (left a s ∷ fs) e =
    if nat_lt (level s) n then record { frames = left a s ∷ fs; shape = e } else joined n fs (binary s a e)
joined n (question c ∷ fs) e = record { frames = question c ∷ fs; shape = e }
joined n (colon c p ∷ fs) e =
    if nat_lt 1 n then record { frames = colon c p ∷ fs; shape = e } else joined n fs (ternary c p e)

-- an operand is wanted, or stands there, or the first words of a call or constant do, or the words begin nothing
pub data State : Type 0 where
  wants : List Frame → State
  has : List Frame → Shape → State
  owns : List Frame → Class → State
  dots : List Frame → Class → State
  calls : List Frame → Class → Name → State
  at_cell : List Frame → State
  opens_cell : List Frame → State
  names_cell : List Frame → ℕ → State
  parts_cell : List Frame → ℕ → State
  places_cell : List Frame → ℕ → ℕ → State
  at_row : List Frame → State
  opens_row : List Frame → State
  stuck : State

-- a comma wants the parenthesis of a call around it
abbrev pub in_call : List Frame → Bool
in_call (opened (Call o i) ∷ fs) = true
in_call fs = false

abbrev pub takes : Sign → List Frame → Bool
takes sign.Comma fs = in_call fs
takes s fs = is_infix s

abbrev pub when : Bool → State → State
when true s = s
when false s = stuck

abbrev pub starts : List Frame → Lexeme → State
starts fs (word.Name (Plain i)) = has fs (name i)
starts fs (word.Name (ClassName o)) = owns fs o
starts fs (word.Name (Truth b)) = has fs (truth b)
starts fs (word.Name Cell) = at_cell fs
starts fs (word.Name Row) = at_row fs
starts fs (word.Reference i) = has fs (reference i)
starts fs (word.Number i) = has fs (number i)
starts fs (word.Sign s) = when (is_prefix s) (wants (signed s ∷ fs))
starts fs word.Open = wants (opened Paren ∷ fs)
starts fs w = stuck

abbrev pub operates : Sign → Top → State
operates s t = when (takes s t.frames) (wants (left t.shape s ∷ t.frames))

abbrev pub answers_at : List Frame → Shape → State
answers_at (question c ∷ fs) p = wants (colon c p ∷ fs)
answers_at fs p = stuck

abbrev pub shuts_at : List Frame → Shape → State
shuts_at (opened o ∷ fs) e = has fs (enclosed o e)
shuts_at fs e = stuck

abbrev pub asks : Top → State
asks t = wants (question t.shape ∷ t.frames)

abbrev pub answers : Top → State
answers t = answers_at t.frames t.shape

abbrev pub shuts : Top → State
shuts t = shuts_at t.frames t.shape

abbrev pub joins : ℕ → Top → Top
joins n t = joined n t.frames t.shape

abbrev pub follows : Top → Lexeme → State
follows t (word.Sign s) = operates s (joins (level s) t)
follows t word.Question = asks (joins 2 t)
follows t word.Colon = answers (joins 0 t)
follows t word.Close = shuts (joins 0 t)
follows t w = stuck

abbrev pub owned : List Frame → Class → Lexeme → State
owned fs o word.Dot = dots fs o
owned fs o w = stuck

abbrev pub dotted : List Frame → Class → Lexeme → State
dotted fs o (word.Name i) = calls fs o i
dotted fs o w = stuck

-- `Long . NAME` may stand by itself
abbrev pub alone : List Frame → Class → Name → Lexeme → State
alone fs Math i w = stuck
alone fs Long i w = follows (record { frames = fs; shape = constant i }) w

abbrev pub called : List Frame → Class → Name → Lexeme → State
called fs o i word.Open = wants (opened (Call o i) ∷ fs)
called fs o i w = alone fs o i w

-- `cell ( STRING )` and `cell ( STRING , PLACES )`
abbrev pub cell_opened : List Frame → Lexeme → State
cell_opened fs word.Open = opens_cell fs
cell_opened fs w = stuck

abbrev pub cell_named : List Frame → Lexeme → State
cell_named fs (word.Text i) = names_cell fs i
cell_named fs w = stuck

abbrev pub cell_closed : List Frame → ℕ → Lexeme → State
cell_closed fs i word.Close = has fs (cell i)
cell_closed fs i (word.Sign sign.Comma) = parts_cell fs i
cell_closed fs i w = stuck

abbrev pub cell_placed : List Frame → ℕ → Lexeme → State
cell_placed fs i (word.Number (Places p)) = places_cell fs i p
cell_placed fs i w = stuck

abbrev pub decimal_closed : List Frame → ℕ → ℕ → Lexeme → State
decimal_closed fs i p word.Close = has fs (decimal_cell i p)
decimal_closed fs i p w = stuck

-- `row ( )`
abbrev pub row_opened : List Frame → Lexeme → State
row_opened fs word.Open = opens_row fs
row_opened fs w = stuck

abbrev pub row_closed : List Frame → Lexeme → State
row_closed fs word.Close = has fs row
row_closed fs w = stuck

abbrev pub read : State → Lexeme → State
read (wants fs) w = starts fs w
read (has fs e) w = follows (record { frames = fs; shape = e }) w
read (owns fs o) w = owned fs o w
read (dots fs o) w = dotted fs o w
read (calls fs o i) w = called fs o i w
read (at_cell fs) w = cell_opened fs w
read (opens_cell fs) w = cell_named fs w
read (names_cell fs i) w = cell_closed fs i w
read (parts_cell fs i) w = cell_placed fs i w
read (places_cell fs i p) w = decimal_closed fs i p w
read (at_row fs) w = row_opened fs w
read (opens_row fs) w = row_closed fs w
read stuck w = stuck

abbrev pub reads : State → List Lexeme → State
reads s [] = s
reads s (w ∷ ws) = reads (read s w) ws

-- a constant at the end is an operand
abbrev pub settled : State → State
settled (calls fs Long i) = has fs (constant i)
settled s = s

abbrev pub only : List Frame → Shape → Option Shape
only [] e = Some e
only fs e = None

abbrev pub whole : Top → Option Shape
whole t = only t.frames t.shape

abbrev pub result_at : State → Option Shape
result_at (has fs e) = whole (joined 0 fs e)
result_at s = None

-- the expression of a text that ends here
abbrev pub result_of : State → Option Shape
result_of s = result_at (settled s)
