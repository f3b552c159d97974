-- Condition: what the code keeps of the reader's state: a stack without operands, and the steps of all operands.
use Rattle.std.specs.Prelude.{◌≡◌, ℕ, Bool, true, false, nat_lt, if◌then◌else◌, List, [], ◌∷◌, ◌++◌, Option, Some, None}
use Rattle.std.specs.Prelude.{Result, Ok, Err}
use Rattle.lambda_expr.specs.declared.lexeme.Lexeme.{Lexeme}
use Rattle.lambda_expr.specs.declared.parse.Pending.{Pending}
use Rattle.lambda_expr.specs.declared.parse.Pending.TheVariants as pending
use Rattle.lambda_expr.specs.declared.step.ParseStep.{ParseStep}
use Rattle.lambda_expr.specs.declared.step.ParseStep.TheVariants as step
use Rattle.lambda_expr.specs.declared.parse.Held.{Held}
use Rattle.lambda_expr.specs.declared.parse.Held.TheVariants as held
use Rattle.lambda_expr.specs.declared.parse.ParseStop.{ParseStop}
use Rattle.lambda_expr.specs.declared.parse.ParseStop.TheVariants.{At, NoMemory}
use Rattle.lambda_expr.specs.Grammar.{Shape, name, number, truth, reference, cell, decimal_cell, row, constant}
use Rattle.lambda_expr.specs.Grammar.{prefix, binary, ternary, enclosed, postfix, IsExpression}
use Rattle.lambda_expr.specs.Signs.{level}
use Rattle.lambda_expr.specs.Stops.{StopsAt}
use Rattle.lambda_expr.specs.Reader.{Frame, opened, signed, left, question, colon, Top, State, wants, has, owns, dots}
use Rattle.lambda_expr.specs.Reader.{calls, at_cell, opens_cell, names_cell, parts_cell, places_cell, at_row, opens_row}
use Rattle.lambda_expr.specs.Reader.{stuck, settled, result_of}

abbrev pub reduced : ℕ → Pending → Option ParseStep
reduced n (pending.Opened o) = None
reduced n (pending.Signed s) = Some (step.Prefix s)
reduced n (pending.Left s) = if nat_lt (level s) n then None else Some (step.Binary s)
reduced n pending.Question = None
reduced n pending.Colon = if nat_lt 1 n then None else Some step.Ternary

-- the last shape, and those before it
abbrev pub shape_on : List Shape → Shape
shape_on [] = row
shape_on (a ∷ vs) = a

abbrev pub rest : List Shape → List Shape
rest [] = []
rest (a ∷ vs) = vs

-- one step over shapes, the last first
abbrev pub apply : ParseStep → List Shape → List Shape
apply (step.Name i) vs = name i ∷ vs
apply (step.Number i) vs = number i ∷ vs
apply (step.Truth i) vs = truth i ∷ vs
apply (step.Reference i) vs = reference i ∷ vs
apply (step.Cell i) vs = cell i ∷ vs
apply (step.DecimalCell i p) vs = decimal_cell i p ∷ vs
apply step.Row vs = row ∷ vs
apply (step.Constant i) vs = constant i ∷ vs
apply (step.Prefix s) vs = prefix s (shape_on vs) ∷ rest vs
apply (step.Binary s) vs = binary s (shape_on (rest vs)) (shape_on vs) ∷ rest (rest vs)
apply step.Ternary vs = ternary (shape_on (rest (rest vs))) (shape_on (rest vs)) (shape_on vs) ∷ rest (rest (rest vs))
apply (step.Enclose o) vs = enclosed o (shape_on vs) ∷ rest vs

abbrev pub run : List Shape → List ParseStep → List Shape
run vs [] = vs
run vs (s ∷ ss) = run (apply s vs) ss

-- the frames of a stack over these shapes
abbrev pub frames_of : List Pending → List Shape → List Frame
frames_of [] vs = []
frames_of (pending.Opened o ∷ ps) vs = opened o ∷ frames_of ps vs
frames_of (pending.Signed s ∷ ps) vs = signed s ∷ frames_of ps vs
frames_of (pending.Left s ∷ ps) vs = left (shape_on vs) s ∷ frames_of ps (rest vs)
frames_of (pending.Question ∷ ps) vs = question (shape_on vs) ∷ frames_of ps (rest vs)
frames_of (pending.Colon ∷ ps) vs = colon (shape_on (rest vs)) (shape_on vs) ∷ frames_of ps (rest (rest vs))

abbrev pub state_on : List Pending → List Shape → Held → State
state_on ps vs held.Nothing = wants (frames_of ps vs)
state_on ps vs held.Complete = has (frames_of ps (rest vs)) (shape_on vs)
state_on ps vs (held.ClassName o) = owns (frames_of ps vs) o
state_on ps vs (held.OwnerDot o) = dots (frames_of ps vs) o
state_on ps vs (held.Callee o i) = calls (frames_of ps vs) o i
state_on ps vs held.Cell = at_cell (frames_of ps vs)
state_on ps vs held.CellOpen = opens_cell (frames_of ps vs)
state_on ps vs (held.CellText i) = names_cell (frames_of ps vs) i
state_on ps vs (held.CellComma i) = parts_cell (frames_of ps vs) i
state_on ps vs (held.CellPlaces i p) = places_cell (frames_of ps vs) i p
state_on ps vs held.Row = at_row (frames_of ps vs)
state_on ps vs held.RowOpen = opens_row (frames_of ps vs)

abbrev pub state_of : List Pending → List ParseStep → Held → State
state_of ps ss h = state_on ps (run [] ss) h

-- the steps of what waits
abbrev pub coded : List Frame → List ParseStep
coded [] = []
coded (opened o ∷ fs) = coded fs
coded (signed s ∷ fs) = coded fs
coded (left a s ∷ fs) = coded fs ++ postfix a
coded (question c ∷ fs) = coded fs ++ postfix c
coded (colon c p ∷ fs) = coded fs ++ (postfix c ++ postfix p)

abbrev pub code_of : State → List ParseStep
code_of (wants fs) = coded fs
code_of (has fs e) = coded fs ++ postfix e
code_of (owns fs o) = coded fs
code_of (dots fs o) = coded fs
code_of (calls fs o i) = coded fs
code_of (at_cell fs) = coded fs
code_of (opens_cell fs) = coded fs
code_of (names_cell fs i) = coded fs
code_of (parts_cell fs i) = coded fs
code_of (places_cell fs i p) = coded fs
code_of (at_row fs) = coded fs
code_of (opens_row fs) = coded fs
code_of stuck = []

-- the frames and the expression after them
abbrev pub top_of : List Pending → List ParseStep → Top
top_of ps ss = record { frames = frames_of ps (rest (run [] ss)); shape = shape_on (run [] ss) }

-- the steps spell the shapes and no others
abbrev pub IsCoded : List Pending → List ParseStep → Held → Type 0
IsCoded ps ss h = code_of (state_of ps ss h) ≡ ss

-- the code is at this state, and its steps spell its shapes and no others
pub record IsAt (ps : List Pending) (ss : List ParseStep) (h : Held) (s : State) : Type 0 where
  pub state : state_of ps ss h ≡ s
  pub steps : code_of (state_of ps ss h) ≡ ss

-- after one more word: where the code is, or the words begin nothing
abbrev pub Turns : State → ℕ → List Pending → List ParseStep → Result Held ParseStop → Type 0
Turns s at ps ss (Ok h) = IsAt ps ss h s
Turns s at ps ss (Err (At n)) = (n ≡ at) × (s ≡ stuck)
Turns s at ps ss (Err NoMemory) = Unit {0}

-- the words are an expression of these steps
abbrev pub ArePostfix : List Lexeme → List ParseStep → Type 0
ArePostfix ws ss = (e : Shape) × IsExpression ws e × (ss ≡ postfix e)

-- the words stop there, unless memory was refused
abbrev pub IsStop : (List Lexeme → Type 0) → List Lexeme → ParseStop → Type 0
IsStop G ws (At n) = StopsAt G ws n
IsStop G ws NoMemory = Unit {0}

-- whether an operand is held at the end, and then where the code is
abbrev pub IsSettled : State → List Pending → List ParseStep → Result Bool ParseStop → Type 0
IsSettled s ps ss (Ok true) = IsAt ps ss held.Complete (settled s)
IsSettled s ps ss (Ok false) = result_of s ≡ None
IsSettled s ps ss (Err (At n)) = ⊥
IsSettled s ps ss (Err NoMemory) = Unit {0}
