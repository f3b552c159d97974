-- Condition: a call taken apart, word by word, after its opening parenthesis.
use Rattle.std.specs.Prelude.{◌≡◌, ℕ, suc, ◌+◌, Bool, true, ◌&&◌, List, [], ◌∷◌, ◌++◌, length, Option, Some, None}
use Rattle.std.specs.Prelude.{slice_range, take, ◌≤◌, ◌<◌}
use Rattle.stream_tokens.specs.declared.symbol.Symbol.TheVariants as symbol
use Rattle.lambda_expr.specs.Words.{Word, sign}
use Rattle.job_language.specs.declared.operation.Operation.{Operation}
use Rattle.job_language.specs.declared.word.Bracket.{Bracket}
use Rattle.job_language.specs.declared.word.Bracket.TheVariants as bracket
use Rattle.job_language.specs.Table.{param_of, fits}
use Rattle.job_language.specs.Calls.{Call, IsCall, bracket_of, nest, parts_words}

pub data State : Type 0 where
  inside : List (List Word) → List Word → ℕ → State
  closed : List (List Word) → State

-- the parts with one more; a call without parts has none
abbrev pub with_last : List (List Word) → List Word → List (List Word)
with_last [] [] = []
with_last done a = done ++ a ∷ []

abbrev pub parted : List (List Word) → List Word → Bracket → State
parted done a bracket.Close = closed (with_last done a)
parted done a b = inside (done ++ a ∷ []) [] 0

abbrev pub goes : List (List Word) → List Word → Word → Bracket → Option ℕ → State
goes done a w b None = parted done a b
goes done a w b (Some d) = inside done (a ++ w ∷ []) d

abbrev pub read_by : List (List Word) → List Word → ℕ → Word → Bracket → State
read_by done a d w b = goes done a w b (nest d b)

abbrev pub read : State → Word → State
read (inside done a d) w = read_by done a d w (bracket_of w)
read (closed xs) w = closed xs

abbrev pub reads : State → List Word → State
reads s [] = s
reads s (w ∷ ws) = reads (read s w) ws

abbrev pub start : State
start = inside [] [] 0

-- the parts that end at these places, each after the comma of the one before it
abbrev pub pieces : List Word → ℕ → List ℕ → List (List Word)
pieces ws a [] = []
pieces ws a (e ∷ es) = slice_range ws a e ∷ pieces ws (e + 1) es

abbrev pub fits_from : Operation → ℕ → ℕ → List (List Word) → Bool
fits_from o n i [] = true
fits_from o n i (a ∷ xs) = fits (param_of o n i) a && fits_from o n (suc i) xs

abbrev pub IsOpen : State → Type 0
IsOpen (inside done a d) = Unit {0}
IsOpen (closed xs) = ⊥

-- where the part after these ends begins
abbrev pub start_of : ℕ → List ℕ → ℕ
start_of a [] = a
start_of a (e ∷ es) = start_of (e + 1) es

-- each ends after the comma of the one before it
abbrev pub AreEnds : ℕ → List ℕ → ℕ → Type 0
AreEnds a [] n = Unit {0}
AreEnds a (e ∷ es) n = (a ≤ e) × (e < n) × AreEnds (e + 1) es n

-- this many words are read, and this many parentheses are open
pub record IsAt (ws : List Word) (at : ℕ) (depth : ℕ) (es : List ℕ) : Type 0 where
  pub state : reads start (take at ws) ≡ inside (pieces ws 0 es) (slice_range ws (start_of 0 es) at) depth
  pub begun : start_of 0 es ≤ at
  pub low : depth ≤ at
  pub ends : AreEnds 0 es at

-- the call is closed, with the parts that end there
pub record IsSplit (ws : List Word) (es : List ℕ) : Type 0 where
  pub state : reads start ws ≡ closed (pieces ws 0 es)
  pub ends : AreEnds 0 es (length ws)

-- the words after the parenthesis are the rest of a call, and others
pub record Completes (c : Call) (rest : List Word) (ws : List Word) : Type 0 where
  pub call : IsCall c
  pub spelled : parts_words c.parts ++ sign symbol.Close ∷ rest ≡ ws

abbrev pub call_at : Operation → List Word → List ℕ → Call
call_at o ws es = record { operation = o; parts = pieces ws 0 es }

-- the words complete a call of this operation, whose parts end there
pub record IsReadAs (o : Operation) (ws : List Word) (es : List ℕ) : Type 0 where
  pub rest : List Word
  pub completes : Completes (call_at o ws es) rest ws
  pub ends : AreEnds 0 es (length ws)

abbrev pub IsNoCallOf : Operation → List Word → Type 0
IsNoCallOf o ws =
    (parts : List (List Word)) (rest : List Word) → Completes (record { operation = o; parts = parts }) rest ws → ⊥
