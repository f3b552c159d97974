-- Condition: what the program keeps of a job that it has read.
use Rattle.std.specs.Prelude.{◌≡◌, ℕ, ◌+◌, ◌<◌, ◌≤◌, Bool, true, false, List, [], ◌∷◌, ◌++◌, length, drop, reverse}
use Rattle.std.specs.Prelude.{◌&&◌, nat_eq, Option, Some, None, zero, suc, get_or}
use Rattle.stream_tokens.specs.declared.symbol.Symbol.{Symbol}
use Rattle.stream_tokens.specs.declared.symbol.Symbol.TheVariants as symbol
use Rattle.lambda_expr.specs.Words.{Word, named, sign}
use Rattle.job_language.specs.declared.operation.Operation.{Operation}
use Rattle.job_language.specs.declared.operation.Role.{Role}
use Rattle.job_language.specs.declared.operation.Role.TheVariants as role
use Rattle.job_language.specs.declared.piece.Mark.{Mark}
use Rattle.job_language.specs.declared.piece.Mark.TheVariants as mark
use Rattle.job_language.specs.declared.piece.WrittenCall as code
use Rattle.job_language.specs.declared.piece.ReadPiece as piece
use Rattle.job_language.specs.declared.mode.Mode.{Mode}
use Rattle.job_language.specs.declared.mode.Mode.TheVariants as mode
use Rattle.job_language.specs.declared.shape.Reader as shape
use Rattle.job_language.specs.Table.{operation_of, role_of}
use Rattle.job_language.specs.Calls.{Call}
use Rattle.job_language.specs.Causes.{is_column}
use Rattle.job_language.specs.Splitting.{call_at, AreEnds}
use Rattle.job_language.specs.Grammar.{Piece, call, begin_concat, owner, comma, close, dot, semicolon, piece_words}
use Rattle.job_language.specs.Grammar.{pieces_words, Job, IsSpelled, IsJob}
use Rattle.job_language.specs.Arguments.{PlacedCall}
use Rattle.job_language.specs.Verdicts.{placed, placed_calls}
use Rattle.job_language.specs.Reading.{mark_of, IsPiece, ArePieces, coded, reads, begins}

-- the call whose parts end there, in the words after its parenthesis
abbrev pub call_in : List Word → code.WrittenCall → Call
call_in ws c = call_at c.operation (drop (c.opened + 1) ws) c.ends.items

abbrev pub calls_in : List Word → List code.WrittenCall → List Call
calls_in ws [] = []
calls_in ws (c ∷ cs) = call_in ws c ∷ calls_in ws cs

-- the call whose words stand there, with its place
abbrev pub placed_in : List Word → code.WrittenCall → PlacedCall
placed_in ws c = record { opened = c.opened; call = call_in ws c }

abbrev pub all_placed : List Word → List code.WrittenCall → List PlacedCall
all_placed ws [] = []
all_placed ws (c ∷ cs) = placed_in ws c ∷ all_placed ws cs

-- the parenthesis is the word after this place
abbrev pub OpensAfter : ℕ → Option code.WrittenCall → Type 0
OpensAfter at None = Unit {0}
OpensAfter at (Some c) = c.opened ≡ suc at

-- the parenthesis and the ends of a call stand in the words
pub record StandsIn (ws : List Word) (c : code.WrittenCall) : Type 0 where
  pub opened : c.opened < length ws
  pub ends : AreEnds 0 c.ends.items (length (drop (c.opened + 1) ws))

abbrev pub StandIn : List Word → List code.WrittenCall → Type 0
StandIn ws [] = Unit {0}
StandIn ws (c ∷ cs) = StandsIn ws c × StandIn ws cs

abbrev pub MayStandIn : List Word → Option code.WrittenCall → Type 0
MayStandIn ws None = Unit {0}
MayStandIn ws (Some c) = StandsIn ws c

-- how many words a call has with these ends, after its opening parenthesis
abbrev pub width : List ℕ → ℕ
width [] = 1
width (e ∷ []) = e + 1
width (e ∷ d ∷ es) = width (d ∷ es)

-- the piece of a mark without a call
abbrev pub sign_piece : Mark → Piece
sign_piece (mark.Call r) = begin_concat
sign_piece mark.Owner = owner
sign_piece mark.Comma = comma
sign_piece mark.Close = close
sign_piece mark.Dot = dot
sign_piece mark.Semicolon = semicolon

-- the words from place at on begin with this piece, up to place to
pub record Begins (ws : List Word) (at : ℕ) (p : Piece) (to : ℕ) : Type 0 where
  pub piece : IsPiece p
  pub spelled : drop at ws ≡ piece_words p ++ drop to ws
  pub further : at < to
  pub within : to ≤ length ws

-- no piece stands at the front of the words
abbrev pub IsNoPiece : List Word → Type 0
IsNoPiece ws = (p : Piece) (rest : List Word) → IsPiece p → piece_words p ++ rest ≡ ws → ⊥

-- the piece of a symbol that is one
abbrev pub mark_of_symbol : Symbol → Option Mark
mark_of_symbol symbol.Comma = Some mark.Comma
mark_of_symbol symbol.Close = Some mark.Close
mark_of_symbol symbol.Dot = Some mark.Dot
mark_of_symbol symbol.Semicolon = Some mark.Semicolon
mark_of_symbol s = None

-- the piece that was read
abbrev pub piece_from : List Word → Mark → Option code.WrittenCall → Piece
piece_from ws m None = sign_piece m
piece_from ws m (Some c) = call (call_in ws c)

abbrev pub piece_of : List Word → piece.ReadPiece → Piece
piece_of ws r = piece_from ws r.mark r.call

pub record IsPieceRead (ws : List Word) (at : ℕ) (r : piece.ReadPiece) : Type 0 where
  pub begins : Begins ws at (piece_of ws r) r.to
  pub mark : mark_of (piece_of ws r) ≡ r.mark
  pub stands : MayStandIn ws r.call
  pub opens : OpensAfter at r.call

abbrev pub is_open : Word → Bool
is_open (sign symbol.Open) = true
is_open w = false

-- the operation that a word names
abbrev pub operation_in : Word → Option Operation
operation_in (named w) = operation_of w
operation_in w = None

-- a word by itself is the piece of this mark
pub record IsMarkOf (w : Word) (m : Mark) : Type 0 where
  pub spelled : piece_words (sign_piece m) ≡ w ∷ []
  pub mark : mark_of (sign_piece m) ≡ m
  pub piece : IsPiece (sign_piece m)

-- the words begin with a name and `=`
abbrev pub begins_job : List Word → Bool
begins_job (named n ∷ sign symbol.Assign ∷ ws) = true
begins_job ws = false

-- the words are printed from no job
abbrev pub IsNotSpelled : List Word → Type 0
IsNotSpelled ws = (j : Job) → IsSpelled ws j → ⊥

-- these are the calls of a job with these words, in order of writing
pub record AreCallsOf (ws : List Word) (cs : List PlacedCall) : Type 0 where
  pub job : Job
  pub spelled : IsSpelled ws job
  pub calls : cs ≡ placed_calls job

abbrev pub is_last : Mode → Bool
is_last mode.AfterTerminal = true
is_last mode.AfterFallback = true
is_last mode.End = true
is_last k = false

-- the words before this place are a name, `=` and whole pieces, and what was read of them
pub record IsReading (ws : List Word) (r : shape.Reader) : Type 0 where
  pub done : List Piece
  pub pieces : ArePieces done
  pub spelled : pieces_words done ++ drop r.at ws ≡ drop 2 ws
  pub place : coded (reads begins done) ≡ Some (r.mode, reverse r.commas.items)
  pub calls : all_placed ws r.calls.items ≡ placed 2 done
  pub far : r.at ≡ 2 + length (pieces_words done)
  pub stand : StandIn ws r.calls.items
  pub within : r.at ≤ length ws

-- one piece more is read, or no job has these words
abbrev pub Advances : List Word → shape.Reader → shape.Reader → Bool → Type 0
Advances ws old new true = IsReading ws new × (old.at < new.at)
Advances ws old new false = IsNotSpelled ws

-- these are the calls of a job that these words are, in order of writing
pub record AreCallsIn (ws : List Word) (cs : List PlacedCall) : Type 0 where
  pub job : Job
  pub is : IsJob ws job
  pub calls : cs ≡ placed_calls job

-- where part i begins: at a, or after the end of the part before it
abbrev pub start_before : ℕ → List ℕ → ℕ → ℕ
start_before a es zero = a
start_before a es (suc i) = get_or es i 0 + 1

-- how many of the calls are sources
abbrev pub one_if_source : Role → ℕ
one_if_source role.Source = 1
one_if_source r = 0

abbrev pub sources_in : List Call → ℕ
sources_in [] = 0
sources_in (c ∷ cs) = one_if_source (role_of c.operation) + sources_in cs

-- whether the first of the calls is a column
abbrev pub begins_with_column : List Call → Bool
begins_with_column [] = false
begins_with_column (c ∷ cs) = is_column c.operation

-- whether the one source among the calls is a column
abbrev pub has_one_column : List Call → Bool
has_one_column cs = nat_eq (sources_in cs) 1 && begins_with_column cs

-- the name that the words begin with
abbrev pub first_name : List Word → List ℕ
first_name (named w ∷ ws) = w
first_name ws = []
