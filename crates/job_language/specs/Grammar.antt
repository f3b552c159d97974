-- Meaning: the grammar of one job, apart from any reader.
use Rattle.std.specs.Prelude.{◌≡◌, ℕ, Bool, true, false, not, List, [], ◌∷◌, ◌++◌, codes, Option, Some, None}
use Rattle.std.specs.List.{list_all}
use Rattle.stream_tokens.specs.declared.symbol.Symbol.{Symbol}
use Rattle.stream_tokens.specs.declared.symbol.Symbol.TheVariants as symbol
use Rattle.lambda_expr.specs.Words.{Word, named, numeral, quoted, referred, sign, bad}
use Rattle.lambda_expr.specs.Numerals.{is_numeral}
use Rattle.job_language.specs.declared.operation.Operation.TheVariants.{Concat}
use Rattle.job_language.specs.declared.operation.Role.{Role}
use Rattle.job_language.specs.declared.operation.Role.TheVariants as role
use Rattle.job_language.specs.Table.{name_of, role_of}
use Rattle.job_language.specs.Calls.{Call, IsCall, call_words}

-- the two symbols that stand in no job
abbrev pub is_step : Symbol → Bool
is_step symbol.PlusPlus = true
is_step symbol.MinusMinus = true
is_step s = false

-- a word that stands in a grammar: no bad byte, not `++` or `--`, no number of two or more digits that begins with 0
abbrev pub is_sound : Word → Bool
is_sound (named w) = true
is_sound (numeral w) = is_numeral w
is_sound (quoted w) = true
is_sound (referred w) = true
is_sound (sign s) = not (is_step s)
is_sound bad = false

-- a source as it is written, with or without `LongStream.` before it: a call, or a `concat` of two sources or more
mutual
  pub data Source : Type 0 where
    plain : Bool → Call → Source
    concat : Bool → Sources → Source

  pub data Sources : Type 0 where
    two : Source → Source → Sources
    more : Sources → Source → Sources

-- a job as it is written; the fallback is what stands after the terminal, if anything does
pub record Job : Type 0 where
  pub name : List ℕ
  pub source : Source
  pub stages : List Call
  pub terminal : Call
  pub fallback : Option Call
  pub semicolon : Bool

-- a job after its `=`, cut into pieces: calls, and what stands between them
pub data Piece : Type 0 where
  call : Call → Piece
  begin_concat : Piece
  owner : Piece
  comma : Piece
  close : Piece
  dot : Piece
  semicolon : Piece

abbrev pub piece_words : Piece → List Word
piece_words (call c) = call_words c
piece_words begin_concat = named (name_of Concat) ∷ sign symbol.Open ∷ []
piece_words owner = named (codes "LongStream") ∷ []
piece_words comma = sign symbol.Comma ∷ []
piece_words close = sign symbol.Close ∷ []
piece_words dot = sign symbol.Dot ∷ []
piece_words semicolon = sign symbol.Semicolon ∷ []

abbrev pub pieces_words : List Piece → List Word
pieces_words [] = []
pieces_words (p ∷ ps) = piece_words p ++ pieces_words ps

-- `LongStream.`, if it is there
abbrev pub owned : Bool → List Piece
owned true = owner ∷ dot ∷ []
owned false = []

abbrev mutual
  pub source_pieces : Source → List Piece
  source_pieces (plain q c) = owned q ++ call c ∷ []
  source_pieces (concat q ss) = owned q ++ begin_concat ∷ (sources_pieces ss ++ close ∷ [])

  pub sources_pieces : Sources → List Piece
  sources_pieces (two a b) = source_pieces a ++ comma ∷ source_pieces b
  sources_pieces (more ss s) = sources_pieces ss ++ comma ∷ source_pieces s

-- each after a dot
abbrev pub steps_pieces : List Call → List Piece
steps_pieces [] = []
steps_pieces (c ∷ cs) = dot ∷ call c ∷ steps_pieces cs

abbrev pub ending : Bool → List Piece
ending true = semicolon ∷ []
ending false = []

-- after a dot, if it is there
abbrev pub fallback_pieces : Option Call → List Piece
fallback_pieces None = []
fallback_pieces (Some c) = dot ∷ call c ∷ []

-- the pieces of a job, in order of writing
abbrev pub job_pieces : Job → List Piece
job_pieces j =
    source_pieces j.source
    ++ (steps_pieces j.stages ++ dot ∷ call j.terminal ∷ (fallback_pieces j.fallback ++ ending j.semicolon))

-- the words of a job: its name, `=`, and its pieces
abbrev pub job_words : Job → List Word
job_words j = named j.name ∷ sign symbol.Assign ∷ pieces_words (job_pieces j)

-- a call of an operation that stands there
pub record IsCallAs (r : Role) (c : Call) : Type 0 where
  pub role : role_of c.operation ≡ r
  pub call : IsCall c

abbrev mutual
  pub IsSource : Source → Type 0
  IsSource (plain q c) = IsCallAs role.Source c
  IsSource (concat q ss) = AreSources ss

  pub AreSources : Sources → Type 0
  AreSources (two a b) = IsSource a × IsSource b
  AreSources (more ss s) = AreSources ss × IsSource s

abbrev pub AreStages : List Call → Type 0
AreStages [] = Unit {0}
AreStages (c ∷ cs) = IsCallAs role.Stage c × AreStages cs

abbrev pub IsFallback : Option Call → Type 0
IsFallback None = Unit {0}
IsFallback (Some c) = IsCallAs role.Fallback c

-- the words are printed from this job
pub record IsSpelled (ws : List Word) (j : Job) : Type 0 where
  pub source : IsSource j.source
  pub stages : AreStages j.stages
  pub terminal : IsCallAs role.Terminal j.terminal
  pub fallback : IsFallback j.fallback
  pub spelled : job_words j ≡ ws

-- the words are this job
pub record IsJob (ws : List Word) (j : Job) : Type 0 where
  pub sound : list_all is_sound ws ≡ true
  pub spelled : IsSpelled ws j

abbrev pub IsNoJob : List Word → Type 0
IsNoJob ws = (j : Job) → IsJob ws j → ⊥

-- the calls among pieces
abbrev pub calls_of : List Piece → List Call
calls_of [] = []
calls_of (call c ∷ ps) = c ∷ calls_of ps
calls_of (p ∷ ps) = calls_of ps

-- the plain sources of a source; the sources inside each `concat` in order
abbrev pub plain_sources : Source → List Call
plain_sources s = calls_of (source_pieces s)

abbrev pub fallback_calls : Option Call → List Call
fallback_calls None = []
fallback_calls (Some c) = c ∷ []

-- the calls of a job in order of writing
abbrev pub job_calls : Job → List Call
job_calls j = plain_sources j.source ++ (j.stages ++ j.terminal ∷ fallback_calls j.fallback)
