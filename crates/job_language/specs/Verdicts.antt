-- Meaning: what the text of a job is read as: the job, or the first cause for which it is refused.
use Rattle.std.specs.Prelude.{◌≡◌, ℕ, suc, ◌+◌, ◌<◌, ◌≤◌, ℤ, ◌⊎◌, List, [], ◌∷◌, ◌++◌, length, Option, Some, None}
use Rattle.std.specs.Prelude.{Bool, ◌&&◌, if◌then◌else◌, Result, Ok, Err}
use Rattle.stream_tokens.specs.declared.token.Token.{Token}
use Rattle.stream_tokens.specs.Tokens.{AreTokensOf}
use Rattle.stream_tokens.specs.CutTexts.{TokenizedText}
use Rattle.lambda_expr.specs.Words.{words_of}
use Rattle.tables.specs.Table.{NamedColumn}
use Rattle.job_language.specs.declared.fault.Cause.{Cause}
use Rattle.job_language.specs.declared.fault.Cause.TheVariants as cause
use Rattle.job_language.specs.declared.operation.Operation.{Operation}
use Rattle.job_language.specs.declared.terminal.Gives.{Gives}
use Rattle.job_language.specs.declared.terminal.Gives.TheVariants as gives
use Rattle.job_language.specs.Rows.{Argument, AbstractCall, source, stage, terminal, fallback}
use Rattle.job_language.specs.Table.{role_of, built_of}
use Rattle.job_language.specs.Calls.{call_words}
use Rattle.job_language.specs.Grammar.{Piece, call, piece_words, job_pieces, Job, IsJob, IsNoJob}
use Rattle.job_language.specs.Jobs.{AbstractPlainSource, AbstractJobStage, AbstractTerminal, AbstractJob, given_by}
use Rattle.job_language.specs.Causes.{Earlier, Scope, first_cause, stage_cause, early_causes, numbers_of, causes_of}
use Rattle.job_language.specs.Causes.{goes_over_rows}
use Rattle.job_language.specs.Arguments.{PlacedCall, IsArgumentRead, reads_cells}

-- a call whose numbers have no fault
abbrev pub call_answer : Operation → List ℤ → Result Argument Cause → Result AbstractCall Cause
call_answer o ks (Err e) = Err e
call_answer o ks (Ok a) = built_of o a ks

-- a call is refused for its number of parts, its numbers, its last part, and at last for the two together
abbrev pub IsReadAfter : Option Cause → Scope → TokenizedText → PlacedCall → Result AbstractCall Cause → Type 0
IsReadAfter (Some e) scope t c r = Err e ≡ r
IsReadAfter None scope t c r =
    (a : Result Argument Cause) × IsArgumentRead scope t c a
    × (call_answer c.call.operation (numbers_of c.call.operation (length c.call.parts) 0 c.call.parts) a ≡ r)

abbrev pub IsCallRead : Scope → TokenizedText → PlacedCall → Result AbstractCall Cause → Type 0
IsCallRead scope t c r = IsReadAfter (first_cause (early_causes c.call)) scope t c r

-- a stage after 32 others is refused before all else
abbrev pub IsReadInTurn : Option Cause → Scope → TokenizedText → PlacedCall → Result AbstractCall Cause → Type 0
IsReadInTurn (Some e) scope t c r = Err e ≡ r
IsReadInTurn None scope t c r = IsCallRead scope t c r

-- a job that is being read: it has a terminal once its terminal was read
pub record BegunJob : Type 0 where
  pub name : List ℕ
  pub sources : List AbstractPlainSource
  pub stages : List AbstractJobStage
  pub terminal : Option AbstractTerminal
  pub on_fault : Option ℤ

-- with one more part
abbrev pub added : BegunJob → AbstractCall → BegunJob
added j (source s) = record j { sources = j.sources ++ s ∷ [] }
added j (stage g) = record j { stages = j.stages ++ g ∷ [] }
added j (terminal d) = record j { terminal = Some d }
added j (fallback z) = record j { on_fault = Some z }

-- the columns whose rows the items are, if they are rows and lambdas may have cells
abbrev pub table_of : Scope → List NamedColumn
table_of scope = if reads_cells scope && scope.rows then scope.columns else []

-- the job after its last call; in the grammar none is without a terminal
abbrev pub finished_by : Scope → BegunJob → Option AbstractTerminal → Result AbstractJob Cause
finished_by scope j None = Err cause.Syntax
finished_by scope j (Some d) =
    Ok
    (record {
      name = j.name;
      sources = j.sources;
      stages = j.stages;
      terminal = d;
      on_fault = j.on_fault;
      table = table_of scope;
    })

abbrev pub finished : Scope → BegunJob → Result AbstractJob Cause
finished scope j = finished_by scope j j.terminal

-- a terminal that gives numbers may have a number to give after a fault
abbrev pub fallback_for : Gives → ℤ → Result AbstractCall Cause
fallback_for gives.Number z = Ok (fallback z)
fallback_for g z = Err cause.NotScalar

-- a number to give after a fault is refused if no terminal comes before it
abbrev pub fallback_below : Option AbstractTerminal → ℤ → Result AbstractCall Cause
fallback_below None z = Err cause.NotScalar
fallback_below (Some d) z = fallback_for (given_by d) z

-- what a call is below this terminal, if it stands below one
abbrev pub below_terminal : Option AbstractTerminal → Result AbstractCall Cause → Result AbstractCall Cause
below_terminal d (Ok (fallback z)) = fallback_below d z
below_terminal d (Ok (source s)) = Ok (source s)
below_terminal d (Ok (stage g)) = Ok (stage g)
below_terminal d (Ok (terminal e)) = Ok (terminal e)
below_terminal d (Err e) = Err e

-- what the next call of a job is read as
abbrev pub IsNextCall : BegunJob → Scope → TokenizedText → PlacedCall → Result AbstractCall Cause → Type 0
IsNextCall j scope t c r =
    (q : Result AbstractCall Cause)
    × IsReadInTurn (stage_cause (length j.stages) (role_of c.call.operation)) scope t c q
    × (below_terminal j.terminal q ≡ r)

-- the calls that are left, in order of writing: the first that is refused gives the cause
abbrev pub AreRead : Scope → TokenizedText → BegunJob → List PlacedCall → Result AbstractJob Cause → Type 0
AreRead scope t j [] r = finished scope j ≡ r
AreRead scope t j (c ∷ cs) r =
    ((e : Cause) × IsNextCall j scope t c (Err e) × (Err e ≡ r))
    ⊎ ((g : AbstractCall) × IsNextCall j scope t c (Ok g) × AreRead scope t (added j g) cs r)

-- a job before its parts
abbrev pub job_named : List ℕ → BegunJob
job_named w = record { name = w; sources = []; stages = []; terminal = None; on_fault = None }

-- calls with their places, after n words
abbrev pub placed : ℕ → List Piece → List PlacedCall
placed n [] = []
placed n (call c ∷ ps) = record { opened = suc n; call = c } ∷ placed (n + length (call_words c)) ps
placed n (p ∷ ps) = placed (n + length (piece_words p)) ps

-- the calls of a job: its name and `=` are two words
abbrev pub placed_calls : Job → List PlacedCall
placed_calls j = placed 2 (job_pieces j)

-- the scope of a job, where it is known whether its items are rows
abbrev pub scope_over : Scope → Bool → Scope
scope_over scope rows = record scope { rows = rows }

-- a job in the grammar is refused for its version, for its name, for too many plain sources, for a call
abbrev pub IsJobRead : Option Cause → Scope → TokenizedText → Job → Result AbstractJob Cause → Type 0
IsJobRead (Some e) scope t j r = Err e ≡ r
IsJobRead None scope t j r = AreRead (scope_over scope (goes_over_rows j)) t (job_named j.name) (placed_calls j) r

-- the text has more than 65,536 bytes
pub record IsTooLong (text : List ℕ) (r : Result AbstractJob Cause) : Type 0 where
  pub long : 65536 < length text
  pub refused : Err cause.TooLong ≡ r

-- the text is no job
pub record IsOutside (text : List ℕ) (r : Result AbstractJob Cause) : Type 0 where
  pub short : length text ≤ 65536
  pub tokens : List Token
  pub cut : AreTokensOf tokens text
  pub outside : IsNoJob (words_of text tokens)
  pub refused : Err cause.Syntax ≡ r

-- the text is this job
pub record IsInside (scope : Scope) (text : List ℕ) (r : Result AbstractJob Cause) : Type 0 where
  pub short : length text ≤ 65536
  pub tokens : List Token
  pub cut : AreTokensOf tokens text
  pub job : Job
  pub is : IsJob (words_of text tokens) job
  pub read : IsJobRead (first_cause (causes_of scope job)) scope (record { bytes = text; tokens = tokens }) job r

-- what a text is read as, with these earlier jobs and columns
pub data IsRead (scope : Scope) (text : List ℕ) (r : Result AbstractJob Cause) : Type 0 where
  long : IsTooLong text r → IsRead scope text r
  outside : IsOutside text r → IsRead scope text r
  inside : IsInside scope text r → IsRead scope text r

-- a job as later jobs see it
abbrev pub earlier_of : AbstractJob → Earlier
earlier_of j = record { name = j.name; gives = given_by j.terminal }
