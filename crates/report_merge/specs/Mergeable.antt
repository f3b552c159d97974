-- Design: which jobs over a table can be answered from their answers over parts of it. The jobs are read with columns
-- without cells.
use Rattle.std.specs.Prelude.{ℕ, ◌+◌, ℤ, Bool, true, false, ◌&&◌, ◌||◌, if◌then◌else◌, List, [], ◌∷◌, ◌++◌, Option}
use Rattle.std.specs.Prelude.{Some, None}
use Rattle.std.specs.List.{list_all}
use Rattle.std.specs.Ordering.{int_eq}
use Rattle.reduce_ops.specs.Operators.{identity_of}
use Rattle.job_language.specs.Jobs.{AbstractPlainSource, range, range_closed, values, result, AbstractJobStage, item}
use Rattle.job_language.specs.Jobs.{slice, prefix, sorted, distinct, AbstractTerminal, sum, count, min, max, to_array}
use Rattle.job_language.specs.Jobs.{reduce, reduce_from, find, exact_sum, AbstractJob}
use Rattle.job_language.specs.Places.{stage_is_placeless, terminal_is_placeless}
use Rattle.job_meaning.specs.Names.{names_in_job, same_name}
use Rattle.report_merge.specs.declared.unmergeable.Unmergeable.{Unmergeable}
use Rattle.report_merge.specs.declared.unmergeable.Unmergeable.TheVariants as cause

-- helper: whether there are no values
abbrev pub is_empty : List ℤ → Bool
is_empty [] = true
is_empty (v ∷ vs) = false

-- a column has no values here; a source that is written without values has none over any rows
abbrev pub is_column : AbstractPlainSource → Bool
is_column (range a b) = false
is_column (range_closed a b) = false
is_column (values vs) = is_empty vs
is_column (result name) = false

-- whether one of the sources is a column
abbrev pub reads_column : List AbstractPlainSource → Bool
reads_column [] = false
reads_column (s ∷ ss) = is_column s || reads_column ss

abbrev pub is_over_column : AbstractJob → Bool
is_over_column job = reads_column job.sources

-- whether there is one source and no more
abbrev pub is_single : List AbstractPlainSource → Bool
is_single [] = false
is_single (s ∷ []) = true
is_single (s ∷ t ∷ ss) = false

-- whether each stage looks at one item at a time
abbrev pub are_items : List AbstractJobStage → Bool
are_items [] = true
are_items (item g ∷ gs) = are_items gs
are_items (slice d ∷ gs) = false
are_items (prefix r f ∷ gs) = false
are_items (sorted ∷ gs) = false
are_items (distinct seen ∷ gs) = false

-- whether no lambda of a job looks at a cell of the item's row, or at the row's number: a part counts its rows from 0
abbrev pub job_is_placeless : AbstractJob → Bool
job_is_placeless job = list_all stage_is_placeless job.stages && terminal_is_placeless job.terminal

abbrev pub is_identity : Option ℤ → ℤ → Bool
is_identity None a = false
is_identity (Some i) a = int_eq i a

abbrev pub unless : Bool → Unmergeable → Option Unmergeable
unless true c = None
unless false c = Some c

-- an exact sum of the whole may be in 64 bits though one of a part isn't, and the other way round; a fold begins in
-- each part
-- with its number, which is to change nothing
abbrev pub terminal_cause : AbstractTerminal → Option Unmergeable
terminal_cause sum = None
terminal_cause count = None
terminal_cause min = None
terminal_cause max = None
terminal_cause to_array = None
terminal_cause (reduce f) = None
terminal_cause (reduce_from a f) = unless (is_identity (identity_of f) a) cause.NoIdentity
terminal_cause (find d) = None
terminal_cause exact_sum = Some cause.ExactSum

abbrev pub first_of_two : Option Unmergeable → Option Unmergeable → Option Unmergeable
first_of_two None c = c
first_of_two (Some b) c = Some b

-- why a job over a column can't be merged
abbrev pub column_cause : AbstractJob → Option Unmergeable
column_cause job = first_of_two (unless (is_single job.sources) cause.Concat)
    (first_of_two (unless (are_items job.stages) cause.Stage)
    (first_of_two (unless (job_is_placeless job) cause.Row) (terminal_cause job.terminal)))

-- whether one of these jobs with this name is over a column
abbrev pub is_column_job : List AbstractJob → List ℕ → Bool
is_column_job [] name = false
is_column_job (job ∷ jobs) name = (is_over_column job && same_name job.name name) || is_column_job jobs name

abbrev pub has_column_job : List AbstractJob → List (List ℕ) → Bool
has_column_job above [] = false
has_column_job above (name ∷ names) = is_column_job above name || has_column_job above names

-- why a job below these can't be merged: what it names over a column has another answer in each part
abbrev pub cause_below : List AbstractJob → AbstractJob → Option Unmergeable
cause_below above job =
    if has_column_job above (names_in_job job) then Some cause.NamesMerged
    else if is_over_column job then column_cause job
    else None

-- helper: a cause at a place, or else a later one
abbrev pub cause_or : ℕ → Option Unmergeable → Option (ℕ × Unmergeable) → Option (ℕ × Unmergeable)
cause_or place None later = later
cause_or place (Some c) later = Some (place, c)

-- the first job below these that can't be merged, and why; the next job has this place
abbrev pub unmergeable_below : ℕ → List AbstractJob → List AbstractJob → Option (ℕ × Unmergeable)
unmergeable_below place above [] = None
unmergeable_below place above (job ∷ jobs) =
    cause_or place (cause_below above job) (unmergeable_below (place + 1) (above ++ job ∷ []) jobs)

abbrev pub first_unmergeable : List AbstractJob → Option (ℕ × Unmergeable)
first_unmergeable jobs = unmergeable_below 0 [] jobs
