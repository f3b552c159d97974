-- Condition: tables that are cut into parts, and what the jobs of a file answer over each.
use Rattle.std.specs.Prelude.{◌≡◌, ℕ, if◌then◌else◌, List, [], ◌∷◌, ◌++◌, length, None, Ok}
use Rattle.columns.specs.TableForms.{AbstractForm, table_by}
use Rattle.tables.specs.Table.{NamedColumn}
use Rattle.job_language.specs.Files.{SpellsJobsWithin}
use Rattle.job_language.specs.Jobs.{AbstractJob}
use Rattle.job_meaning.specs.FileAnswers.{meaning_of}
use Rattle.report_merge.specs.Mergeable.{is_over_column}
use Rattle.report_merge.specs.Merging.{Part}

-- a row, and the header: the bytes of each cell
abbrev pub Row : Type 0
Row = List (List ℕ)

-- the bytes spell these jobs over the table with this header and these rows, which is read in this form, where the
-- newest
-- version of the language is this
pub record IsOver (form : AbstractForm) (newest : ℕ) (bytes : List ℕ) (header : Row) (rows : List Row)
    (jobs : List AbstractJob) : Type 0 where
  pub columns : List NamedColumn
  pub table : table_by form (header ∷ rows) ≡ Ok columns
  pub spelled : SpellsJobsWithin newest bytes columns jobs

-- helper: a job without `onFault`, if it is over a column, as the job with columns without cells says
abbrev pub asked_job : AbstractJob → AbstractJob → AbstractJob
asked_job unfilled job = if is_over_column unfilled then record job { on_fault = None } else job

-- what is run over a part: the jobs without `onFault` where they are over a column, since a number instead of a fault
-- says nothing of the parts after it. The first list has the jobs with columns without cells
abbrev pub asked : List AbstractJob → List AbstractJob → List AbstractJob
asked [] jobs = jobs
asked (h ∷ hs) [] = []
asked (h ∷ hs) (job ∷ jobs) = asked_job h job ∷ asked hs jobs

-- these are the rows of the part, and its answers are what the jobs mean over them
pub record IsAnswered (form : AbstractForm) (newest : ℕ) (bytes : List ℕ) (header : Row) (unfilled : List AbstractJob)
    (rows : List Row) (p : Part) : Type 0 where
  pub count : p.rows ≡ length rows
  pub jobs : List AbstractJob
  pub over : IsOver form newest bytes header rows jobs
  pub answered : p.answers ≡ meaning_of (asked unfilled jobs)

-- each part in turn; there is a part for each list of rows
abbrev pub AreAnswered : AbstractForm → ℕ → List ℕ → Row → List AbstractJob → List (List Row) → List Part → Type 0
AreAnswered form newest bytes header unfilled [] [] = Unit {0}
AreAnswered form newest bytes header unfilled [] (p ∷ ps) = ⊥
AreAnswered form newest bytes header unfilled (rows ∷ tables) [] = ⊥
AreAnswered form newest bytes header unfilled (rows ∷ tables) (p ∷ ps) =
    IsAnswered form newest bytes header unfilled rows p × AreAnswered form newest bytes header unfilled tables ps

-- the rows of the whole: those of its parts, one part after the other
abbrev pub all_rows : List (List Row) → List Row
all_rows [] = []
all_rows (rows ∷ tables) = rows ++ all_rows tables

-- columns without cells
abbrev pub AreBare : List NamedColumn → Type 0
AreBare [] = Unit {0}
AreBare (c ∷ cs) = (c.cells ≡ []) × AreBare cs

-- a table in parts with their answers, all read in this form: the bytes spell the first jobs with columns without
-- cells,
-- and the last ones over the whole table
pub record IsCut (form : AbstractForm) (newest : ℕ) (bytes : List ℕ) (unfilled : List AbstractJob) (parts : List Part)
    (whole : List AbstractJob) : Type 0 where
  pub header : Row
  pub tables : List (List Row)
  pub columns : List NamedColumn
  pub bare : AreBare columns
  pub named : SpellsJobsWithin newest bytes columns unfilled
  pub answered : AreAnswered form newest bytes header unfilled tables parts
  pub over : IsOver form newest bytes header (all_rows tables) whole
