-- Design: the report of a table, made of the reports of its parts.
use Rattle.std.specs.Prelude.{◌≡◌, ◌≢◌, ℕ, ◌+◌, ◌^◌, ◌<◌, List, [], ◌∷◌, ◌++◌, length, map, None, Some, slice_index_or}
use Rattle.columns.specs.TableForms.{cells_by, table_by}
use Rattle.tables.specs.Table.{NamedColumn, bare}
use Rattle.job_language.specs.Files.{IsRefusedWithin, SpellsJobsWithin}
use Rattle.job_language.specs.Jobs.{AbstractJob, names_of}
use Rattle.job_language.specs.declared.fault.Cause.TheVariants as cause
use Rattle.job_language.specs.declared.fault.JobFault.{JobFault}
use Rattle.job_meaning.specs.declared.answer.Answer.{Answer}
use Rattle.job_names.specs.JobNames.{names_of_texts}
use Rattle.merge_run.specs.declared.fault.ReportMergeFault.{ReportMergeFault}
use Rattle.merge_run.specs.declared.fault.ReportMergeFault.TheVariants.{Jobs, Unmergeable as CannotMerge, NoPart}
use Rattle.merge_run.specs.declared.fault.ReportMergeFault.TheVariants.{Part as OfPart, TooManyRows, NoMemory}
use Rattle.merge_run.specs.declared.fault.PartCause.{PartCause}
use Rattle.merge_run.specs.declared.fault.PartCause.TheVariants.{NoReport, Missing, MoreJobs, Impossible, Differs}
use Rattle.merge_run.specs.declared.part_report.PartReport.{PartReport}
use Rattle.merge_run.specs.Small.{ArePartsSmall, IsReportOfNone}
use Rattle.report.specs.Json.{report_json}
use Rattle.report.specs.Reports.{IsReport, form_for, report_in}
use Rattle.report_merge.specs.Apart.{IsApart}
use Rattle.report_merge.specs.declared.fault.MergeFault.{MergeFault}
use Rattle.report_merge.specs.declared.fault.MergeFault.TheVariants as answers_fault
use Rattle.report_merge.specs.Cuts.{IsCut, all_rows}
use Rattle.report_merge.specs.Mergeable.{first_unmergeable}
use Rattle.report_merge.specs.Merging.{Part, merged}
use Rattle.report_merge.specs.Possible.{first_impossible}
use Rattle.report_merge.specs.declared.unmergeable.Unmergeable.{Unmergeable}
use Rattle.run_settings.specs.Asked.{Asked}
use Rattle.run_settings.specs.declared.settings.Form.{Form}
use Rattle.run_settings.specs.declared.table.TableSetting.{TableSetting}
use Rattle.stream_tokens.specs.JobTexts.{job_texts_within}

-- the report of a part, with the rows that it has: as JSON, it holds these answers
pub record IsReportOf (names : List (List ℕ)) (report : PartReport) (part : Part) : Type 0 where
  pub rows : part.rows ≡ report.rows
  pub bytes : report.bytes.items ≡ report_json names part.answers

-- each report is of the part at its place, and there are no others
abbrev pub AreReportsOf : List (List ℕ) → List PartReport → List Part → Type 0
AreReportsOf names [] [] = Unit {0}
AreReportsOf names [] (p ∷ ps) = ⊥
AreReportsOf names (r ∷ rs) [] = ⊥
AreReportsOf names (r ∷ rs) (p ∷ ps) = IsReportOf names r p × AreReportsOf names rs ps

-- the file gives the columns of a table that has these parts, and their answers are what the jobs of these bytes mean
-- over
-- them, all read as it is asked for; the jobs of the list are over columns without cells
pub record IsTableOf (asked : Asked) (bytes : List ℕ) (jobs : List AbstractJob) (parts : List Part)
    (file : List ℕ) : Type 0 where
  pub over : List AbstractJob
  pub cut : IsCut (form_for asked bytes) asked.newest bytes jobs parts over
  pub read : cells_by (form_for asked bytes) file ≡ table_by (form_for asked bytes) (cut.header ∷ all_rows cut.tables)

-- no answer of a part is one that its job can't have
abbrev pub ArePossible : List AbstractJob → List Part → Type 0
ArePossible jobs [] = Unit {0}
ArePossible jobs (p ∷ ps) = (first_impossible jobs p ≡ None) × ArePossible jobs ps

-- the report of what the answers of the parts are merged to: for each table with parts whose answers of 64 bits the
-- reports
-- hold, however tables are read, it is the report of a run over this table that reads it so
pub record IsMergeOf (newest : ℕ) (jobs : List AbstractJob) (reports : List PartReport) (form : Form)
    (report : List ℕ) : Type 0 where
  pub mergeable : first_unmergeable jobs ≡ None
  pub parts : List Part
  pub read : AreReportsOf (names_of jobs) reports parts
  pub small : ArePartsSmall (names_of jobs) parts
  pub possible : ArePossible jobs parts
  pub answers : List Answer
  pub whole : merged jobs parts ≡ Some answers
  pub written : report ≡ report_in form (names_of jobs) answers
  pub of_table : (qs : List Part) → AreReportsOf (names_of jobs) reports qs → ArePartsSmall (names_of jobs) qs
      → (table : TableSetting) (bytes file : List ℕ)
      → IsTableOf (record { form = form; newest = newest; table = table }) bytes jobs qs file
      → IsReport (record {
        columns = Some file;
        jobs = bytes;
        asked = record { form = form; newest = newest; table = table };
      }) report

-- the columns that a job file names, without cells
abbrev pub columns_named : ℕ → List ℕ → List NamedColumn
columns_named newest bytes = map bare (names_of_texts (job_texts_within newest bytes))

-- the report that the reports of parts are merged to; the bytes of a job file spell the jobs over the columns that it
-- names, without cells
pub record IsMerged (newest : ℕ) (bytes : List ℕ) (reports : List PartReport) (form : Form) (report : List ℕ) : Type
    0 where
  pub jobs : List AbstractJob
  pub spelled : SpellsJobsWithin newest bytes (columns_named newest bytes) jobs
  pub merge : IsMergeOf newest jobs reports form report

-- over the columns that the job file names, without cells, the reader of jobs refuses this line of it
pub record IsRefusedAt (newest : ℕ) (bytes : List ℕ) (line : ℕ) : Type 0 where
  pub fault : JobFault
  pub known : fault.cause ≢ cause.NoMemory
  pub refused : IsRefusedWithin newest bytes (columns_named newest bytes) fault
  pub at : fault.line ≡ line

-- the job with this name is the first one that can't be merged, for this reason
pub record HasUnmergeable (jobs : List AbstractJob) (name : List ℕ) (reason : Unmergeable) : Type 0 where
  pub place : ℕ
  pub first : first_unmergeable jobs ≡ Some (place, reason)
  pub named : slice_index_or (names_of jobs) place [] ≡ name

-- this is the report with this index
pub record IsReportAt (reports : List PartReport) (number : ℕ) (report : PartReport) : Type 0 where
  pub before : List PartReport
  pub later : List PartReport
  pub all : reports ≡ before ++ report ∷ later
  pub number_is : number ≡ length before

-- the report with this index is no report as JSON of answers of these jobs
pub record HasNoReport (jobs : List AbstractJob) (reports : List PartReport) (number : ℕ) : Type 0 where
  pub report : PartReport
  pub at : IsReportAt reports number report
  pub none : IsReportOfNone (names_of jobs) report.bytes.items

-- the report with this index says answers of which that of the job with this name is the first one that can't be its
-- own
pub record HasImpossible (jobs : List AbstractJob) (reports : List PartReport) (number : ℕ) (name : List ℕ) : Type
    0 where
  pub report : PartReport
  pub at : IsReportAt reports number report
  pub part : Part
  pub read : IsReportOf (names_of jobs) report part
  pub place : ℕ
  pub first : first_impossible jobs part ≡ Some place
  pub named : slice_index_or (names_of jobs) place [] ≡ name

-- each report says answers that its jobs can have; those of the report with this index can't be merged with the answers
-- of
-- the reports before it, and the job with this name is the first one for which they can't
pub record HasDifferent (jobs : List AbstractJob) (reports : List PartReport) (number : ℕ) (name : List ℕ) : Type
    0 where
  pub parts : List Part
  pub read : AreReportsOf (names_of jobs) reports parts
  pub small : ArePartsSmall (names_of jobs) parts
  pub possible : ArePossible jobs parts
  pub place : ℕ
  pub apart : IsApart jobs parts number place
  pub named : slice_index_or (names_of jobs) place [] ≡ name

-- how many rows the parts have
abbrev pub rows_of : List PartReport → ℕ
rows_of [] = 0
rows_of (r ∷ rs) = r.rows + rows_of rs

-- one of these jobs has this name
pub record HasJob (jobs : List AbstractJob) (name : List ℕ) : Type 0 where
  pub place : ℕ
  pub within : place < length (names_of jobs)
  pub named : slice_index_or (names_of jobs) place [] ≡ name

-- why the report with this index isn't merged
abbrev pub IsPartRefused : List AbstractJob → List PartReport → ℕ → PartCause → Type 0
IsPartRefused jobs reports part NoReport = HasNoReport jobs reports part
IsPartRefused jobs reports part (Missing name) = HasNoReport jobs reports part × HasJob jobs name
IsPartRefused jobs reports part MoreJobs = HasNoReport jobs reports part
IsPartRefused jobs reports part (Impossible name) = HasImpossible jobs reports part name
IsPartRefused jobs reports part (Differs name) = HasDifferent jobs reports part name

-- why there is no report of these jobs
abbrev pub IsRefusalOf : List AbstractJob → List PartReport → ReportMergeFault → Type 0
IsRefusalOf jobs reports (Jobs line) = ⊥
IsRefusalOf jobs reports (CannotMerge name reason) = HasUnmergeable jobs name reason
IsRefusalOf jobs reports NoPart = reports ≡ []
IsRefusalOf jobs reports (OfPart part reason) = IsPartRefused jobs reports part reason
IsRefusalOf jobs reports TooManyRows = 2 ^ 62 < rows_of reports
IsRefusalOf jobs reports NoMemory = Unit {0}

-- helper: what a refusal of the parts' answers is called
abbrev pub called : List (List ℕ) → MergeFault → ReportMergeFault
called names answers_fault.NoPart = NoPart
called names answers_fault.TooManyRows = TooManyRows
called names answers_fault.NoMemory = NoMemory
called names (answers_fault.Part part job) = OfPart part (Differs (slice_index_or names job []))

-- over the columns that they name, without cells, the bytes spell jobs for which this is why there is no report
pub record IsRefusalOver (newest : ℕ) (bytes : List ℕ) (reports : List PartReport) (fault : ReportMergeFault) : Type
    0 where
  pub jobs : List AbstractJob
  pub spelled : SpellsJobsWithin newest bytes (columns_named newest bytes) jobs
  pub refused : IsRefusalOf jobs reports fault

-- why there is no report: what a refusal says of the job file and of the reports is so
abbrev pub IsMergeRefusal : ℕ → List ℕ → List PartReport → ReportMergeFault → Type 0
IsMergeRefusal newest bytes reports (Jobs line) = IsRefusedAt newest bytes line
IsMergeRefusal newest bytes reports NoMemory = Unit {0}
IsMergeRefusal newest bytes reports fault = IsRefusalOver newest bytes reports fault
