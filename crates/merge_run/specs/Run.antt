-- Design: what a run of the program that merges reports writes, of what its files hold, and its status.
use Rattle.std.specs.Prelude.{◌≡◌, ℕ, ◌<◌, List, [], ◌∷◌, length, map, take, slice_index_or, Option, IfErr, IfSome}
use Rattle.std.specs.Prelude.{OnOk, Result, Ok, Err}
use Rattle.std.specs.Io.KnownBytes.{Appends, Keeps}
use Rattle.counted_io.specs.FailureCounts.{HasRisen}
use Rattle.merge_run.specs.declared.fault.ReportMergeFault.{ReportMergeFault}
use Rattle.merge_run.specs.declared.fault.ReportMergeFault.TheVariants as merge_fault
use Rattle.merge_run.specs.declared.part_report.PartReport.{PartReport}
use Rattle.merge_run.specs.declared.running.MergeAsked.{MergeAsked}
use Rattle.merge_run.specs.declared.running.MergeRunFault.{MergeRunFault}
use Rattle.merge_run.specs.declared.running.MergeRunFault.TheVariants.{JobsRead, ReportRead, Merge, Write, NoMemory}
use Rattle.merge_run.specs.declared.running.PartFile.{PartFile}
use Rattle.merge_run.specs.Merged.{IsMerged, IsMergeRefusal}
use Rattle.run_settings.specs.SettingsParts.{newest_in}
use Rattle.run_settings.specs.declared.settings.Form.{Form}

-- what a run is given: the bytes of its job file, the reports of the parts, and what is asked for
pub record MergeInput : Type 0 where
  pub jobs : List ℕ
  pub reports : List PartReport
  pub newest : ℕ
  pub form : Form

-- these are the bytes that a file has left, if it is known which these are
abbrev pub IsWhole : Option (List ℕ) → List ℕ → Type 0
IsWhole left bytes = IfSome left (λ known. bytes ≡ known)

-- these are the reports that the files of parts have left, with the rows of each part
abbrev pub AreReports : {R : Type 0} → (R → Option (List ℕ)) → List (PartFile R) → List PartReport → Type 0
AreReports remaining [] [] = Unit {0}
AreReports remaining [] (r ∷ rs) = ⊥
AreReports remaining (f ∷ fs) [] = ⊥
AreReports remaining (f ∷ fs) (r ∷ rs) =
    (r.rows ≡ f.rows) × IsWhole (remaining f.file) r.bytes.items × AreReports remaining fs rs

-- this is what a run is given: what its files have left, and what is asked for
pub record IsGiven {R : Type 0} (remaining : R → Option (List ℕ)) (jobs : Option (List ℕ)) (parts : List (PartFile R))
    (asked : MergeAsked) (input : MergeInput) : Type 0 where
  pub job_file : IsWhole jobs input.jobs
  pub part_files : AreReports remaining parts input.reports
  pub newest_read : input.newest ≡ newest_in asked.language
  pub form_asked : input.form ≡ asked.form

-- a writer that held these bytes before and those after took the merged report and nothing else
abbrev pub Reported : MergeInput → Option (List ℕ) → Option (List ℕ) → Type 0
Reported input before after = (report : List ℕ) × IsMerged input.newest input.jobs input.reports input.form report
    × Appends before after report

-- the first bytes of the merged report went out and no others
abbrev pub IsCutOff : MergeInput → Option (List ℕ) → Option (List ℕ) → ℕ → Type 0
IsCutOff input before after n =
    (report : List ℕ) × IsMerged input.newest input.jobs input.reports input.form report × (n < length report)
    × Appends before after (take n report)

-- what a fault other than a failed write says of what is given
abbrev pub Says : (MergeInput → Type 0) → MergeRunFault → Type 0
Says given JobsRead = Unit {0}
Says given (ReportRead part) = Unit {0}
Says given (Merge fault) = (input : MergeInput) × given input
    × IsMergeRefusal input.newest input.jobs input.reports fault
Says given (Write n) = ⊥
Says given NoMemory = Unit {0}

-- what a fault says of what is given, and what the writer then holds: after a failed write the beginning of the report,
-- else what it held before
abbrev pub Faulted : (MergeInput → Type 0) → Option (List ℕ) → Option (List ℕ) → MergeRunFault → Type 0
Faulted given before after (Write n) = (input : MergeInput) × given input × IsCutOff input before after n
Faulted given before after fault = Says given fault × Keeps before after

-- the answer of a run that is given this, and a writer that held these bytes before and those after
abbrev pub IsAnswered : {X : Type 0} → (MergeInput → Type 0) → Option (List ℕ) → Option (List ℕ)
    → Result X MergeRunFault → Type 0
IsAnswered given before after answer =
    OnOk answer ((input : MergeInput) × given input × Reported input before after)
    × IfErr answer (Faulted given before after)

-- how often the job file, the files of the parts and the writer have failed
pub record FailureCounts : Type 0 where
  pub jobs : ℕ
  pub parts : List ℕ
  pub writer : ℕ

-- helper: these counts, by the count of a file
abbrev pub counts_of : {R : Type 0} → (R → ℕ) → ℕ → List (PartFile R) → ℕ → FailureCounts
counts_of failures jobs parts writer = record
    { jobs = jobs; parts = map (λ part. failures part.file) parts; writer = writer }

-- what a fault says of these counts before a run and after it: the file that couldn't be read has failed, or the writer
abbrev pub HasFailed : FailureCounts → FailureCounts → MergeRunFault → Type 0
HasFailed before after JobsRead = HasRisen before.jobs after.jobs
HasFailed before after (ReportRead part) =
    HasRisen (slice_index_or before.parts part 0) (slice_index_or after.parts part 0)
HasFailed before after (Merge fault) = Unit {0}
HasFailed before after (Write n) = HasRisen before.writer after.writer
HasFailed before after NoMemory = Unit {0}

-- 1 for input that is refused, 3 for out of memory
abbrev pub status_of_merge : ReportMergeFault → ℕ
status_of_merge (merge_fault.Jobs line) = 1
status_of_merge (merge_fault.Unmergeable job why) = 1
status_of_merge merge_fault.NoPart = 1
status_of_merge (merge_fault.Part part why) = 1
status_of_merge merge_fault.TooManyRows = 1
status_of_merge merge_fault.NoMemory = 3

-- 4 for a file that can't be read or written
abbrev pub status_of : MergeRunFault → ℕ
status_of JobsRead = 4
status_of (ReportRead part) = 4
status_of (Merge fault) = status_of_merge fault
status_of (Write n) = 4
status_of NoMemory = 3

-- after a run: 0 unless it answered a fault
abbrev pub status_after : {X : Type 0} → Result X MergeRunFault → ℕ
status_after (Ok x) = 0
status_after (Err fault) = status_of fault
