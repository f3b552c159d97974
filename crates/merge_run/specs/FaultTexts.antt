-- Design: what a message says of reports that aren't merged, and the line on standard error.
use Rattle.std.specs.Prelude.{ℕ, ◌++◌, List, [], ◌∷◌, codes, decimal, map, slice_index_or}
use Rattle.report_merge.specs.FaultTexts.{unmergeable_text}
use Rattle.merge_run.specs.declared.fault.PartCause.{PartCause}
use Rattle.merge_run.specs.declared.fault.PartCause.TheVariants.{NoReport, Missing, MoreJobs, Impossible, Differs}
use Rattle.merge_run.specs.declared.fault.ReportMergeFault.{ReportMergeFault}
use Rattle.merge_run.specs.declared.fault.ReportMergeFault.TheVariants.{Jobs, Unmergeable, NoPart, Part, TooManyRows}
use Rattle.merge_run.specs.declared.fault.ReportMergeFault.TheVariants.{NoMemory}
use Rattle.merge_run.specs.declared.running.MergeAsked.{MergeAsked}
use Rattle.merge_run.specs.declared.running.MergeRunFault.{MergeRunFault}
use Rattle.merge_run.specs.declared.running.MergeRunFault.TheVariants as run_fault

-- why a report is none of the jobs
abbrev pub part_text : PartCause → List ℕ
part_text NoReport = codes "no report of streamrun --json"
part_text (Missing job) = codes "no answer of " ++ (job ++ codes " at its place")
part_text MoreJobs = codes "more answers than jobs"
part_text (Impossible job) = job ++ codes " can't have this answer"
part_text (Differs job) = job ++ codes " has another answer than in the reports before"

-- why there is no report of the whole
abbrev pub merge_text : ReportMergeFault → List ℕ
merge_text (Jobs line) = codes "line " ++ (decimal line ++ codes " is refused; streamrun says why")
merge_text (Unmergeable job cause) = job ++ (codes " can't be merged: " ++ unmergeable_text cause)
merge_text NoPart = codes "there is no report"
merge_text (Part number cause) = codes "report at index " ++ (decimal number ++ (codes ": " ++ part_text cause))
merge_text TooManyRows = codes "more rows than a table has"
merge_text NoMemory = codes "out of memory"

-- this text, said of a file
abbrev pub of_file : List ℕ → List ℕ → List ℕ
of_file path text = path ++ (codes ": " ++ text)

-- the path of the report with this index
abbrev pub path_of : MergeAsked → ℕ → List ℕ
path_of asked part = slice_index_or (map (λ path. path.now) asked.reports.now) part []

-- why there is no report of the whole, with the path of the file that is to blame
abbrev pub blaming_text : MergeAsked → ReportMergeFault → List ℕ
blaming_text asked (Jobs line) = of_file asked.jobs.now (merge_text (Jobs line))
blaming_text asked (Unmergeable job cause) = of_file asked.jobs.now (merge_text (Unmergeable job cause))
blaming_text asked (Part number cause) = of_file (path_of asked number) (part_text cause)
blaming_text asked fault = merge_text fault

-- what went wrong in a run
abbrev pub run_text : MergeAsked → MergeRunFault → List ℕ
run_text asked run_fault.JobsRead = of_file asked.jobs.now (codes "read failed")
run_text asked (run_fault.ReportRead part) = of_file (path_of asked part) (codes "read failed")
run_text asked (run_fault.Merge fault) = blaming_text asked fault
run_text asked (run_fault.Write n) = codes "write failed after " ++ (decimal n ++ codes " bytes")
run_text asked run_fault.NoMemory = codes "out of memory"

-- the bytes of the line: the program, what went wrong, and a line feed
abbrev pub line_of : MergeAsked → MergeRunFault → List ℕ
line_of asked fault = (codes "streamrun-merge: " ++ run_text asked fault) ++ 10 ∷ []
