-- Meaning: a report as JSON (RFC 8259): one array on one line, with an object per job, and then a line feed.
use Rattle.std.specs.Prelude.{ℕ, List, [], ◌∷◌, ◌++◌, codes}
use Rattle.serde_json.specs.Data.{Data, array}
use Rattle.serde_json.specs.View.{items_of}
use Rattle.serde_json.specs.Written.{compact_text}
use Rattle.job_meaning.specs.declared.answer.Answer.{Answer}
use Rattle.report.specs.AnswerForms.{job_json}

-- the objects of jobs, given the names of all of them
abbrev pub jobs_json : List (List ℕ) → List (List ℕ) → List Answer → List Data
jobs_json names [] answers = []
jobs_json names (n ∷ ns) [] = []
jobs_json names (n ∷ ns) (a ∷ more) = job_json names n a ∷ jobs_json names ns more

-- the report of jobs as JSON: their objects in file order, without blanks
abbrev pub report_json : List (List ℕ) → List Answer → List ℕ
report_json names answers = compact_text (array (items_of (jobs_json names names answers))) ++ codes "\n"
