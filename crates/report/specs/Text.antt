-- Meaning: the bytes of a report.
use Rattle.std.specs.Prelude.{ℕ, List, [], ◌∷◌, ◌++◌, codes}
use Rattle.job_meaning.specs.declared.answer.Answer.{Answer}
use Rattle.report.specs.AnswerForms.{answer_text}

-- the line of a job: its name, its answer, a line feed
abbrev pub line_of : List (List ℕ) → List ℕ → Answer → List ℕ
line_of names name a = name ++ codes " = " ++ answer_text names a ++ codes "\n"

-- the lines of jobs, given the names of all of them
abbrev pub lines_of : List (List ℕ) → List (List ℕ) → List Answer → List ℕ
lines_of names [] answers = []
lines_of names (n ∷ ns) [] = []
lines_of names (n ∷ ns) (a ∷ more) = line_of names n a ++ lines_of names ns more

-- the report of jobs: one line per job, in file order
abbrev pub report_text : List (List ℕ) → List Answer → List ℕ
report_text names answers = lines_of names names answers
