-- Meaning: the answers of the jobs of a file.
use Rattle.std.specs.Prelude.{ℕ, suc, ℤ, if◌then◌else◌, List, [], ◌∷◌, ◌++◌, Option, Some, None}
use Rattle.lambda_values.specs.declared.env.NamedNumber.{NamedNumber}
use Rattle.job_language.specs.Jobs.{AbstractPlainSource, range, range_closed, values, result, AbstractJob}
use Rattle.job_meaning.specs.declared.answer.Answer.{Answer}
use Rattle.job_meaning.specs.declared.answer.Answer.TheVariants as answer
use Rattle.job_meaning.specs.Names.{names_in_job, same_name}
use Rattle.job_meaning.specs.Walks.{answer_of_job, array_of, is_usable, number_of}

-- the answer of a job, under the job's name
pub record NamedAnswer : Type 0 where
  pub name : List ℕ
  pub answer : Answer

-- an earlier job that a job names: its name, its place in the file, counted from 0, and its answer
pub record EarlierJob : Type 0 where
  pub name : List ℕ
  pub place : ℕ
  pub answer : Answer

-- helper: what was found, one place later
abbrev pub found_later : Option (ℕ × Answer) → Option (ℕ × Answer)
found_later None = None
found_later (Some found) = Some (suc found.0, found.1)

-- the first job with this name among these: its place, counted from 0, and its answer
abbrev pub found : List NamedAnswer → List ℕ → Option (ℕ × Answer)
found [] name = None
found (a ∷ more) name = if same_name a.name name then Some (0, a.answer) else found_later (found more name)

-- helper: the job with this name, if it was found
abbrev pub job_found : List ℕ → Option (ℕ × Answer) → List EarlierJob
job_found name None = []
job_found name (Some found) = record { name = name; place = found.0; answer = found.1 } ∷ []

-- the jobs with these names, in order of writing
abbrev pub jobs_found : List NamedAnswer → List (List ℕ) → List EarlierJob
jobs_found before [] = []
jobs_found before (name ∷ names) = job_found name (found before name) ++ jobs_found before names

-- the place of the first of these jobs whose answer can't be used
abbrev pub first_unusable : List EarlierJob → Option ℕ
first_unusable [] = None
first_unusable (j ∷ js) = if is_usable j.answer then first_unusable js else Some j.place

-- helper: a number under a name, if there is one
abbrev pub numbered : List ℕ → Option ℤ → List NamedNumber
numbered name None = []
numbered name (Some z) = record { name = name; number = z } ∷ []

-- the numbers of these jobs, under their names
abbrev pub numbers_of : List EarlierJob → List NamedNumber
numbers_of [] = []
numbers_of (j ∷ js) = numbered j.name (number_of j.answer) ++ numbers_of js

-- the array of the first of these jobs with this name
abbrev pub array_named : List EarlierJob → List ℕ → List ℤ
array_named [] name = []
array_named (j ∷ js) name = if same_name j.name name then array_of j.answer else array_named js name

-- a source; `result(name)` becomes the array of that job
abbrev pub put_in : List EarlierJob → AbstractPlainSource → AbstractPlainSource
put_in named (range a b) = range a b
put_in named (range_closed a b) = range_closed a b
put_in named (values vs) = values vs
put_in named (result name) = values (array_named named name)

-- several sources
abbrev pub all_put_in : List EarlierJob → List AbstractPlainSource → List AbstractPlainSource
all_put_in named [] = []
all_put_in named (s ∷ ss) = put_in named s ∷ all_put_in named ss

-- helper: unusable because of the job at this place, or else this answer
abbrev pub unless_unusable : Option ℕ → Answer → Answer
unless_unusable None a = a
unless_unusable (Some place) a = answer.Unusable place

-- the answer of a job that names these jobs: unusable because of the first one whose answer can't be used, or the
-- answer
-- of its walk, with their numbers and arrays
abbrev pub answer_with : List EarlierJob → AbstractJob → Answer
answer_with named job =
    unless_unusable (first_unusable named)
    (answer_of_job (record { earlier = numbers_of named; table = job.table })
    (record job { sources = all_put_in named job.sources }))

-- the answer of a job after the jobs before it
abbrev pub answer_after : List NamedAnswer → AbstractJob → Answer
answer_after before job = answer_with (jobs_found before (names_in_job job)) job

-- the answers of jobs in file order, after the answers of the jobs before them
abbrev pub answers_after : List NamedAnswer → List AbstractJob → List Answer
answers_after before [] = []
answers_after before (job ∷ jobs) = answer_after before job
    ∷ answers_after (before ++ record { name = job.name; answer = answer_after before job } ∷ []) jobs

-- the answers of the jobs of a file, in file order
abbrev pub meaning_of : List AbstractJob → List Answer
meaning_of jobs = answers_after [] jobs
