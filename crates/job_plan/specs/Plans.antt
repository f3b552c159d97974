-- Design: the routes of the jobs of a file.
use Rattle.std.specs.Prelude.{◌≡◌, ℕ, suc, List, [], ◌∷◌, ◌++◌, length, Option, Some, None, option_map, slice_get}
use Rattle.lambda_values.specs.Earlier.{Numbers}
use Rattle.tables.specs.Table.{NamedColumn}
use Rattle.lambda_values.specs.Earlier.{table_in}
use Rattle.job_language.specs.Jobs.{AbstractJob, AbstractPlainSource, sources_of}
use Rattle.job_meaning.specs.declared.answer.Answer.{Answer}
use Rattle.job_meaning.specs.FileAnswers.{EarlierJob, all_put_in, first_unusable, numbers_of, unless_unusable}
use Rattle.job_meaning.specs.Names.{names_in_job, place_of}
use Rattle.job_meaning.specs.Walks.{after_stages, answer_of, fallback_of, instead_of_fault, source_walk}
use Rattle.job_routes.specs.Legs.{AbstractLegs, fallback_in, leg_in, legs_answer, legs_in}
use Rattle.job_plan.specs.declared.plan.JobPlan.{JobPlan}
use Rattle.job_plan.specs.declared.plan.Named.{Named}

-- the route of a job: its sources; its legs; the earlier jobs that it names; and what it gives after a fault, if
-- anything
pub record AbstractPlan : Type 0 where
  pub name : List ℕ
  pub named : List Named
  pub sources : List AbstractPlainSource
  pub legs : AbstractLegs
  pub fallback : Option Answer
  pub table : List NamedColumn

-- helper: a name with its place, if it has one
abbrev pub placed : List ℕ → Option ℕ → List Named
placed name None = []
placed name (Some place) = record { name = name; job = place } ∷ []

-- the names among the names of earlier jobs, each with the place of the first job of that name
abbrev pub all_placed : List (List ℕ) → List (List ℕ) → List Named
all_placed before [] = []
all_placed before (name ∷ names) = placed name (place_of before name) ++ all_placed before names

-- the answer of a job by its route
abbrev pub planned_answer : Numbers → AbstractPlan → Answer
planned_answer env plan = instead_of_fault plan.fallback (legs_answer plan.legs env (source_walk plan.sources))

-- helper: a job with its answer, if that is there
abbrev pub job_at : Named → Option Answer → List EarlierJob
job_at n None = []
job_at n (Some a) = record { name = n.name; place = n.job; answer = a } ∷ []

-- jobs with their answers, which are found by their places
abbrev pub jobs_at : List Answer → List Named → List EarlierJob
jobs_at before [] = []
jobs_at before (n ∷ ns) = job_at n (slice_get before n.job) ++ jobs_at before ns

-- the answer of a job after the answers of the jobs before it
abbrev pub planned_after : List Answer → AbstractPlan → Answer
planned_after before plan =
    let named = jobs_at before plan.named in
    unless_unusable (first_unusable named)
    (planned_answer (record { earlier = numbers_of named; table = plan.table })
    (record plan { sources = all_put_in named plan.sources }))

-- the answers of jobs in file order, after the answers of the jobs before them
abbrev pub planned_from : List Answer → List AbstractPlan → List Answer
planned_from before [] = []
planned_from before (plan ∷ plans) = planned_after before plan
    ∷ planned_from (before ++ planned_after before plan ∷ []) plans

-- the answers of the jobs of a file, in file order
abbrev pub planned_meaning : List AbstractPlan → List Answer
planned_meaning plans = planned_from [] plans

-- a route of a job, after jobs with these names: it has the job's answer, whatever the arrays and the numbers of
-- earlier
-- jobs are
pub record IsRoute (before : List (List ℕ)) (plan : AbstractPlan) (job : AbstractJob) : Type 0 where
  pub name : plan.name ≡ job.name
  pub named : plan.named ≡ all_placed before (names_in_job job)
  pub sources : plan.sources ≡ job.sources
  pub fallback : plan.fallback ≡ fallback_of job
  pub table : plan.table ≡ job.table
  pub answers : (env : Numbers) (ss : List AbstractPlainSource) → legs_answer plan.legs env (source_walk ss)
      ≡ answer_of (suc (length job.stages)) env job.terminal (after_stages 1 job.stages env (source_walk ss))

-- routes of jobs, in file order
abbrev pub AreRoutes : List (List ℕ) → List AbstractPlan → List AbstractJob → Type 0
AreRoutes before [] [] = Unit {0}
AreRoutes before [] (job ∷ jobs) = ⊥
AreRoutes before (plan ∷ plans) [] = ⊥
AreRoutes before (plan ∷ plans) (job ∷ jobs) = IsRoute before plan job × AreRoutes (before ++ job.name ∷ []) plans jobs

-- the route of a job of the program, and several
abbrev pub plan_in : JobPlan → AbstractPlan
plan_in j = record {
  name = j.name;
  named = j.named.items;
  sources = sources_of j.sources.items;
  legs = record { search = j.search; scans = legs_in j.scans.items; last = leg_in j.last };
  fallback = option_map fallback_in j.fallback;
  table = table_in j.table;
}

abbrev pub plans_in : List JobPlan → List AbstractPlan
plans_in [] = []
plans_in (j ∷ js) = plan_in j ∷ plans_in js

-- the names of jobs of the program
abbrev pub plan_names : List JobPlan → List (List ℕ)
plan_names [] = []
plan_names (j ∷ js) = j.name ∷ plan_names js
