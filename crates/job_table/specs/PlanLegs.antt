-- Condition: the legs of a plan: what each goes over, and what its parts describe; and the plan as what a run is over.
use Rattle.std.specs.Prelude.{◌≡◌, ℕ, zero, suc, pos, ◌-◌, ◌^◌, min, take, List, [], length, Option, Some, None}
use Rattle.std.specs.Prelude.{slice_index_or}
use Rattle.std.specs.Prelude.{if◌then◌else◌, ◌==◌}
use Rattle.std.specs.Coded.{×_prop}
use Rattle.std.proofs.Props.{props}
use base.Stored.{Coded-set, coded_list}
use mir.Syntax.{static}
use Rattle.lambda_values.specs.Earlier.{Numbers}
use Rattle.lambda_values.specs.contracts.env.Env as envs
use Rattle.trace.specs.declared.item.Fault.{Fault}
use Rattle.trace.specs.Trace.{Trace}
use Rattle.trace.specs.contracts.chunk.Chunk as chunks
use Rattle.early_stop.specs.Decisive.{Decides}
use Rattle.prefix_walks.specs.Pieces.{piece_of}
use Rattle.job_meaning.specs.declared.answer.Answer.{Answer}
use Rattle.job_meaning.specs.declared.answer.Answer.TheVariants as answer
use Rattle.job_meaning.specs.contracts.answer.Answer as answers
use Rattle.job_meaning.specs.FileAnswers.{EarlierJob, all_put_in, first_unusable, numbers_of}
use Rattle.job_meaning.specs.Walks.{source_walk}
use Rattle.job_routes.specs.declared.outcome.Outcome.{Outcome}
use Rattle.job_routes.specs.Legs.{AbstractLeg, AbstractLegs, collecting, is_one_piece, leg_at, leg_walk, linked}
use Rattle.job_routes.specs.Legs.{given_walk, leg_outcome, outcome_of, scanned_from, searched}
use Rattle.job_routes.specs.declared.route.PlaceSide.{PlaceSide}
use Rattle.job_plan.specs.declared.part.Part.{Part}
use Rattle.job_plan.specs.declared.plan.JobPlan.{JobPlan}
use Rattle.job_plan.specs.contracts.plan.JobPlan as plans
use Rattle.job_plan.specs.Parts.{StandsEnough, fold_fault}
use Rattle.job_plan.specs.Plans.{AbstractPlan, jobs_at, planned_meaning}
use Rattle.job_runner.specs.Runs.{RunSpec}

-- what a run walks of a job: its legs, what the first of them is given, and the numbers of the jobs that it names
pub record AbstractChain : Type 0 where
  pub legs : AbstractLegs
  pub source : Trace
  pub numbers : Numbers

-- helper: the plan of no job
abbrev no_plan : AbstractPlan
no_plan = record {
  name = [];
  named = [];
  sources = [];
  legs = record {
    search = None;
    scans = [];
    last = record
        { from = 0; to = None; links = []; last = record { first = 0; stages = []; ending = collecting } };
  };
  fallback = None;
  table = [];
}

-- the job with this number
abbrev pub plan_at : List AbstractPlan → ℕ → AbstractPlan
plan_at plans job = slice_index_or plans job no_plan

-- the answer of the job with this number
abbrev pub answer_of : List AbstractPlan → ℕ → Answer
answer_of plans job = slice_index_or (planned_meaning plans) job (answer.Number (pos 0))

-- the answers of the jobs before the one with this number
abbrev pub answers_before : List AbstractPlan → ℕ → List Answer
answers_before plans job = take job (planned_meaning plans)

-- the jobs that the job with this number names, with their answers
abbrev pub named_at : List AbstractPlan → ℕ → List EarlierJob
named_at plans job = jobs_at (answers_before plans job) (plan_at plans job).named

-- what a run walks of the job with this number: with the arrays and the numbers of the jobs that it names, and its
-- table
abbrev pub chain_at : List AbstractPlan → ℕ → AbstractChain
chain_at plans job = record {
  legs = (plan_at plans job).legs;
  source = source_walk (all_put_in (named_at plans job) (plan_at plans job).sources);
  numbers = record { earlier = numbers_of (named_at plans job); table = (plan_at plans job).table };
}

-- the number of the leg that gives the answer
abbrev pub last_leg : AbstractLegs → ℕ
last_leg legs = length legs.scans

-- which positions the next leg goes over, if the leg with this number is a search
abbrev pub search_at : ℕ → AbstractLegs → Option PlaceSide
search_at zero legs = legs.search
search_at (suc k) legs = None

-- what a leg gives to the next one, of what it is given; it may be a search
abbrev pub gives_on : Option PlaceSide → AbstractLeg → Numbers → Trace → Trace
gives_on None l env t = given_walk (leg_outcome l env t)
gives_on (Some d) l env t = searched d l env t

-- what the leg of a job with this number is given, what it goes over of that, and what comes through its slices to its
-- last segment
abbrev pub given_at : AbstractChain → ℕ → Trace
given_at chain k = scanned_from chain.legs.search (take k chain.legs.scans) chain.numbers chain.source

abbrev pub source_at : AbstractChain → ℕ → Trace
source_at chain k = leg_walk (leg_at k chain.legs) (given_at chain k)

abbrev pub walk_at : AbstractChain → ℕ → Trace
walk_at chain k = linked (leg_at k chain.legs).links chain.numbers (source_at chain k)

-- how many positions a walk has; a run knows no more than 2^64 - 1
abbrev pub walk_size : Trace → ℕ
walk_size t = min (length t.items) (2 ^ 64 - 1)

-- how many positions a leg that is given this walk has for a run: if its walk is one piece, that has none
abbrev pub positions_of : AbstractLeg → Trace → ℕ
positions_of leg t = if is_one_piece leg then 0 else walk_size (leg_walk leg t)

-- how many positions the leg with this number has for a run
abbrev pub size_at : AbstractChain → ℕ → ℕ
size_at chain k = positions_of (leg_at k chain.legs) (given_at chain k)

-- no second position, if it is the last one
abbrev pub upto : ℕ → ℕ → Option ℕ
upto size to = if to == size then None else Some to

-- the piece of a walk of this size between two positions
abbrev pub piece_between : ℕ → ℕ → ℕ → Trace → Trace
piece_between size from to t = piece_of from (upto size to) t

-- what the leg of a job with this number would give for a walk that comes through its slices
abbrev pub gives_at : AbstractChain → ℕ → Trace → Outcome
gives_at chain k = outcome_of (leg_at k chain.legs).last chain.numbers

-- a part of a job's leg for these positions, or for enough of them
abbrev pub PartStands : AbstractChain → ℕ → ℕ → ℕ → Part → Type 0
PartStands chain k from to part =
    StandsEnough (Decides (gives_at chain k) (walk_at chain k)) (leg_at k chain.legs).last chain.numbers part from
    (piece_between (size_at chain k) from to (walk_at chain k))

-- ---- a run

-- that two lists of jobs are equal is a fact: no two proofs of it differ
pub one_plan : (xs ys : List JobPlan) → IsProp (xs ≡ ys)
one_plan xs ys = Coded-set (coded_list (plans.the_row (record { mir = static; lft = [] })).coded) xs ys

-- no answer that the job names is unusable, and these are the numbers that it takes
abbrev pub IsTaken : List AbstractPlan → ℕ → Numbers → Type 0
IsTaken plans job env = (first_unusable (named_at plans job) ≡ None) × (env ≡ (chain_at plans job).numbers)

-- a part of this leg of the job ends in this fault; the leg gives the job's answer, by a fold; and the job, which is
-- walked, gives another answer after a fault
pub record IsCaught (plans : List AbstractPlan) (job leg : ℕ) (p : Part) (f : Fault) : Type 0 where
  pub usable : first_unusable (named_at plans job) ≡ None
  pub instead : Answer
  pub gives : (plan_at plans job).fallback ≡ Some instead
  pub last : leg ≡ last_leg (chain_at plans job).legs
  pub fault : fold_fault p ≡ Some f

-- what a run is over: the legs of the plans
abbrev pub run_of : List AbstractPlan → RunSpec Outcome Part Trace Answer Numbers
run_of plans = record {
  jobs = length plans;
  last = λ job. last_leg (chain_at plans job).legs;
  size = λ job. size_at (chain_at plans job);
  goes_over = λ job. walk_at (chain_at plans job);
  gives = λ job. gives_at (chain_at plans job);
  stands_for = λ job. PartStands (chain_at plans job);
  is_caught = IsCaught plans;
  is_source = λ job leg walk. walk ≡ given_at (chain_at plans job) leg;
  is_answer = λ job a. a ≡ answer_of plans job;
  is_given = IsTaken plans;
  one_source = λ job leg walk. Coded-set (chunks.the_row).coded walk (given_at (chain_at plans job) leg);
  one_answer = λ job a. Coded-set (answers.the_row).coded a (answer_of plans job);
  one_given = λ job env. ×_prop (hlevel props)
      (Coded-set (envs.the_row (record { mir = static; lft = [] })).coded env (chain_at plans job).numbers);
}
