-- Meaning: abstract jobs, in which no operation is left out.
use Rattle.std.specs.Prelude.{ℕ, ℤ, List, [], ◌∷◌, Option}
use Rattle.trace.specs.Stages.{AbstractStage, stage_of}
use Rattle.slice_ops.specs.Slices.{AbstractSlice, slice_of}
use Rattle.find_ops.specs.Finds.{Find, first, any_match, all_match, none_match, find_of}
use Rattle.tables.specs.Table.{NamedColumn}
use Rattle.lambda_values.specs.Earlier.{table_in}
use Rattle.reduce_ops.specs.declared.op.Op.{Op}
use Rattle.job_language.specs.declared.job.PlainSource.{PlainSource}
use Rattle.job_language.specs.declared.job.PlainSource.TheVariants as source
use Rattle.job_language.specs.declared.job.JobStage.{JobStage}
use Rattle.job_language.specs.declared.job.JobStage.TheVariants as stage
use Rattle.job_language.specs.declared.terminal.Terminal.{Terminal}
use Rattle.job_language.specs.declared.terminal.Terminal.TheVariants as terminal
use Rattle.job_language.specs.declared.terminal.Gives.{Gives}
use Rattle.job_language.specs.declared.terminal.Gives.TheVariants as gives
use Rattle.job_language.specs.declared.job.Job.{Job}

-- an abstract source that is no `concat`: a column is its cells, the array of an earlier job is that job's name
pub data AbstractPlainSource : Type 0 where
  range : ℤ → ℤ → AbstractPlainSource
  range_closed : ℤ → ℤ → AbstractPlainSource
  values : List ℤ → AbstractPlainSource
  result : List ℕ → AbstractPlainSource

-- an abstract stage of a job; a prefix has the positions from the first number up to, not with, the second, or all; a
-- `distinct` has the values that came before
pub data AbstractJobStage : Type 0 where
  item : AbstractStage → AbstractJobStage
  slice : AbstractSlice → AbstractJobStage
  prefix : Option (ℕ × ℕ) → Op → AbstractJobStage
  sorted : AbstractJobStage
  distinct : List ℤ → AbstractJobStage

-- an abstract terminal
pub data AbstractTerminal : Type 0 where
  sum : AbstractTerminal
  count : AbstractTerminal
  min : AbstractTerminal
  max : AbstractTerminal
  to_array : AbstractTerminal
  reduce : Op → AbstractTerminal
  reduce_from : ℤ → Op → AbstractTerminal
  find : Find → AbstractTerminal
  exact_sum : AbstractTerminal

-- what a terminal gives to jobs that name its job
abbrev pub given_by : AbstractTerminal → Gives
given_by sum = gives.Number
given_by count = gives.Number
given_by min = gives.Number
given_by max = gives.Number
given_by to_array = gives.Array
given_by (reduce f) = gives.Number
given_by (reduce_from a f) = gives.Number
given_by (find first) = gives.Number
given_by (find (any_match p)) = gives.Boolean
given_by (find (all_match p)) = gives.Boolean
given_by (find (none_match p)) = gives.Boolean
given_by exact_sum = gives.Number

-- an abstract job: its name in bytes, its plain sources in order of writing, its stages, its terminal, the number of
-- `onFault`, if there is one, and the columns whose rows the items are; none if the items are no rows, or if lambdas
-- may
-- have no cells
pub record AbstractJob : Type 0 where
  pub name : List ℕ
  pub sources : List AbstractPlainSource
  pub stages : List AbstractJobStage
  pub terminal : AbstractTerminal
  pub on_fault : Option ℤ
  pub table : List NamedColumn

-- helper: the abstract source of a source of the program
abbrev pub source_of : PlainSource → AbstractPlainSource
source_of (source.Range a b) = range a b
source_of (source.RangeClosed a b) = range_closed a b
source_of (source.Values vs) = values vs.items
source_of (source.Column cells) = values cells.now
source_of (source.Result name) = result name

-- helper: each of several sources
abbrev pub sources_of : List PlainSource → List AbstractPlainSource
sources_of [] = []
sources_of (s ∷ ss) = source_of s ∷ sources_of ss

-- helper: the abstract stage of a stage of the program
abbrev pub job_stage_of : JobStage → AbstractJobStage
job_stage_of (stage.Item g) = item (stage_of g)
job_stage_of (stage.Slice d) = slice (slice_of d)
job_stage_of (stage.Prefix positions f) = prefix positions f
job_stage_of stage.Sorted = sorted
job_stage_of stage.Distinct = distinct []

-- helper: each of several stages
abbrev pub job_stages_of : List JobStage → List AbstractJobStage
job_stages_of [] = []
job_stages_of (g ∷ gs) = job_stage_of g ∷ job_stages_of gs

-- helper: the abstract terminal of a terminal of the program
abbrev pub terminal_of : Terminal → AbstractTerminal
terminal_of terminal.Sum = sum
terminal_of terminal.Count = count
terminal_of terminal.Min = min
terminal_of terminal.Max = max
terminal_of terminal.ToArray = to_array
terminal_of (terminal.Reduce f) = reduce f
terminal_of (terminal.ReduceFrom a f) = reduce_from a f
terminal_of (terminal.Find d) = find (find_of d)
terminal_of terminal.ExactSum = exact_sum

-- helper: the abstract job of a job of the program
abbrev pub job_of : Job → AbstractJob
job_of j =
    record {
      name = j.name;
      sources = sources_of j.sources.items;
      stages = job_stages_of j.stages.items;
      terminal = terminal_of j.terminal;
      on_fault = j.on_fault;
      table = table_in j.table;
    }

-- helper: each of several jobs
abbrev pub jobs_of : List Job → List AbstractJob
jobs_of [] = []
jobs_of (j ∷ js) = job_of j ∷ jobs_of js

-- the names of jobs, in file order
abbrev pub names_of : List AbstractJob → List (List ℕ)
names_of [] = []
names_of (job ∷ jobs) = job.name ∷ names_of jobs
