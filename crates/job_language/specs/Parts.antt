-- Condition: what the parts of a job that the program keeps mean.
use Rattle.std.specs.Prelude.{◌≢◌, Option, option_map, Result, Ok, Err}
use Rattle.lambda_values.specs.Term.{long_of, truth_of}
use Rattle.lambda_values.specs.Streams.{inner_of}
use Rattle.job_language.specs.declared.argument.Argument as code
use Rattle.job_language.specs.declared.argument.Argument.TheVariants as code_argument
use Rattle.job_language.specs.declared.job.BegunJob as begun
use Rattle.job_language.specs.declared.row.CallPart as call_part
use Rattle.job_language.specs.declared.row.CallPart.TheVariants as code_part
use Rattle.job_language.specs.declared.fault.Cause.{Cause}
use Rattle.job_language.specs.declared.fault.Cause.TheVariants.{NoMemory}
use Rattle.job_language.specs.Grammar.{Job}
use Rattle.job_language.specs.Causes.{Scope, first_cause, causes_of}
use Rattle.job_language.specs.Rows.{Argument, nothing, column, job, number, test, stream, operator, exact, AbstractCall}
use Rattle.job_language.specs.Rows.{source, stage, terminal, fallback}
use Rattle.job_language.specs.Jobs.{AbstractJob, source_of, sources_of, job_stage_of, job_stages_of, terminal_of}
use Rattle.job_language.specs.Verdicts.{BegunJob, finished}

-- the argument that a last part of the program means
abbrev pub argument_in : code.Argument → Argument
argument_in code_argument.Nothing = nothing
argument_in (code_argument.Column cells) = column cells.now
argument_in (code_argument.Job name) = job name
argument_in (code_argument.Number e) = number (long_of e)
argument_in (code_argument.Test p) = test (truth_of p)
argument_in (code_argument.Stream g) = stream (inner_of g)
argument_in (code_argument.Operator f) = operator f
argument_in code_argument.ExactSum = exact

-- the call that a part of a job of the program means
abbrev pub part_in : call_part.CallPart → AbstractCall
part_in (code_part.Source s) = source (source_of s)
part_in (code_part.Stage g) = stage (job_stage_of g)
part_in (code_part.Terminal d) = terminal (terminal_of d)
part_in (code_part.Fallback z) = fallback z

-- the abstract form of a job that is being read
abbrev pub begun_of : begun.BegunJob → BegunJob
begun_of j =
    record {
      name = j.name;
      sources = sources_of j.sources.items;
      stages = job_stages_of j.stages.items;
      terminal = option_map terminal_of j.terminal;
      on_fault = j.on_fault;
    }

-- an answer, as the definitions have it
abbrev pub answer_in : {A T : Type 0} → (A → T) → Result A Cause → Result T Cause
answer_in f (Ok a) = Ok (f a)
answer_in f (Err e) = Err e

-- an answer is as it should be; out of memory may stand in its place
abbrev pub Answers : {A T : Type 0} → (A → T) → (Result T Cause → Type 0) → Result A Cause → Type 0
Answers f P (Ok a) = P (Ok (f a))
Answers f P (Err e) = e ≢ NoMemory → P (Err e)

-- the calls lead to what this job is after its last call, or to a refusal; out of memory may stand in its place
abbrev pub Leads : {A : Type 0} → (Result AbstractJob Cause → Type 0) → Scope → BegunJob → Result A Cause → Type 0
Leads P s j (Ok a) = P (finished s j)
Leads P s j (Err e) = e ≢ NoMemory → P (Err e)

-- why a job is refused before its calls
abbrev pub causes_before : Scope → Job → Option Cause
causes_before s j = first_cause (causes_of s j)
