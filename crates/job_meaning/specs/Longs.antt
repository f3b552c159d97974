-- Design: jobs whose numbers have 64 bits, and their answers.
use Rattle.std.specs.Prelude.{◌≢◌, ℕ, suc, ◌<◌, ◌^◌, ℤ, pos, negsuc, List, [], ◌∷◌, length, slice_index_or, Option}
use Rattle.std.specs.Prelude.{None, Some}
use Rattle.tables.specs.Table.{NamedColumn}
use Rattle.lambda_values.specs.Streams.{Inner, range as up_to, range_closed as up_through, values as each_of}
use Rattle.lambda_values.specs.Term.{Long, number, parameter, reference, cell, row, unary, binary, choose}
use Rattle.trace.specs.Stages.{AbstractStage, map, filter, flat_map}
use Rattle.trace.specs.declared.item.Fault.{Fault}
use Rattle.job_language.specs.Jobs.{AbstractPlainSource, range, range_closed, values, result, AbstractJobStage, item}
use Rattle.job_language.specs.Jobs.{slice, prefix, sorted, distinct, AbstractTerminal, sum, count, min, max, to_array}
use Rattle.job_language.specs.Jobs.{reduce, reduce_from, find, exact_sum, AbstractJob}
use Rattle.job_meaning.specs.declared.answer.Answer.{Answer}
use Rattle.job_meaning.specs.declared.answer.Answer.TheVariants as answer

-- an integer from -2^63 to 2^63 - 1
abbrev pub Fits : ℤ → Type 0
Fits (pos n) = n < 2 ^ 63
Fits (negsuc n) = n < 2 ^ 63

abbrev pub OptionFits : Option ℤ → Type 0
OptionFits None = Unit {0}
OptionFits (Some z) = Fits z

abbrev pub AllFit : List ℤ → Type 0
AllFit [] = Unit {0}
AllFit (z ∷ zs) = Fits z × AllFit zs

abbrev pub PlaceFits : Option ℕ → Type 0
PlaceFits None = Unit {0}
PlaceFits (Some place) = place < 2 ^ 64

-- the numbers that are the value of an expression or operands of it; what is tested gives no number
abbrev pub LongFits : Long → Type 0
LongFits (number z) = Fits z
LongFits (parameter n) = Unit {0}
LongFits (reference name) = Unit {0}
LongFits (cell name) = Unit {0}
LongFits row = Unit {0}
LongFits (unary o a) = LongFits a
LongFits (binary o a b) = LongFits a × LongFits b
LongFits (choose c a b) = LongFits a × LongFits b

abbrev pub EachFits : List Long → Type 0
EachFits [] = Unit {0}
EachFits (e ∷ es) = LongFits e × EachFits es

abbrev pub InnerFits : Inner → Type 0
InnerFits (up_to a b) = LongFits a × LongFits b
InnerFits (up_through a b) = LongFits a × LongFits b
InnerFits (each_of es) = EachFits es

abbrev pub StageFits : AbstractStage → Type 0
StageFits (map e) = LongFits e
StageFits (filter p) = Unit {0}
StageFits (flat_map g) = InnerFits g

abbrev pub JobStageFits : AbstractJobStage → Type 0
JobStageFits (item g) = StageFits g
JobStageFits (slice d) = Unit {0}
JobStageFits (prefix r f) = Unit {0}
JobStageFits sorted = Unit {0}
JobStageFits (distinct seen) = Unit {0}

abbrev pub StagesFit : List AbstractJobStage → Type 0
StagesFit [] = Unit {0}
StagesFit (g ∷ gs) = JobStageFits g × StagesFit gs

abbrev pub SourceFits : AbstractPlainSource → Type 0
SourceFits (range a b) = Fits a × Fits b
SourceFits (range_closed a b) = Fits a × Fits b
SourceFits (values vs) = AllFit vs
SourceFits (result name) = Unit {0}

abbrev pub SourcesFit : List AbstractPlainSource → Type 0
SourcesFit [] = Unit {0}
SourcesFit (s ∷ ss) = SourceFits s × SourcesFit ss

abbrev pub TerminalFits : AbstractTerminal → Type 0
TerminalFits sum = Unit {0}
TerminalFits count = Unit {0}
TerminalFits min = Unit {0}
TerminalFits max = Unit {0}
TerminalFits to_array = Unit {0}
TerminalFits (reduce f) = Unit {0}
TerminalFits (reduce_from a f) = Fits a
TerminalFits (find d) = Unit {0}
TerminalFits exact_sum = Unit {0}

-- the cells of columns
abbrev pub TableFits : List NamedColumn → Type 0
TableFits [] = Unit {0}
TableFits (c ∷ cs) = AllFit c.cells × TableFits cs

-- all numbers that a job is made of, cells too, and the numbers of its stages
pub record JobFits (job : AbstractJob) : Type 0 where
  pub sources : SourcesFit job.sources
  pub stages : StagesFit job.stages
  pub count : suc (length job.stages) < 2 ^ 64
  pub terminal : TerminalFits job.terminal
  pub on_fault : OptionFits job.on_fault
  pub table : TableFits job.table

abbrev pub JobsFit : List AbstractJob → Type 0
JobsFit [] = Unit {0}
JobsFit (job ∷ jobs) = JobFits job × JobsFit jobs

-- a fault, by the number of its stage and the place of its item
abbrev pub FaultFits : Fault → Type 0
FaultFits f = (f.stage < 2 ^ 64) × PlaceFits f.origin

-- no name before this one is equal to it
abbrev pub IsFirst : List (List ℕ) → ℕ → Type 0
IsFirst names place = (i : ℕ) → i < place → slice_index_or names i [] ≢ slice_index_or names place []

-- the numbers in an answer, given the names of all jobs: a job is unusable because of the first one with a name
abbrev pub AnswerFits : List (List ℕ) → Answer → Type 0
AnswerFits names (answer.Number z) = Fits z
AnswerFits names (answer.Truth b) = Unit {0}
AnswerFits names (answer.Optional v) = OptionFits v
AnswerFits names (answer.Array vs) = AllFit vs
AnswerFits names (answer.Fault f) = FaultFits f
AnswerFits names (answer.Unusable place) = IsFirst names place

abbrev pub AnswersFit : List (List ℕ) → List Answer → Type 0
AnswersFit names [] = Unit {0}
AnswersFit names (a ∷ more) = AnswerFits names a × AnswersFit names more
