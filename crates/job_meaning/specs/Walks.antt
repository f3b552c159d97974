-- Meaning: the walk of a job, the answer that its terminal gives, and what that is to jobs that name it.
use Rattle.std.specs.Prelude.{ℕ, suc, ℤ, pos, ◌+ℤ◌, Bool, true, false, List, [], ◌∷◌, ◌++◌, length, map as each_of}
use Rattle.std.specs.Prelude.{Option, Some, None, Result, Ok, Err}
use Rattle.lambda_values.specs.Earlier.{Numbers}
use Rattle.lambda_values.specs.Streams.{counted, distance}
use Rattle.lambda_values.specs.Wrap.{wrap}
use Rattle.lambda_values.specs.declared.item.Item.{Item}
use Rattle.trace.specs.declared.item.Fault.{Fault}
use Rattle.trace.specs.declared.item.End.{End}
use Rattle.trace.specs.declared.item.End.TheVariants as end
use Rattle.trace.specs.Cover.{cover, values as listed}
use Rattle.trace.specs.Stages.{through}
use Rattle.trace.specs.Trace.{Trace}
use Rattle.reduce_ops.specs.declared.op.Op.TheVariants as op
use Rattle.reduce_ops.specs.ExactSums.{exact_sum as exactly_summed}
use Rattle.reduce_ops.specs.Folds.{fold_from, fold_items, total}
use Rattle.reduce_ops.specs.Operators.{value_of}
use Rattle.slice_ops.specs.Slices.{sliced}
use Rattle.prefix_scan.specs.Prefixes.{prefixed}
use Rattle.sort_ops.specs.Firsts.{distinct_walk}
use Rattle.sort_ops.specs.Orders.{sorted_walk}
use Rattle.find_ops.specs.Finds.{first, any_match, all_match, none_match, find_answer}
use Rattle.find_ops.specs.declared.find_part.Found.{Found}
use Rattle.find_ops.specs.declared.find_part.Found.TheVariants as found
use Rattle.job_language.specs.Jobs.{AbstractPlainSource, range, range_closed, values, result, AbstractJobStage, item}
use Rattle.job_language.specs.Jobs.{slice, prefix, sorted, distinct, AbstractTerminal, sum, count, min, max, to_array}
use Rattle.job_language.specs.Jobs.{reduce, reduce_from, find, exact_sum, AbstractJob}
use Rattle.job_meaning.specs.declared.answer.Answer.{Answer}
use Rattle.job_meaning.specs.declared.answer.Answer.TheVariants as answer

-- the values of a plain source (`LongStream.range`, `rangeClosed`, `of`; the cells of a column). `result(name)` has
-- none by itself: before a walk the array of that job is put in its place
abbrev pub plain_values : AbstractPlainSource → List ℤ
plain_values (range a b) = counted a (distance a b)
plain_values (range_closed a b) = counted a (distance a (b +ℤ pos 1))
plain_values (values vs) = vs
plain_values (result name) = []

-- the values of several sources, one after the other (`LongStream.concat`)
abbrev pub values_of : List AbstractPlainSource → List ℤ
values_of [] = []
values_of (s ∷ ss) = plain_values s ++ values_of ss

-- the walk over sources: their values, at the places 0, 1, 2 and so on over all of them; of more than 2^62 values none,
-- and a fault
abbrev pub source_walk : List AbstractPlainSource → Trace
source_walk ss = cover (listed (values_of ss))

-- what stage number n makes of a walk
abbrev pub after_stage : ℕ → AbstractJobStage → Numbers → Trace → Trace
after_stage n (item g) env t = through n g env t
after_stage n (slice d) env t = sliced d n env t
after_stage n (prefix r f) env t = prefixed (value_of f) r n t
after_stage n sorted env t = sorted_walk t
after_stage n (distinct seen) env t = distinct_walk seen t

-- the stages in order of writing, the first one with this number; each takes what the one before it gives
abbrev pub after_stages : ℕ → List AbstractJobStage → Numbers → Trace → Trace
after_stages n [] env t = t
after_stages n (g ∷ gs) env t = after_stages (suc n) gs env (after_stage n g env t)

-- the fault in which a walk ended, or else this answer
abbrev pub unless_fault : End → Answer → Answer
unless_fault end.Done a = a
unless_fault (end.Fault f) a = answer.Fault f

-- what a find or a match found, or the fault that came before it
abbrev pub found_answer : Result Found Fault → Answer
found_answer (Ok (found.Value v)) = answer.Optional v
found_answer (Ok (found.Truth b)) = answer.Truth b
found_answer (Err f) = answer.Fault f

-- the exact sum as a number, or the fault that came before it
abbrev pub exact_answer : Result ℤ Fault → Answer
exact_answer (Ok z) = answer.Number z
exact_answer (Err f) = answer.Fault f

-- the answer of a terminal, the stage with this number, for a walk (`LongStream.sum`, `count`, `min`, `max`, `toArray`,
-- `reduce`, `findFirst`, `anyMatch`, `allMatch`, `noneMatch`); a sum and a count are wrapped once to 64 bits, and an
-- exact sum (`reduce(0, Math::addExact)`) has a fault at the first item after which it is outside 64 bits
abbrev pub answer_of : ℕ → Numbers → AbstractTerminal → Trace → Answer
answer_of n env sum t = unless_fault t.ending (answer.Number (wrap (total t.items)))
answer_of n env count t = unless_fault t.ending (answer.Number (wrap (pos (length t.items))))
answer_of n env min t = unless_fault t.ending (answer.Optional (fold_items (value_of op.Min) t.items))
answer_of n env max t = unless_fault t.ending (answer.Optional (fold_items (value_of op.Max) t.items))
answer_of n env to_array t = unless_fault t.ending (answer.Array (each_of (λ (x : Item). x.value) t.items))
answer_of n env (reduce f) t = unless_fault t.ending (answer.Optional (fold_items (value_of f) t.items))
answer_of n env (reduce_from a f) t = unless_fault t.ending (answer.Number (fold_from (value_of f) a t.items))
answer_of n env (find d) t = found_answer (find_answer d n env t)
answer_of n env exact_sum t = exact_answer (exactly_summed n t)

-- the answer that a terminal makes of the number after a fault: `sum`, `count` and `reduce` from a number make a
-- number, `min`, `max`,
-- `reduce` and `findFirst` an optional; an array and a match make none, and the reader refuses `onFault` after them
abbrev pub number_as : AbstractTerminal → ℤ → Option Answer
number_as sum z = Some (answer.Number z)
number_as count z = Some (answer.Number z)
number_as (reduce_from a f) z = Some (answer.Number z)
number_as exact_sum z = Some (answer.Number z)
number_as min z = Some (answer.Optional (Some z))
number_as max z = Some (answer.Optional (Some z))
number_as (reduce f) z = Some (answer.Optional (Some z))
number_as (find first) z = Some (answer.Optional (Some z))
number_as (find (any_match p)) z = None
number_as (find (all_match p)) z = None
number_as (find (none_match p)) z = None
number_as to_array z = None

-- helper: a number that may be missing, as a terminal gives it
abbrev pub fallback_as : AbstractTerminal → Option ℤ → Option Answer
fallback_as d None = None
fallback_as d (Some z) = number_as d z

-- what a job gives after a fault, if it says so (`onFault`)
abbrev pub fallback_of : AbstractJob → Option Answer
fallback_of job = fallback_as job.terminal job.on_fault

-- this answer, if there is one, instead of a fault
abbrev pub instead_of_fault : Option Answer → Answer → Answer
instead_of_fault None a = a
instead_of_fault (Some b) (answer.Fault f) = b
instead_of_fault (Some b) (answer.Number z) = answer.Number z
instead_of_fault (Some b) (answer.Truth t) = answer.Truth t
instead_of_fault (Some b) (answer.Optional v) = answer.Optional v
instead_of_fault (Some b) (answer.Array vs) = answer.Array vs
instead_of_fault (Some b) (answer.Unusable place) = answer.Unusable place

-- whether a job that names a job with this answer can be run: not if that is a fault, an empty optional or unusable
abbrev pub is_usable : Answer → Bool
is_usable (answer.Number z) = true
is_usable (answer.Truth b) = true
is_usable (answer.Optional None) = false
is_usable (answer.Optional (Some z)) = true
is_usable (answer.Array vs) = true
is_usable (answer.Fault f) = false
is_usable (answer.Unusable place) = false

-- the number under `$name`, if the answer of that job is one: a number, or the value of an optional
abbrev pub number_of : Answer → Option ℤ
number_of (answer.Number z) = Some z
number_of (answer.Truth b) = None
number_of (answer.Optional v) = v
number_of (answer.Array vs) = None
number_of (answer.Fault f) = None
number_of (answer.Unusable place) = None

-- the values of an array; of any other answer none
abbrev pub array_of : Answer → List ℤ
array_of (answer.Number z) = []
array_of (answer.Truth b) = []
array_of (answer.Optional v) = []
array_of (answer.Array vs) = vs
array_of (answer.Fault f) = []
array_of (answer.Unusable place) = []

-- the answer of the walk of a job with the numbers of earlier jobs: its sources, through its stages, which are numbered
-- from 1, to its terminal, which is the stage after the last
abbrev pub answer_of_walk : Numbers → AbstractJob → Answer
answer_of_walk env job =
    answer_of (suc (length job.stages)) env job.terminal (after_stages 1 job.stages env (source_walk job.sources))

-- the answer of a job with the numbers of earlier jobs
abbrev pub answer_of_job : Numbers → AbstractJob → Answer
answer_of_job env job = instead_of_fault (fallback_of job) (answer_of_walk env job)
