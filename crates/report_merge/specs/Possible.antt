-- Design: which answers a job can have over this many rows. Jobs over a column are asked without their `onFault`, and
-- are
-- read with columns without cells.
use Rattle.std.specs.Prelude.{ℕ, zero, suc, ◌+◌, ◌-◌, ◌^◌, ℤ, pos, unsigned_abs, Bool, true, false, not, ◌&&◌, ◌||◌}
use Rattle.std.specs.Prelude.{◌==◌, nat_lt, nat_le, int_le, if◌then◌else◌, List, [], ◌∷◌, ◌++◌, length, Option, Some}
use Rattle.std.specs.Prelude.{None}
use Rattle.std.specs.Option.{is_none, is_some}
use Rattle.std.specs.Ordering.{int_eq}
use Rattle.lambda_values.specs.declared.fault.FaultKind.{FaultKind}
use Rattle.lambda_values.specs.declared.fault.FaultKind.TheVariants as kind
use Rattle.trace.specs.declared.item.Fault.{Fault}
use Rattle.trace.specs.Stages.{map, filter, flat_map}
use Rattle.slice_ops.specs.Slices.{limit, skip, take_while, drop_while}
use Rattle.find_ops.specs.Finds.{Find, first, any_match, all_match, none_match}
use Rattle.job_language.specs.Jobs.{AbstractJobStage, item, slice, prefix, sorted, distinct, AbstractTerminal, sum}
use Rattle.job_language.specs.Jobs.{count, min, max, to_array, reduce, reduce_from, find, exact_sum, AbstractJob}
use Rattle.job_meaning.specs.declared.answer.Answer.{Answer}
use Rattle.job_meaning.specs.declared.answer.Answer.TheVariants as answer
use Rattle.job_meaning.specs.FileAnswers.{NamedAnswer, first_unusable, jobs_found}
use Rattle.job_meaning.specs.Names.{names_in_job}
use Rattle.job_meaning.specs.Walks.{fallback_of}
use Rattle.report_merge.specs.Mergeable.{is_over_column}
use Rattle.report_merge.specs.Merging.{Part}

-- ---- how many items

abbrev pub is_flat_map : AbstractJobStage → Bool
is_flat_map (item (map e)) = false
is_flat_map (item (filter p)) = false
is_flat_map (item (flat_map g)) = true
is_flat_map (slice d) = false
is_flat_map (prefix r f) = false
is_flat_map sorted = false
is_flat_map (distinct seen) = false

-- whether one of the stages is a `flatMap`
abbrev pub flattens : List AbstractJobStage → Bool
flattens [] = false
flattens (g ∷ gs) = is_flat_map g || flattens gs

-- how many items the source has at most
abbrev pub items_from : AbstractJob → ℕ → ℕ
items_from job rows = if is_over_column job then rows else 2 ^ 62

-- how many items come to the terminal at most, if the rows say it
abbrev pub most_items : AbstractJob → ℕ → Option ℕ
most_items job rows = if flattens job.stages && nat_lt 0 (items_from job rows) then None else Some (items_from job rows)

-- whether this many may come
abbrev pub may_come : ℕ → Option ℕ → Bool
may_come n None = true
may_come n (Some most) = nat_le n most

-- ---- values

-- without items a fold gives its first number
abbrev pub number_fits : Option ℕ → ℤ → Answer → Bool
number_fits most alone (answer.Number z) = may_come 1 most || int_eq z alone
number_fits most alone a = false

abbrev pub count_within : Option ℕ → ℤ → Bool
count_within None z = true
count_within (Some most) z = int_le (pos 0) z && nat_le (unsigned_abs z) most

abbrev pub count_fits : Option ℕ → Answer → Bool
count_fits most (answer.Number z) = count_within most z
count_fits most a = false

abbrev pub optional_fits : Option ℕ → Answer → Bool
optional_fits most (answer.Optional v) = is_none v || may_come 1 most
optional_fits most a = false

abbrev pub array_fits : Option ℕ → Answer → Bool
array_fits most (answer.Array vs) = may_come (length vs) most
array_fits most a = false

abbrev pub is_truth : Bool → Bool → Bool
is_truth true b = b
is_truth false b = not b

-- without items a match gives this
abbrev pub truth_fits : Option ℕ → Bool → Answer → Bool
truth_fits most alone (answer.Truth b) = is_truth alone b || may_come 1 most
truth_fits most alone a = false

abbrev pub found_fits : Option ℕ → Find → Answer → Bool
found_fits most first a = optional_fits most a
found_fits most (any_match p) a = truth_fits most false a
found_fits most (all_match p) a = truth_fits most true a
found_fits most (none_match p) a = truth_fits most true a

-- a value that a terminal can give if at most this many items come
abbrev pub value_fits : AbstractTerminal → Option ℕ → Answer → Bool
value_fits sum most a = number_fits most (pos 0) a
value_fits count most a = count_fits most a
value_fits min most a = optional_fits most a
value_fits max most a = optional_fits most a
value_fits to_array most a = array_fits most a
value_fits (reduce f) most a = optional_fits most a
value_fits (reduce_from z f) most a = number_fits most z a
value_fits (find d) most a = found_fits most d a
value_fits exact_sum most a = number_fits most (pos 0) a

-- the number that a job gives after a fault
abbrev pub is_fallback : Option Answer → Answer → Bool
is_fallback (Some (answer.Number z)) (answer.Number w) = int_eq z w
is_fallback o a = false

abbrev pub value_can : AbstractJob → ℕ → Answer → Bool
value_can job rows a = value_fits job.terminal (most_items job rows) a
    || (not (is_over_column job) && is_fallback (fallback_of job) a)

-- ---- faults

-- what a lambda that gives a number or a boolean can have; and one that gives a stream
abbrev pub of_lambda : FaultKind → Bool
of_lambda kind.DivideByZero = true
of_lambda kind.Overflow = true
of_lambda kind.OutOfArray = false
of_lambda kind.SourceTooLong = false

abbrev pub of_stream : FaultKind → Bool
of_stream kind.DivideByZero = true
of_stream kind.Overflow = true
of_stream kind.OutOfArray = false
of_stream kind.SourceTooLong = true

abbrev pub is_overflow : FaultKind → Bool
is_overflow kind.DivideByZero = false
is_overflow kind.Overflow = true
is_overflow kind.OutOfArray = false
is_overflow kind.SourceTooLong = false

abbrev pub is_out_of_array : FaultKind → Bool
is_out_of_array kind.DivideByZero = false
is_out_of_array kind.Overflow = false
is_out_of_array kind.OutOfArray = true
is_out_of_array kind.SourceTooLong = false

abbrev pub is_too_long : FaultKind → Bool
is_too_long kind.DivideByZero = false
is_too_long kind.Overflow = false
is_too_long kind.OutOfArray = false
is_too_long kind.SourceTooLong = true

-- at an item, which is one of this many
abbrev pub is_at_item : ℕ → Option ℕ → Bool
is_at_item n None = false
is_at_item n (Some i) = nat_lt i n

abbrev pub stage_can : AbstractJobStage → ℕ → Fault → Bool
stage_can (item (map e)) n f = of_lambda f.kind && is_at_item n f.origin
stage_can (item (filter p)) n f = of_lambda f.kind && is_at_item n f.origin
stage_can (item (flat_map g)) n f = of_stream f.kind && is_at_item n f.origin
stage_can (slice (limit k)) n f = false
stage_can (slice (skip k)) n f = false
stage_can (slice (take_while p)) n f = of_lambda f.kind && is_at_item n f.origin
stage_can (slice (drop_while p)) n f = of_lambda f.kind && is_at_item n f.origin
stage_can (prefix r g) n f = is_some r && (is_out_of_array f.kind && is_none f.origin)
stage_can sorted n f = false
stage_can (distinct seen) n f = false

abbrev pub find_can : Find → ℕ → Fault → Bool
find_can first n f = false
find_can (any_match p) n f = of_lambda f.kind && is_at_item n f.origin
find_can (all_match p) n f = of_lambda f.kind && is_at_item n f.origin
find_can (none_match p) n f = of_lambda f.kind && is_at_item n f.origin

abbrev pub terminal_can : AbstractTerminal → ℕ → Fault → Bool
terminal_can sum n f = false
terminal_can count n f = false
terminal_can min n f = false
terminal_can max n f = false
terminal_can to_array n f = false
terminal_can (reduce g) n f = false
terminal_can (reduce_from z g) n f = false
terminal_can (find d) n f = find_can d n f
terminal_can exact_sum n f = is_overflow f.kind && is_at_item n f.origin

-- the stage after this many of these, or the terminal after the last
abbrev pub later_can : List AbstractJobStage → AbstractTerminal → ℕ → ℕ → Fault → Bool
later_can [] d n zero f = terminal_can d n f
later_can [] d n (suc k) f = false
later_can (g ∷ gs) d n zero f = stage_can g n f
later_can (g ∷ gs) d n (suc k) f = later_can gs d n k f

-- a column is never too long
abbrev pub source_can : AbstractJob → Fault → Bool
source_can job f = not (is_over_column job) && (is_too_long f.kind && is_none f.origin)

abbrev pub fault_fits : AbstractJob → ℕ → Fault → Bool
fault_fits job rows f = if f.stage == 0 then source_can job f
    else later_can job.stages job.terminal (items_from job rows) (f.stage - 1) f

-- a job that reads no column has its `onFault`
abbrev pub fault_can : AbstractJob → ℕ → Answer → Bool
fault_can job rows (answer.Fault f) = (is_over_column job || is_none (fallback_of job)) && fault_fits job rows f
fault_can job rows a = false

-- ---- answers

abbrev pub is_unusable_by : ℕ → Answer → Bool
is_unusable_by place (answer.Unusable other) = place == other
is_unusable_by place a = false

-- helper: because of the job at this place, if one of those that are named can't be used
abbrev pub answer_fits : Option ℕ → AbstractJob → ℕ → Answer → Bool
answer_fits None job rows a = value_can job rows a || fault_can job rows a
answer_fits (Some place) job rows a = is_unusable_by place a

-- whether this can be the answer of the job over this many rows, after these answers of the jobs above it
abbrev pub can_answer : List NamedAnswer → AbstractJob → ℕ → Answer → Bool
can_answer before job rows a = answer_fits (first_unusable (jobs_found before (names_in_job job))) job rows a

-- the first of these jobs whose answer can't be its own; the next one has this place
abbrev pub impossible_below : ℕ → List NamedAnswer → List AbstractJob → ℕ → List Answer → Option ℕ
impossible_below place before [] rows ls = None
impossible_below place before (job ∷ jobs) rows [] = None
impossible_below place before (job ∷ jobs) rows (a ∷ ls) =
    if can_answer before job rows a
    then impossible_below (place + 1) (before ++ record { name = job.name; answer = a } ∷ []) jobs rows ls
    else Some place

-- the first job whose answer over a part can't be its own
abbrev pub first_impossible : List AbstractJob → Part → Option ℕ
first_impossible jobs part = impossible_below 0 [] jobs part.rows part.answers

-- helper: answers under the names of their jobs
abbrev pub named_answers : List AbstractJob → List Answer → List NamedAnswer
named_answers [] ls = []
named_answers (job ∷ jobs) [] = []
named_answers (job ∷ jobs) (a ∷ ls) = record { name = job.name; answer = a } ∷ named_answers jobs ls
