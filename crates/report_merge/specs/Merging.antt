-- Design: the answers of jobs over a table, made of their answers over its parts, one part after the other.
use Rattle.std.specs.Prelude.{ℕ, ◌+◌, ◌^◌, ℤ, Bool, true, false, not, ◌&&◌, ◌==◌, nat_lt, is_some, if◌then◌else◌, List}
use Rattle.std.specs.Prelude.{[], ◌∷◌, ◌++◌, Option, Some, None}
use Rattle.std.specs.Cmp.Lexicographic.{pointwise}
use Rattle.std.specs.Ordering.{int_eq}
use Rattle.lambda_values.specs.declared.fault.FaultKind.{FaultKind}
use Rattle.lambda_values.specs.declared.fault.FaultKind.TheVariants as kind
use Rattle.trace.specs.declared.item.Fault.{Fault}
use Rattle.reduce_ops.specs.declared.op.Op.{Op}
use Rattle.reduce_ops.specs.declared.op.Op.TheVariants as op
use Rattle.reduce_ops.specs.Operators.{value_of}
use Rattle.find_ops.specs.Finds.{Find, first, any_match, all_match, none_match}
use Rattle.job_language.specs.Jobs.{AbstractTerminal, sum, count, min, max, to_array, reduce, reduce_from, find}
use Rattle.job_language.specs.Jobs.{exact_sum, AbstractJob}
use Rattle.job_meaning.specs.declared.answer.Answer.{Answer}
use Rattle.job_meaning.specs.declared.answer.Answer.TheVariants as answer
use Rattle.job_meaning.specs.Walks.{fallback_of, instead_of_fault}
use Rattle.report_merge.specs.declared.part.PartAnswers.{PartAnswers}
use Rattle.report_merge.specs.Mergeable.{is_over_column}

-- rows of a table, how many they are, and the answers of the jobs over them
pub record Part : Type 0 where
  pub rows : ℕ
  pub answers : List Answer

-- a place in a part, or none, counted over the whole: these rows come before the part
abbrev pub moved_place : ℕ → Option ℕ → Option ℕ
moved_place before None = None
moved_place before (Some i) = Some (before + i)

-- the fault of a part that these rows come before
abbrev pub moved : ℕ → Fault → Fault
moved before f = record { kind = f.kind; stage = f.stage; origin = moved_place before f.origin }

-- helper: whether a place, if there is one, is one of these rows
abbrev pub is_within : ℕ → Option ℕ → Bool
is_within rows None = true
is_within rows (Some i) = nat_lt i rows

-- helper: whether a terminal asks for the first item
abbrev pub asks_first : AbstractTerminal → Bool
asks_first (find first) = true
asks_first d = false

-- helper: whether a boolean is what an item decides; the other one is what is left if none does
abbrev pub is_decided : AbstractTerminal → Bool → Bool
is_decided (find (any_match p)) b = b
is_decided (find (all_match p)) b = not b
is_decided (find (none_match p)) b = not b
is_decided d b = false

-- whether no later part changes the answer: a fault, the first item, what an item decides; and a job that can't be run
abbrev pub is_final : Answer → AbstractTerminal → Bool
is_final (answer.Number z) d = false
is_final (answer.Truth b) d = is_decided d b
is_final (answer.Optional v) d = asks_first d && is_some v
is_final (answer.Array vs) d = false
is_final (answer.Fault f) d = true
is_final (answer.Unusable place) d = true

-- two numbers by the operator's table
abbrev pub numbers_joined : Op → Answer → Answer → Option Answer
numbers_joined f (answer.Number a) (answer.Number b) = Some (answer.Number (value_of f a b))
numbers_joined f a b = None

-- a part without items has no number: the other one stays
abbrev pub either_or_both : Op → Option ℤ → Option ℤ → Option ℤ
either_or_both f None b = b
either_or_both f (Some a) None = Some a
either_or_both f (Some a) (Some b) = Some (value_of f a b)

abbrev pub optionals_joined : Op → Answer → Answer → Option Answer
optionals_joined f (answer.Optional a) (answer.Optional b) = Some (answer.Optional (either_or_both f a b))
optionals_joined f a b = None

abbrev pub arrays_joined : Answer → Answer → Option Answer
arrays_joined (answer.Array vs) (answer.Array ws) = Some (answer.Array (vs ++ ws))
arrays_joined a b = None

-- the left part has found nothing, and so the right one says what is found
abbrev pub firsts_joined : Answer → Answer → Option Answer
firsts_joined (answer.Optional a) (answer.Optional b) = Some (answer.Optional b)
firsts_joined a b = None

abbrev pub truths_joined : Answer → Answer → Option Answer
truths_joined (answer.Truth a) (answer.Truth b) = Some (answer.Truth b)
truths_joined a b = None

abbrev pub founds_joined : Find → Answer → Answer → Option Answer
founds_joined first a b = firsts_joined a b
founds_joined (any_match p) a b = truths_joined a b
founds_joined (all_match p) a b = truths_joined a b
founds_joined (none_match p) a b = truths_joined a b

-- two answers without a fault, the left one not final: sums and counts are added and wrapped to 64 bits; answers
-- of other kinds than the terminal gives, and exact sums, aren't joined
abbrev pub joined : AbstractTerminal → Answer → Answer → Option Answer
joined sum a b = numbers_joined op.Sum a b
joined count a b = numbers_joined op.Sum a b
joined min a b = optionals_joined op.Min a b
joined max a b = optionals_joined op.Max a b
joined to_array a b = arrays_joined a b
joined (reduce f) a b = optionals_joined f a b
joined (reduce_from i f) a b = numbers_joined f a b
joined (find d) a b = founds_joined d a b
joined exact_sum a b = None

-- helper: the fault of the right part, whose item is one of its rows
abbrev pub right_fault : ℕ → ℕ → Fault → Option Answer
right_fault before rows f = if is_within rows f.origin then Some (answer.Fault (moved before f)) else None

-- helper: what the right answer, over these rows, makes of a left one that isn't final
abbrev pub after : Answer → AbstractTerminal → ℕ → ℕ → Answer → Option Answer
after (answer.Fault f) d before rows a = right_fault before rows f
after (answer.Number z) d before rows a = joined d a (answer.Number z)
after (answer.Truth b) d before rows a = joined d a (answer.Truth b)
after (answer.Optional v) d before rows a = joined d a (answer.Optional v)
after (answer.Array vs) d before rows a = joined d a (answer.Array vs)
after (answer.Unusable place) d before rows a = joined d a (answer.Unusable place)

-- the answer over rows and the rows after them, of the answers over the first ones, which are `before`, and over the
-- others
abbrev pub beside : AbstractTerminal → ℕ → ℕ → Answer → Answer → Option Answer
beside d before rows a b = if is_final a d then Some a else after b d before rows a

-- helper: whether two faults, and two answers, are equal
abbrev pub kind_number : FaultKind → ℕ
kind_number kind.DivideByZero = 1
kind_number kind.Overflow = 2
kind_number kind.OutOfArray = 3
kind_number kind.SourceTooLong = 4

abbrev pub same_place : Option ℕ → Option ℕ → Bool
same_place None None = true
same_place None (Some j) = false
same_place (Some i) None = false
same_place (Some i) (Some j) = i == j

abbrev pub same_fault : Fault → Fault → Bool
same_fault f g = (kind_number f.kind == kind_number g.kind) && ((f.stage == g.stage) && same_place f.origin g.origin)

abbrev pub same_optional : Option ℤ → Option ℤ → Bool
same_optional None None = true
same_optional None (Some w) = false
same_optional (Some z) None = false
same_optional (Some z) (Some w) = int_eq z w

abbrev pub same_truth : Bool → Bool → Bool
same_truth true b = b
same_truth false b = not b

abbrev pub same_answer : Answer → Answer → Bool
same_answer (answer.Number z) (answer.Number w) = int_eq z w
same_answer (answer.Truth b) (answer.Truth c) = same_truth b c
same_answer (answer.Optional v) (answer.Optional w) = same_optional v w
same_answer (answer.Array vs) (answer.Array ws) = pointwise int_eq vs ws
same_answer (answer.Fault f) (answer.Fault g) = same_fault f g
same_answer (answer.Unusable i) (answer.Unusable j) = i == j
same_answer a b = false

-- a job that reads no column has one answer over all rows: both are it
abbrev pub answer_beside : AbstractJob → ℕ → ℕ → Answer → Answer → Option Answer
answer_beside job before rows a b =
    if is_over_column job then beside job.terminal before rows a b
    else if same_answer a b then Some a
    else None

-- helper: a list that begins with an answer, if there are both
abbrev pub both : Option Answer → Option (List Answer) → Option (List Answer)
both None ls = None
both (Some a) None = None
both (Some a) (Some ls) = Some (a ∷ ls)

-- job by job; there is one answer for each in both parts
abbrev pub answers_beside : List AbstractJob → ℕ → ℕ → List Answer → List Answer → Option (List Answer)
answers_beside [] before rows [] [] = Some []
answers_beside [] before rows [] (b ∷ bs) = None
answers_beside [] before rows (a ∷ ls) bs = None
answers_beside (job ∷ jobs) before rows [] bs = None
answers_beside (job ∷ jobs) before rows (a ∷ ls) [] = None
answers_beside (job ∷ jobs) before rows (a ∷ ls) (b ∷ bs) =
    both (answer_beside job before rows a b) (answers_beside jobs before rows ls bs)

-- helper: these rows with these answers, if there are any
abbrev pub part_with : ℕ → Option (List Answer) → Option Part
part_with rows None = None
part_with rows (Some ls) = Some (record { rows = rows; answers = ls })

-- two parts side by side as one; more than 2^62 rows are no table
abbrev pub as_one : List AbstractJob → Part → Part → Option Part
as_one jobs p q =
    if nat_lt (2 ^ 62) (p.rows + q.rows) then None
    else part_with (p.rows + q.rows) (answers_beside jobs p.rows q.rows p.answers q.answers)

-- a part and those after it as one
abbrev pub all_as_one : List AbstractJob → Option Part → List Part → Option Part
all_as_one jobs None qs = None
all_as_one jobs (Some p) [] = Some p
all_as_one jobs (Some p) (q ∷ qs) = all_as_one jobs (as_one jobs p q) qs

-- the answer of a job over a column after its `onFault`
abbrev pub with_fallback : AbstractJob → Answer → Answer
with_fallback job a = if is_over_column job then instead_of_fault (fallback_of job) a else a

-- one answer for each job, after its `onFault`
abbrev pub with_fallbacks : List AbstractJob → List Answer → Option (List Answer)
with_fallbacks [] [] = Some []
with_fallbacks [] (a ∷ ls) = None
with_fallbacks (job ∷ jobs) [] = None
with_fallbacks (job ∷ jobs) (a ∷ ls) = both (Some (with_fallback job a)) (with_fallbacks jobs ls)

abbrev pub finished : List AbstractJob → Option Part → Option (List Answer)
finished jobs None = None
finished jobs (Some p) = with_fallbacks jobs p.answers

-- helper: the first part, if it has no more rows than a table
abbrev pub first_part : Part → Option Part
first_part p = if nat_lt (2 ^ 62) p.rows then None else Some p

-- parts, in their order, as one; there is at least one
abbrev pub together : List AbstractJob → List Part → Option Part
together jobs [] = None
together jobs (p ∷ ps) = all_as_one jobs (first_part p) ps

-- the answers over the table that these are the parts of
abbrev pub merged : List AbstractJob → List Part → Option (List Answer)
merged jobs ps = finished jobs (together jobs ps)

-- helper: the part that the program has
abbrev pub part_of : PartAnswers → Part
part_of p = record { rows = p.rows; answers = p.answers.items }

abbrev pub parts_of : List PartAnswers → List Part
parts_of [] = []
parts_of (p ∷ ps) = part_of p ∷ parts_of ps

-- how many rows parts have
abbrev pub rows_in : List Part → ℕ
rows_in [] = 0
rows_in (p ∷ ps) = p.rows + rows_in ps
