-- Meaning: the operations of jobs, one row each: where it stands, what a call of it takes between its parentheses, and
-- what it builds.
use Rattle.std.specs.Prelude.{ℕ, ◌+◌, ℤ, Bool, true, false, ◌==◌, ◌||◌, nat_eq, nat_lt, List, [], ◌∷◌, codes}
use Rattle.std.specs.Prelude.{if◌then◌else◌, Option, Some, None, is_some, Result}
use Rattle.std.specs.Cmp.Lexicographic.{pointwise}
use Rattle.lambda_expr.specs.NumberWords.{is_number}
use Rattle.lambda_expr.specs.Words.{Word, named, numeral, quoted}
use Rattle.job_names.specs.ColumnKeys.{places_of}
use Rattle.trace.specs.Stages.{map, filter, flat_map}
use Rattle.slice_ops.specs.Slices.{limit, skip, take_while, drop_while}
use Rattle.find_ops.specs.Finds as find
use Rattle.job_language.specs.declared.fault.Cause.{Cause}
use Rattle.job_language.specs.declared.operation.Operation.{Operation}
use Rattle.job_language.specs.declared.operation.Operation.TheVariants as op
use Rattle.job_language.specs.declared.operation.Role.{Role}
use Rattle.job_language.specs.declared.operation.Param.{Param}
use Rattle.job_language.specs.declared.operation.Param.TheVariants as param
use Rattle.job_language.specs.declared.operation.Params.{Params}
use Rattle.job_language.specs.declared.operation.Params.TheVariants as params
use Rattle.job_language.specs.Jobs as job
use Rattle.job_language.specs.Rows.{Argument, AbstractCall, Row, as_source, as_concat, as_stage, as_terminal}
use Rattle.job_language.specs.Rows.{as_fallback, of_nothing, of_bounds, of_values, of_number, of_count, of_column}
use Rattle.job_language.specs.Rows.{of_job, of_long, of_test, of_stream, of_positions, of_identity, role_in, params_in}
use Rattle.job_language.specs.Rows.{built_by}

-- how an operation is written
abbrev pub name_of : Operation → List ℕ
name_of op.Range = codes "range"
name_of op.RangeClosed = codes "rangeClosed"
name_of op.Of = codes "of"
name_of op.Empty = codes "empty"
name_of op.Column = codes "column"
name_of op.Result = codes "result"
name_of op.Concat = codes "concat"
name_of op.Map = codes "map"
name_of op.Filter = codes "filter"
name_of op.FlatMap = codes "flatMap"
name_of op.Limit = codes "limit"
name_of op.Skip = codes "skip"
name_of op.TakeWhile = codes "takeWhile"
name_of op.DropWhile = codes "dropWhile"
name_of op.Prefix = codes "prefix"
name_of op.Sorted = codes "sorted"
name_of op.Distinct = codes "distinct"
name_of op.Sum = codes "sum"
name_of op.Count = codes "count"
name_of op.Min = codes "min"
name_of op.Max = codes "max"
name_of op.FindFirst = codes "findFirst"
name_of op.ToArray = codes "toArray"
name_of op.Reduce = codes "reduce"
name_of op.AnyMatch = codes "anyMatch"
name_of op.AllMatch = codes "allMatch"
name_of op.NoneMatch = codes "noneMatch"
name_of op.SumExact = codes "sumExact"
name_of op.OnFault = codes "onFault"

-- all operations
abbrev pub operations : List Operation
operations =
    op.Range ∷ op.RangeClosed ∷ op.Of ∷ op.Empty ∷ op.Column ∷ op.Result ∷ op.Concat ∷ op.Map ∷ op.Filter
    ∷ op.FlatMap ∷ op.Limit ∷ op.Skip ∷ op.TakeWhile ∷ op.DropWhile ∷ op.Prefix ∷ op.Sorted ∷ op.Distinct ∷ op.Sum
    ∷ op.Count ∷ op.Min ∷ op.Max ∷ op.FindFirst ∷ op.ToArray ∷ op.Reduce ∷ op.AnyMatch ∷ op.AllMatch ∷ op.NoneMatch
    ∷ op.SumExact ∷ op.OnFault ∷ []

-- the first of these operations with this name
abbrev pub operation_among : List Operation → List ℕ → Option Operation
operation_among [] w = None
operation_among (o ∷ os) w = if pointwise nat_eq w (name_of o) then Some o else operation_among os w

abbrev pub operation_of : List ℕ → Option Operation
operation_of w = operation_among operations w

-- the row of an operation: where it stands, what it takes, and what it builds
abbrev pub row : Operation → Row
row op.Range = as_source (of_bounds job.range)
row op.RangeClosed = as_source (of_bounds job.range_closed)
row op.Of = as_source (of_values job.values)
row op.Empty = as_source (of_nothing (job.values []))
row op.Column = as_source (of_column job.values)
row op.Result = as_source (of_job job.result)
row op.Concat = as_concat
row op.Map = as_stage (of_long (λ e. job.item (map e)))
row op.Filter = as_stage (of_test (λ p. job.item (filter p)))
row op.FlatMap = as_stage (of_stream (λ g. job.item (flat_map g)))
row op.Limit = as_stage (of_count (λ k. job.slice (limit k)))
row op.Skip = as_stage (of_count (λ k. job.slice (skip k)))
row op.TakeWhile = as_stage (of_test (λ p. job.slice (take_while p)))
row op.DropWhile = as_stage (of_test (λ p. job.slice (drop_while p)))
row op.Prefix = as_stage (of_positions job.prefix)
row op.Sorted = as_stage (of_nothing job.sorted)
row op.Distinct = as_stage (of_nothing (job.distinct []))
row op.Sum = as_terminal (of_nothing job.sum)
row op.Count = as_terminal (of_nothing job.count)
row op.Min = as_terminal (of_nothing job.min)
row op.Max = as_terminal (of_nothing job.max)
row op.FindFirst = as_terminal (of_nothing (job.find find.first))
row op.ToArray = as_terminal (of_nothing job.to_array)
row op.Reduce = as_terminal (of_identity job.reduce job.reduce_from job.exact_sum)
row op.AnyMatch = as_terminal (of_test (λ p. job.find (find.any_match p)))
row op.AllMatch = as_terminal (of_test (λ p. job.find (find.all_match p)))
row op.NoneMatch = as_terminal (of_test (λ p. job.find (find.none_match p)))
row op.SumExact = as_terminal (of_nothing job.exact_sum)
row op.OnFault = as_fallback (of_number (λ k. k))

-- the first version of the language that has an operation
abbrev pub version_of_operation : Operation → ℕ
version_of_operation op.Range = 1
version_of_operation op.RangeClosed = 1
version_of_operation op.Of = 1
version_of_operation op.Empty = 1
version_of_operation op.Column = 1
version_of_operation op.Result = 1
version_of_operation op.Concat = 1
version_of_operation op.Map = 1
version_of_operation op.Filter = 1
version_of_operation op.FlatMap = 1
version_of_operation op.Limit = 1
version_of_operation op.Skip = 1
version_of_operation op.TakeWhile = 1
version_of_operation op.DropWhile = 1
version_of_operation op.Prefix = 1
version_of_operation op.Sum = 1
version_of_operation op.Count = 1
version_of_operation op.Min = 1
version_of_operation op.Max = 1
version_of_operation op.FindFirst = 1
version_of_operation op.ToArray = 1
version_of_operation op.Reduce = 1
version_of_operation op.AnyMatch = 1
version_of_operation op.AllMatch = 1
version_of_operation op.NoneMatch = 1
version_of_operation op.OnFault = 2
version_of_operation op.SumExact = 3
version_of_operation op.Sorted = 3
version_of_operation op.Distinct = 3

-- where an operation stands in a job
abbrev pub role_of : Operation → Role
role_of o = role_in (row o)

-- what stands between the parentheses of a call of it
abbrev pub params_of : Operation → Params
params_of o = params_in (row o)

-- what a call of it builds of its last part and its numbers, or what it is refused for
abbrev pub built_of : Operation → Argument → List ℤ → Result AbstractCall Cause
built_of o a ks = built_by (row o) a ks

-- whether a call may have this number of parts; what stands in a `concat` are sources, by the grammar of sources
abbrev pub allowed : Params → ℕ → Bool
allowed params.Nothing n = n == 0
allowed params.Bounds n = n == 2
allowed params.Values n = true
allowed params.Number n = n == 1
allowed params.Count n = n == 1
allowed params.Column n = (n == 1) || (n == 2)
allowed params.Job n = n == 1
allowed params.Long n = n == 1
allowed params.Test n = n == 1
allowed params.Stream n = n == 1
allowed params.Positions n = (n == 1) || (n == 3)
allowed params.Identity n = (n == 1) || (n == 2)
allowed params.Sources n = false

abbrev pub allows : Operation → ℕ → Bool
allows o n = allowed (params_of o) n

-- of n parts, what part i is
abbrev pub param_at : Params → ℕ → ℕ → Param
param_at params.Nothing n i = param.Number
param_at params.Bounds n i = param.Number
param_at params.Values n i = param.Number
param_at params.Number n i = param.Number
param_at params.Count n i = param.Number
param_at params.Column n i = if i == 0 then param.Text else param.Places
param_at params.Job n i = param.Name
param_at params.Long n i = param.Long
param_at params.Test n i = param.Bool
param_at params.Stream n i = param.Stream
param_at params.Positions n i = if nat_lt (i + 1) n then param.Number else param.Operator
param_at params.Identity n i = if nat_lt (i + 1) n then param.Number else param.Operator
param_at params.Sources n i = param.Number

abbrev pub param_of : Operation → ℕ → ℕ → Param
param_of o n i = param_at (params_of o) n i

-- the bytes of a string, and of a name
abbrev pub string_in : List Word → Option (List ℕ)
string_in (quoted w ∷ []) = Some w
string_in ws = None

abbrev pub name_in : List Word → Option (List ℕ)
name_in (named w ∷ []) = Some w
name_in ws = None

-- helper: the number of decimal places that words are
abbrev pub places_in : List Word → Option ℕ
places_in (numeral w ∷ []) = places_of w
places_in ws = None

abbrev pub has_words : List Word → Bool
has_words [] = false
has_words (w ∷ ws) = true

-- whether words may stand as a part; what a lambda or an operator is, its own reader says
abbrev pub fits : Param → List Word → Bool
fits param.Number ws = is_number ws
fits param.Text ws = is_some (string_in ws)
fits param.Places ws = is_some (places_in ws)
fits param.Name ws = is_some (name_in ws)
fits param.Long ws = has_words ws
fits param.Bool ws = has_words ws
fits param.Stream ws = has_words ws
fits param.Operator ws = has_words ws
