-- Meaning: what a part of a job is refused for: the causes in order of writing, and the first that there is.
use Rattle.std.specs.Prelude.{ℕ, suc, ℤ, pos, int_lt, Bool, true, false, ◌==◌, ◌&&◌, ◌||◌, nat_eq, nat_lt, nat_le}
use Rattle.std.specs.Prelude.{if◌then◌else◌, List, [], ◌∷◌, ◌++◌, length, take, drop, ◌-◌, Option, Some, None}
use Rattle.std.specs.Option.{is_none, is_some}
use Rattle.std.specs.Cmp.Lexicographic.{pointwise}
use Rattle.lambda_expr.specs.NumberWords.{number_read}
use Rattle.lambda_expr.specs.Words.{Word}
use Rattle.lambda_expr.specs.declared.fault.ReadFault.TheVariants.{LiteralTooLarge}
use Rattle.tables.specs.Table.{NamedColumn}
use Rattle.job_language.specs.declared.operation.Operation.{Operation}
use Rattle.job_language.specs.declared.operation.Operation.TheVariants as operation
use Rattle.job_language.specs.declared.operation.Param.{Param}
use Rattle.job_language.specs.declared.operation.Param.TheVariants as param
use Rattle.job_language.specs.declared.operation.Params.{Params}
use Rattle.job_language.specs.declared.operation.Params.TheVariants as params
use Rattle.job_language.specs.declared.operation.Role.{Role}
use Rattle.job_language.specs.declared.operation.Role.TheVariants as role
use Rattle.job_language.specs.declared.terminal.Gives.{Gives}
use Rattle.job_language.specs.declared.fault.Cause.{Cause}
use Rattle.job_language.specs.declared.fault.Cause.TheVariants as cause
use Rattle.job_language.specs.Table.{param_of, params_of, version_of_operation}
use Rattle.job_language.specs.Calls.{Call}
use Rattle.job_language.specs.Grammar.{Job, job_calls, plain_sources}

-- an earlier job: its name, and what its terminal gives
pub record Earlier : Type 0 where
  pub name : List ℕ
  pub gives : Gives

-- the version of the language that a job is written in, whether its items are rows of the columns, and what it may name
pub record Scope : Type 0 where
  pub version : ℕ
  pub rows : Bool
  pub jobs : List Earlier
  pub columns : List NamedColumn

-- what the earlier job with this name gives
abbrev pub given : List Earlier → List ℕ → Option Gives
given [] w = None
given (j ∷ js) w = if pointwise nat_eq w j.name then Some j.gives else given js w

abbrev pub first_cause : List (Option Cause) → Option Cause
first_cause [] = None
first_cause (None ∷ cs) = first_cause cs
first_cause (Some c ∷ cs) = Some c

abbrev pub when : Bool → Cause → Option Cause
when true c = Some c
when false c = None

-- helper: a call of `column`
abbrev pub is_column : Operation → Bool
is_column operation.Column = true
is_column o = false

-- helper: the first version of the language that has a call of an operation with n parts: a column with decimal places
-- has two
abbrev pub version_of_call : Operation → ℕ → ℕ
version_of_call o n = if is_column o && (n == 2) then 3 else version_of_operation o

-- whether one of these calls is of a later version than this
abbrev pub has_later_call : ℕ → List Call → Bool
has_later_call version [] = false
has_later_call version (c ∷ cs) =
    nat_lt version (version_of_call c.operation (length c.parts)) || has_later_call version cs

-- each call of a job is of its version or an earlier one
abbrev pub version_cause : Scope → Job → Option Cause
version_cause scope j = when (has_later_call scope.version (job_calls j)) cause.Syntax

-- a name of at most 64 bytes, which no earlier job has
abbrev pub name_causes : Scope → List ℕ → List (Option Cause)
name_causes scope w =
    when (nat_lt 64 (length w)) cause.TooLong ∷ when (is_some (given scope.jobs w)) cause.SameName ∷ []

-- `of` has at most 1,024 values
abbrev pub count_of : Params → ℕ → Option Cause
count_of params.Values n = when (nat_lt 1024 n) cause.TooLong
count_of p n = None

-- each number has 64 bits
abbrev pub number_cause : Param → List Word → Option Cause
number_cause param.Number ws = when (is_none (number_read ws)) (cause.Expr LiteralTooLarge)
number_cause p ws = None

abbrev pub number_causes : Operation → ℕ → ℕ → List (List Word) → List (Option Cause)
number_causes o n i [] = []
number_causes o n i (a ∷ xs) = number_cause (param_of o n i) a ∷ number_causes o n (suc i) xs

abbrev pub is_negative : ℤ → Bool
is_negative z = int_lt z (pos 0)

-- the bytes between the quotes of a string
abbrev pub inside_quotes : List ℕ → List ℕ
inside_quotes w = take (length w - 2) (drop 1 w)

-- helper: a number that may be missing, as a list
abbrev pub as_list : Option ℤ → List ℤ
as_list None = []
as_list (Some k) = k ∷ []

-- the numbers of a call, from part i on
abbrev pub number_in : Param → List Word → List ℤ
number_in param.Number ws = as_list (number_read ws)
number_in param.Text ws = []
number_in param.Places ws = []
number_in param.Name ws = []
number_in param.Long ws = []
number_in param.Bool ws = []
number_in param.Stream ws = []
number_in param.Operator ws = []

abbrev pub numbers_of : Operation → ℕ → ℕ → List (List Word) → List ℤ
numbers_of o n i [] = []
numbers_of o n i (a ∷ xs) = number_in (param_of o n i) a ++ numbers_of o n (suc i) xs

-- a count below 0; a range that begins below 0, or ends before it begins
abbrev pub values_cause : Params → List ℤ → Option Cause
values_cause params.Count (k ∷ []) = when (is_negative k) cause.NegativeCount
values_cause params.Positions (a ∷ b ∷ []) = when (is_negative a || int_lt b a) cause.BadRange
values_cause p ks = None

-- the causes of a call that come before the causes of its last part
abbrev pub early_causes : Call → List (Option Cause)
early_causes c =
    let n = length c.parts in
    let p = params_of c.operation in
    count_of p n ∷ (number_causes c.operation n 0 c.parts ++ values_cause p (numbers_of c.operation n 0 c.parts) ∷ [])

-- a stage after 32 others
abbrev pub stage_cause : ℕ → Role → Option Cause
stage_cause n role.Stage = when (nat_le 32 n) cause.TooLong
stage_cause n r = None

-- at most 8 plain sources; each source inside `concat` counts
abbrev pub sources_cause : Job → Option Cause
sources_cause j = when (nat_lt 8 (length (plain_sources j.source))) cause.TooLong

-- helper: there is one call, of `column`
abbrev pub is_one_column : List Call → Bool
is_one_column [] = false
is_one_column (c ∷ []) = is_column c.operation
is_one_column (c ∷ d ∷ cs) = false

-- whether the items of a job are rows: its source is one column
abbrev pub goes_over_rows : Job → Bool
goes_over_rows j = is_one_column (plain_sources j.source)

-- the causes of a job that come before the causes of its calls
abbrev pub causes_of : Scope → Job → List (Option Cause)
causes_of scope j = version_cause scope j ∷ (name_causes scope j.name ++ sources_cause j ∷ [])
