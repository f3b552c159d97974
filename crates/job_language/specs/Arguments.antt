-- Meaning: what the last part of a call is read as, if it is no number.
use Rattle.std.specs.Prelude.{◌≡◌, ℕ, suc, ◌+◌, ℤ, Bool, true, false, List, [], ◌∷◌, ◌++◌, length, get_or, nat_le}
use Rattle.std.specs.Prelude.{Option, Some}
use Rattle.std.specs.Prelude.{None, Result, Ok, Err}
use Rattle.stream_tokens.specs.declared.token.Token.{Token}
use Rattle.stream_tokens.specs.declared.token.TokenKind.TheVariants.{Bad}
use Rattle.stream_tokens.specs.CutTexts.{TokenizedText, between}
use Rattle.job_names.specs.ColumnKeys.{key_of}
use Rattle.lambda_expr.specs.Words.{Word}
use Rattle.lambda_values.specs.Lambda.{AbstractLambda, long, boolean, stream as inner_stream, pair}
use Rattle.lambda_expr.specs.Refusals.{Judged, IsRefusedWithin}
use Rattle.lambda_values.specs.Cells.{cells_of}
use Rattle.lambda_values.specs.References.{names_of}
use Rattle.lambda_expr.specs.declared.fault.ReadFault.{ReadFault}
use Rattle.lambda_expr.specs.declared.fault.ReadFault.TheVariants as fault
use Rattle.lambda_values.specs.declared.lambda.PairForm.{PairForm}
use Rattle.lambda_values.specs.declared.lambda.PairForm.TheVariants as form
use Rattle.lambda_expr.specs.declared.want.Want.{Want}
use Rattle.lambda_expr.specs.declared.want.Want.TheVariants as want
use Rattle.tables.specs.Table.{cells_named}
use Rattle.reduce_ops.specs.declared.op.Op.{Op}
use Rattle.reduce_ops.specs.declared.op.Op.TheVariants as op
use Rattle.job_language.specs.declared.fault.Cause.{Cause}
use Rattle.job_language.specs.declared.fault.Cause.TheVariants as cause
use Rattle.job_language.specs.declared.operation.Operation.{Operation}
use Rattle.job_language.specs.declared.operation.Param.{Param}
use Rattle.job_language.specs.declared.operation.Param.TheVariants as param
use Rattle.job_language.specs.declared.terminal.Gives.{Gives}
use Rattle.job_language.specs.declared.terminal.Gives.TheVariants as gives
use Rattle.job_language.specs.Rows.{Argument, nothing, column, job, number, test, stream, operator, exact}
use Rattle.job_language.specs.Table.{name_in, param_of, places_in, string_in}
use Rattle.job_language.specs.Calls.{Call}
use Rattle.job_language.specs.Causes.{Scope, given, first_cause, inside_quotes}
use Rattle.job_language.specs.Operators.{is_add_exact, spelled_op}

-- a call of a job, and the place of its opening parenthesis among the words
pub record PlacedCall : Type 0 where
  pub opened : ℕ
  pub call : Call

-- the last part of a call
abbrev pub last_part : List (List Word) → List Word
last_part [] = []
last_part (a ∷ []) = a
last_part (a ∷ b ∷ xs) = last_part (b ∷ xs)

-- how many words stand before it, commas and all
abbrev pub before_last : List (List Word) → ℕ
before_last [] = 0
before_last (a ∷ []) = 0
before_last (a ∷ b ∷ xs) = suc (length a) + before_last (b ∷ xs)

-- what the row says of it; a call without parts has none
abbrev pub last_param : Operation → List (List Word) → Param
last_param o [] = param.Number
last_param o (a ∷ xs) = param_of o (suc (length xs)) (length xs)

-- helper: a token for a place that has none
abbrev pub no_token : Token
no_token = record { kind = Bad; from = 0; to = 0 }

-- the text of the last part: from the end of the `(` or `,` before it to the `)` after it
abbrev pub argument_text : TokenizedText → PlacedCall → TokenizedText
argument_text t c =
    let i = c.opened + before_last c.call.parts in
    let j = i + suc (length (last_part c.call.parts)) in
    between t (get_or t.tokens i no_token) (get_or t.tokens j no_token) i j

-- a column is its cells
abbrev pub column_answer : Option (List ℤ) → Result Argument Cause
column_answer None = Err cause.UnknownColumn
column_answer (Some cells) = Ok (column cells)

-- helper: the key of a column by its name in quotes and its number of decimal places
abbrev pub keyed : Option (List ℕ) → Option ℕ → Option (List ℕ)
keyed (Some w) (Some p) = Some (key_of (inside_quotes w) p)
keyed w p = None

-- the key of the column that the parts of a call name: a string, and after it a number of decimal places or nothing
abbrev pub key_in : List (List Word) → Option (List ℕ)
key_in (a ∷ []) = keyed (string_in a) (Some 0)
key_in (a ∷ b ∷ []) = keyed (string_in a) (places_in b)
key_in xs = None

abbrev pub key_answer : Scope → Option (List ℕ) → Result Argument Cause
key_answer scope (Some key) = column_answer (cells_named key scope.columns)
key_answer scope None = Ok nothing

-- `result` names an earlier job that gives an array
abbrev pub result_answer : List ℕ → Option Gives → Result Argument Cause
result_answer w None = Err cause.UnknownJob
result_answer w (Some gives.Array) = Ok (job w)
result_answer w (Some g) = Err cause.NotAnArray

abbrev pub name_answer : Scope → Option (List ℕ) → Result Argument Cause
name_answer scope (Some w) = result_answer w (given scope.jobs w)
name_answer scope None = Ok nothing

-- what a text gives, with cells and rows or without them: the lambda that it is, or what it is refused for
abbrev pub IsOutcome : Bool → List ℕ → Want → Result AbstractLambda ReadFault → Type 0
IsOutcome cells text w (Ok l) = Judged cells text w (Ok l)
IsOutcome cells text w (Err fault.NoMemory) = ⊥
IsOutcome cells text w (Err f) = IsRefusedWithin cells text w f

-- a reference names an earlier job that gives a number
abbrev pub reference_cause : Option Gives → Option Cause
reference_cause None = Some cause.UnknownJob
reference_cause (Some gives.Number) = None
reference_cause (Some g) = Some cause.NotANumber

abbrev pub reference_causes : Scope → List (List ℕ) → List (Option Cause)
reference_causes scope [] = []
reference_causes scope (w ∷ ws) = reference_cause (given scope.jobs w) ∷ reference_causes scope ws

-- a cell stands in a row, and in a column
abbrev pub cell_cause : Bool → Option (List ℤ) → Option Cause
cell_cause false cells = Some cause.NoRow
cell_cause true None = Some cause.UnknownColumn
cell_cause true (Some cells) = None

abbrev pub cell_causes : Scope → List (List ℕ) → List (Option Cause)
cell_causes scope [] = []
cell_causes scope (w ∷ ws) = cell_cause scope.rows (cells_named w scope.columns) ∷ cell_causes scope ws

-- an operator has to be in the table
abbrev pub listed : Option Op → Result Argument Cause
listed None = Err cause.OperatorNotListed
listed (Some f) = Ok (operator f)

-- a lambda of two parameters is an operator, or the addition of exact sums
abbrev pub pair_argument : PairForm → Result Argument Cause
pair_argument form.First = Ok (operator op.First)
pair_argument form.Second = Ok (operator op.Last)
pair_argument form.Sum = Ok (operator op.Sum)
pair_argument form.Product = Ok (operator op.Product)
pair_argument form.Min = Ok (operator op.Min)
pair_argument form.Max = Ok (operator op.Max)
pair_argument form.And = Ok (operator op.And)
pair_argument form.Or = Ok (operator op.Or)
pair_argument form.Xor = Ok (operator op.Xor)
pair_argument form.ExactSum = Ok exact
pair_argument form.Other = Err cause.OperatorNotListed

abbrev pub argument_of : AbstractLambda → Result Argument Cause
argument_of (long e) = Ok (number e)
argument_of (boolean p) = Ok (test p)
argument_of (inner_stream g) = Ok (stream g)
argument_of (pair f) = pair_argument f

-- the causes of the names in a lambda: of its references, then of its cells
abbrev pub named_causes : Scope → AbstractLambda → List (Option Cause)
named_causes scope l = reference_causes scope (names_of l) ++ cell_causes scope (cells_of l)

abbrev pub after_names : Option Cause → AbstractLambda → Result Argument Cause
after_names None l = argument_of l
after_names (Some e) l = Err e

abbrev pub lambda_answer : Scope → Result AbstractLambda ReadFault → Result Argument Cause
lambda_answer scope (Err f) = Err (cause.Expr f)
lambda_answer scope (Ok l) = after_names (first_cause (named_causes scope l)) l

-- whether lambdas may have cells and rows
abbrev pub reads_cells : Scope → Bool
reads_cells scope = nat_le 3 scope.version

abbrev pub IsLambdaRead : Scope → List ℕ → Want → Result Argument Cause → Type 0
IsLambdaRead scope text w r =
    (o : Result AbstractLambda ReadFault) × IsOutcome (reads_cells scope) text w o × (lambda_answer scope o ≡ r)

-- an operator is a name, a method, or a lambda of two parameters; one method is the addition of exact sums
abbrev pub IsOperatorRead : Bool → Option (Option Op) → Scope → List ℕ → Result Argument Cause → Type 0
IsOperatorRead true o scope text r = Ok exact ≡ r
IsOperatorRead false (Some f) scope text r = listed f ≡ r
IsOperatorRead false None scope text r = IsLambdaRead scope text want.Pair r

-- what parts and the text of the last one are read as, by what the row says of that one: a column by all its parts
abbrev pub IsReadBy : Param → Scope → List (List Word) → List ℕ → Result Argument Cause → Type 0
IsReadBy param.Number scope xs text r = Ok nothing ≡ r
IsReadBy param.Text scope xs text r = key_answer scope (key_in xs) ≡ r
IsReadBy param.Places scope xs text r = key_answer scope (key_in xs) ≡ r
IsReadBy param.Name scope xs text r = name_answer scope (name_in (last_part xs)) ≡ r
IsReadBy param.Long scope xs text r = IsLambdaRead scope text want.Long r
IsReadBy param.Bool scope xs text r = IsLambdaRead scope text want.Bool r
IsReadBy param.Stream scope xs text r = IsLambdaRead scope text want.Stream r
IsReadBy param.Operator scope xs text r =
    IsOperatorRead (is_add_exact (last_part xs)) (spelled_op (last_part xs)) scope text r

-- what the last part of a call of a job is read as, or a column by all its parts
abbrev pub IsArgumentRead : Scope → TokenizedText → PlacedCall → Result Argument Cause → Type 0
IsArgumentRead scope t c r =
    IsReadBy (last_param c.call.operation c.call.parts) scope c.call.parts (argument_text t c).bytes r
