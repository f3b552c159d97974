-- Meaning: what a row of the table of operations takes between the parentheses of a call, and what it builds.
use Rattle.std.specs.Prelude.{ℕ, ℤ, pos, unsigned_abs, if◌then◌else◌, List, [], ◌∷◌, Option, Some, None, Result, Ok}
use Rattle.std.specs.Prelude.{Err}
use Rattle.std.specs.Ordering.{int_eq}
use Rattle.lambda_values.specs.Term.{Long, Truth}
use Rattle.lambda_values.specs.Streams.{Inner}
use Rattle.reduce_ops.specs.declared.op.Op.{Op}
use Rattle.reduce_ops.specs.Operators.{identity_of}
use Rattle.job_language.specs.declared.fault.Cause.{Cause}
use Rattle.job_language.specs.declared.fault.Cause.TheVariants as cause
use Rattle.job_language.specs.declared.operation.Role.{Role}
use Rattle.job_language.specs.declared.operation.Role.TheVariants as role
use Rattle.job_language.specs.declared.operation.Params.{Params}
use Rattle.job_language.specs.declared.operation.Params.TheVariants as params
use Rattle.job_language.specs.Jobs.{AbstractPlainSource, AbstractJobStage, AbstractTerminal}

-- what a last part is read as: the cells of a column, the name of an earlier job, the expression of a lambda, an
-- operator, the addition of exact sums; nothing if the last part is a number, or there is none
pub data Argument : Type 0 where
  nothing : Argument
  column : List ℤ → Argument
  job : List ℕ → Argument
  number : Long → Argument
  test : Truth → Argument
  stream : Inner → Argument
  operator : Op → Argument
  exact : Argument

-- what a call builds
pub data AbstractCall : Type 0 where
  source : AbstractPlainSource → AbstractCall
  stage : AbstractJobStage → AbstractCall
  terminal : AbstractTerminal → AbstractCall
  fallback : ℤ → AbstractCall

-- what a row takes, and what it builds of it: an operator is alone, or after two positions, or after its identity;
-- after 0 it may be the addition of exact sums instead
pub data Takes (A : Type 0) : Type 0 where
  of_nothing : A → Takes A
  of_bounds : (ℤ → ℤ → A) → Takes A
  of_values : (List ℤ → A) → Takes A
  of_number : (ℤ → A) → Takes A
  of_count : (ℕ → A) → Takes A
  of_column : (List ℤ → A) → Takes A
  of_job : (List ℕ → A) → Takes A
  of_long : (Long → A) → Takes A
  of_test : (Truth → A) → Takes A
  of_stream : (Inner → A) → Takes A
  of_positions : (Option (ℕ × ℕ) → Op → A) → Takes A
  of_identity : (Op → A) → (ℤ → Op → A) → A → Takes A

-- a row: where its operation stands, what it takes, and what it builds; the parts of a `concat` are sources, by the
-- grammar of sources
pub data Row : Type 0 where
  as_source : Takes AbstractPlainSource → Row
  as_concat : Row
  as_stage : Takes AbstractJobStage → Row
  as_terminal : Takes AbstractTerminal → Row
  as_fallback : Takes ℤ → Row

abbrev pub role_in : Row → Role
role_in (as_source t) = role.Source
role_in as_concat = role.Concatenation
role_in (as_stage t) = role.Stage
role_in (as_terminal t) = role.Terminal
role_in (as_fallback t) = role.Fallback

abbrev pub params_taken : {A : Type 0} → Takes A → Params
params_taken (of_nothing x) = params.Nothing
params_taken (of_bounds f) = params.Bounds
params_taken (of_values f) = params.Values
params_taken (of_number f) = params.Number
params_taken (of_count f) = params.Count
params_taken (of_column f) = params.Column
params_taken (of_job f) = params.Job
params_taken (of_long f) = params.Long
params_taken (of_test f) = params.Test
params_taken (of_stream f) = params.Stream
params_taken (of_positions f) = params.Positions
params_taken (of_identity f g x) = params.Identity

abbrev pub params_in : Row → Params
params_in (as_source t) = params_taken t
params_in as_concat = params.Sources
params_in (as_stage t) = params_taken t
params_in (as_terminal t) = params_taken t
params_in (as_fallback t) = params_taken t

-- the number before an operator is its identity
abbrev pub from_identity : {A : Type 0} → Option ℤ → ℤ → A → Result A Cause
from_identity None k x = Err cause.NoIdentity
from_identity (Some i) k x = if int_eq i k then Ok x else Err cause.NotIdentity

-- what is built of a last part and the numbers before it; those that the grammar gives no call of the row are a syntax
-- fault
abbrev pub taken : {A : Type 0} → Takes A → Argument → List ℤ → Result A Cause
taken (of_nothing x) nothing [] = Ok x
taken (of_bounds f) nothing (a ∷ b ∷ []) = Ok (f a b)
taken (of_values f) nothing ks = Ok (f ks)
taken (of_number f) nothing (k ∷ []) = Ok (f k)
taken (of_count f) nothing (k ∷ []) = Ok (f (unsigned_abs k))
taken (of_column f) (column cells) ks = Ok (f cells)
taken (of_job f) (job w) ks = Ok (f w)
taken (of_long f) (number e) ks = Ok (f e)
taken (of_test f) (test p) ks = Ok (f p)
taken (of_stream f) (stream g) ks = Ok (f g)
taken (of_positions f) (operator o) [] = Ok (f None o)
taken (of_positions f) (operator o) (a ∷ b ∷ []) = Ok (f (Some (unsigned_abs a, unsigned_abs b)) o)
taken (of_positions f) exact ks = Err cause.OperatorNotListed
taken (of_identity f g x) (operator o) [] = Ok (f o)
taken (of_identity f g x) (operator o) (k ∷ []) = from_identity (identity_of o) k (g k o)
taken (of_identity f g x) exact (k ∷ []) = from_identity (Some (pos 0)) k x
taken (of_identity f g x) exact ks = Err cause.OperatorNotListed
taken t a ks = Err cause.Syntax

abbrev pub made : {A B : Type 0} → (A → B) → Result A Cause → Result B Cause
made f (Ok x) = Ok (f x)
made f (Err e) = Err e

-- what a call of a row builds of its last part and its numbers, or what it is refused for
abbrev pub built_by : Row → Argument → List ℤ → Result AbstractCall Cause
built_by (as_source t) a ks = made source (taken t a ks)
built_by as_concat a ks = Err cause.Syntax
built_by (as_stage t) a ks = made stage (taken t a ks)
built_by (as_terminal t) a ks = made terminal (taken t a ks)
built_by (as_fallback t) a ks = made fallback (taken t a ks)
