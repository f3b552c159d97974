-- Design: the text of each fault.
use Rattle.std.specs.Prelude.{ℕ, ◌++◌, List, codes, decimal}
use Rattle.lambda_expr.specs.FaultTexts.{read_fault_text}
use Rattle.job_language.specs.declared.fault.Cause.{Cause}
use Rattle.job_language.specs.declared.fault.Cause.TheVariants as cause
use Rattle.job_language.specs.declared.fault.JobFault.{JobFault}

-- of a cause; a number or a lambda that is refused has its own message
abbrev pub cause_text : Cause → List ℕ
cause_text cause.Syntax = codes "syntax"
cause_text cause.SameName = codes "same name"
cause_text cause.UnknownColumn = codes "unknown column"
cause_text cause.UnknownJob = codes "unknown job"
cause_text cause.NotANumber = codes "not a number"
cause_text cause.NotAnArray = codes "not an array"
cause_text cause.NegativeCount = codes "negative count"
cause_text cause.NotIdentity = codes "not identity"
cause_text cause.NoIdentity = codes "no identity"
cause_text cause.OperatorNotListed = codes "operator not listed"
cause_text cause.BadRange = codes "bad range"
cause_text cause.TooLong = codes "too long"
cause_text (cause.Expr f) = read_fault_text f
cause_text cause.NoMemory = codes "out of memory"
cause_text cause.NotScalar = codes "not scalar"
cause_text cause.NoRow = codes "no row"

-- of a cause, at the line that begins its job; being out of memory belongs to no line
abbrev pub text_at_line : ℕ → Cause → List ℕ
text_at_line line cause.NoMemory = codes "out of memory"
text_at_line line c = codes "line " ++ (decimal line ++ (codes ": " ++ cause_text c))

-- of a refusal
abbrev pub job_fault_text : JobFault → List ℕ
job_fault_text f = text_at_line f.line f.cause
