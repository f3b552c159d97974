-- Condition: how answers of callees become the fault of a file.
use Rattle.stream_tokens.specs.declared.job_text.TextFault.{TextFault}
use Rattle.stream_tokens.specs.declared.job_text.TextFault.TheVariants as text
use Rattle.lambda_expr.specs.declared.fault.ReadFault.{ReadFault}
use Rattle.lambda_expr.specs.declared.fault.ReadFault.TheVariants as read
use Rattle.job_language.specs.declared.fault.Cause.{Cause}
use Rattle.job_language.specs.declared.fault.Cause.TheVariants as cause
use Rattle.job_language.specs.declared.fault.JobFault.{JobFault}

-- the fault of a lambda, apart from out of memory
abbrev pub cause_of : ReadFault → Cause
cause_of read.NoMemory = cause.NoMemory
cause_of f = cause.Expr f

-- a line that belongs to no job, or out of memory
abbrev pub fault_of : TextFault → JobFault
fault_of (text.Syntax line) = record { line = line; cause = cause.Syntax }
fault_of text.NoMemory = record { line = 0; cause = cause.NoMemory }
