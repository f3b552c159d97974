-- Meaning: what a report and a message call a fault.
use Rattle.std.specs.Prelude.{ℕ, List, codes}
use Rattle.lambda_values.specs.declared.fault.FaultKind.{FaultKind}
use Rattle.lambda_values.specs.declared.fault.FaultKind.TheVariants.{DivideByZero, Overflow, OutOfArray, SourceTooLong}

-- a kind of fault
abbrev pub kind_text : FaultKind → List ℕ
kind_text DivideByZero = codes "divide-by-zero"
kind_text Overflow = codes "overflow"
kind_text OutOfArray = codes "out-of-array"
kind_text SourceTooLong = codes "source-too-long"
