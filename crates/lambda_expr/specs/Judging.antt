-- Condition: what the reader keeps while it judges a lambda.
use Rattle.std.specs.Prelude.{◌≡◌, List, Result, Ok, Err}
use Rattle.lambda_expr.specs.declared.fault.ReadFault.{ReadFault}
use Rattle.lambda_expr.specs.declared.fault.ReadFault.TheVariants as fault
use Rattle.lambda_values.specs.declared.lambda.Lambda.{Lambda}
use Rattle.lambda_expr.specs.declared.lexeme.Lexeme.{Lexeme}
use Rattle.lambda_expr.specs.declared.want.Want.{Want}
use Rattle.lambda_expr.specs.declared.body.BodySteps.{BodySteps}
use Rattle.lambda_expr.specs.BodyReading.{AreSteps}
use Rattle.lambda_expr.specs.Heads.{BodyShape, IsLambda}
use Rattle.lambda_values.specs.Lambda.{AbstractLambda, body_of}

-- what the judge answers, if this is the verdict
abbrev pub IsJudged : Result AbstractLambda ReadFault → Result Lambda ReadFault → Type 0
IsJudged v (Ok l) = v ≡ Ok (body_of l.body)
IsJudged v (Err fault.NoMemory) = Unit {0}
IsJudged v (Err (fault.Syntax n)) = ⊥
IsJudged v (Err f) = v ≡ Err f

-- the words are a lambda of this want whose body has these steps
abbrev pub IsWritten : Want → List Lexeme → BodySteps → Type 0
IsWritten w ws b = (shape : BodyShape) × IsLambda w ws shape × AreSteps shape b
