-- Condition: bodies in steps, and what the checks of operands find in them.
use Rattle.std.specs.Prelude.{◌≡◌, List, [], ◌∷◌, ◌++◌, length, Option, Some, None}
use Rattle.lambda_expr.specs.declared.body.BodySteps.{BodySteps}
use Rattle.lambda_expr.specs.declared.body.BodySteps.TheVariants as steps
use Rattle.lambda_expr.specs.declared.check.Summary.{Summary}
use Rattle.lambda_expr.specs.declared.want.Want.{Want}
use Rattle.lambda_expr.specs.declared.lexeme.Lexeme.{Lexeme}
use Rattle.lambda_expr.specs.declared.step.ParseStep.{ParseStep}
use Rattle.lambda_expr.specs.declared.sign.Sign.TheVariants.{Comma}
use Rattle.lambda_expr.specs.Elaborating.{top_typed, typed_steps}
use Rattle.lambda_expr.specs.Grammar.{postfix}
use Rattle.lambda_expr.specs.Heads.{BodyShape, expression, operands, IsBody}
use Rattle.lambda_expr.specs.Lexemes.{Names}
use Rattle.lambda_expr.specs.SourceReading.{each_postfix, steps_of}
use Rattle.lambda_expr.specs.Sources.{Takes}
use Rattle.lambda_expr.specs.StreamChecks.{and_number}
use Rattle.lambda_expr.specs.Summaries.{binary_summary, nothing, summary_steps, top_summary}
use Rattle.lambda_values.specs.Term.{Long}

-- these are the steps of the body
abbrev pub AreSteps : BodyShape → BodySteps → Type 0
AreSteps (expression e) (steps.Expression v) = v.items ≡ postfix e
AreSteps (expression e) (steps.Stream s vs) = ⊥
AreSteps (operands s es) (steps.Expression v) = ⊥
AreSteps (operands s es) (steps.Stream t vs) = (t ≡ s) × Takes s (length es) × (steps_of vs.items ≡ each_postfix es)

-- the words are a body of this want that has these steps
abbrev pub IsBodyOf : Want → List Lexeme → BodySteps → Type 0
IsBodyOf w ws b = (shape : BodyShape) × IsBody w ws shape × AreSteps shape b

-- what the checks find in operands with commas between them
abbrev pub no_operands : Summary
no_operands = record nothing { depth = 0 }

abbrev pub found_in : Summary → List (List ParseStep) → Summary
found_in c [] = c
found_in c (s ∷ ss) = found_in (binary_summary Comma c (top_summary (summary_steps 1 [] s))) ss

-- the numbers of operands, from their steps
abbrev pub step_numbers : Names → List (List ParseStep) → Option (List Long)
step_numbers h [] = Some []
step_numbers h (s ∷ ss) = and_number (top_typed (typed_steps h [] s)) (step_numbers h ss)

-- numbers after others
abbrev pub after_numbers : List Long → Option (List Long) → Option (List Long)
after_numbers es None = None
after_numbers es (Some fs) = Some (es ++ fs)
