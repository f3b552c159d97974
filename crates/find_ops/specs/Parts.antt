-- Condition: which walk the part of a find describes.
use Rattle.std.specs.Prelude.{◌≡◌, ℕ}
use Rattle.trace.specs.Trace.{Trace}
use Rattle.find_ops.specs.declared.find_part.FindPart.{FindPart}
use Rattle.lambda_values.specs.Earlier.{Numbers}
use Rattle.find_ops.specs.Finds.{Find, answer_of_none, decision_of}

-- the part has what this walk decides, and what an empty stream gives
pub record StandsFor (d : Find) (n : ℕ) (env : Numbers) (p : FindPart) (t : Trace) : Type 0 where
  pub decision : p.decision ≡ decision_of d n env t
  pub otherwise : p.otherwise ≡ answer_of_none d
