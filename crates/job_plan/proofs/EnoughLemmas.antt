-- Parts that describe enough of a piece.
use Rattle.std.proofs.Common.{ℕ, inl, refl}
use Rattle.lambda_values.specs.Earlier.{Numbers}
use Rattle.trace.specs.Trace.{Trace, nothing}
use Rattle.early_stop.proofs.Leaving.{enough_left}
use Rattle.job_plan.specs.declared.part.Part.{Part}
use Rattle.job_plan.specs.Parts.{StandsFor, StandsEnough}
use Rattle.job_routes.specs.Legs.{AbstractSegment}
use Rattle.job_plan.specs.Stretches.{IsDecided}

module _ (s : AbstractSegment) (env : Numbers) (p : Part) (decides : ℕ → Type 0) (from : ℕ) (piece : Trace) where
  -- all of it
  pub whole_enough : StandsFor s env p piece → StandsEnough decides s env p from piece
  whole_enough h = (piece, inl refl, h)

  -- none of it, since a place that decides lies at or before its start
  pub none_enough : IsDecided decides from → StandsFor s env p nothing → StandsEnough decides s env p from piece
  none_enough known h = (nothing, enough_left decides from known.0 piece nothing known.1 known.2, h)
