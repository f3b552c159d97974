-- Condition: what the stages of a pipeline make of a walk.
use Rattle.std.specs.Prelude.{◌≡◌, ℤ, List, Option, Some, None}
use Rattle.lambda_values.specs.declared.item.Item.{Item}
use Rattle.trace.specs.declared.item.End.{End}
use Rattle.trace.specs.Trace.{Trace, trace}
use Rattle.trace.specs.Stages.{pipe, stages_of}
use Rattle.batch_eval.specs.Batches.{flagged_walk, set_items}
use Rattle.batch_eval.specs.declared.pipeline.Pipeline.{Pipeline}

-- the walk through all stages, which are numbered from the first one on
abbrev pub piped : Pipeline → Trace → Trace
piped line t = pipe line.first (stages_of line.stages.now) line.env.now t

-- a walk through the stages to come, or, if there are none, over the items whose flag is set
abbrev pub walk_from : Option Pipeline → List ℤ → Trace → Trace
walk_from (Some line) flags t = piped line t
walk_from None flags t = flagged_walk flags t

-- the stages make one item of each: whichever of them are walked over, and however that walk ends
abbrev pub AreImages : Pipeline → List Item → List Item → Type 0
AreImages line xs ys = (flags : List ℤ) (e : End)
    → piped line (trace (set_items flags xs) e) ≡ trace (set_items flags ys) e
