-- Condition: a walk into a sink while some of its items wait.
use Rattle.std.specs.Prelude.{◌≡◌, List, ◌++◌, Result, Ok, Err}
use Rattle.std.specs.declared.alloc.AllocError.{AllocError}
use Rattle.lambda_values.specs.declared.item.Item.{Item}
use Rattle.trace.specs.declared.item.End.TheVariants as end
use Rattle.trace.specs.declared.feeding.Fed.{Fed}
use Rattle.trace.specs.declared.feeding.Fed.TheVariants as fed
use Rattle.trace.specs.Trace.{trace}
use Rattle.lambda_values.specs.Streams.{run_or_listed}
use Rattle.trace.specs.Sinks.{IsFed}
use Rattle.trace.specs.Stages.{at_place}
use Rattle.trace.specs.declared.source.InnerItems.{InnerItems}
use Rattle.batch_eval.specs.declared.pipeline.Pipeline.{Pipeline}
use Rattle.batch_eval.specs.Pipelines.{piped}

-- the items of an inner stream
abbrev pub inner_items : InnerItems → List Item
inner_items source = at_place source.origin (run_or_listed source.run source.listed.now)

-- all of these items were taken through the stages, but for the last ones, which wait
abbrev pub Holds : {S : Type 0} → (S → List Item → Type 0) → Pipeline → List Item → List Item → List Item → S → Type 0
Holds h line xs whole pending s = (done : List Item) × (whole ≡ done ++ pending)
    × IsFed h xs (piped line (trace done end.Done)) (Ok fed.More) s

-- all of these items were taken through the stages, but for the last ones, which wait; or the walk was stopped at one
-- of them
abbrev pub Poured : {S : Type 0} → (S → List Item → Type 0) → Pipeline → List Item → List Item → Result Fed AllocError
    → List Item → S → Type 0
Poured h line xs whole (Ok fed.More) pending s = Holds h line xs whole pending s
Poured h line xs whole (Ok (fed.Fault f)) pending s =
    IsFed h xs (piped line (trace whole end.Done)) (Ok (fed.Fault f)) s
Poured h line xs whole (Ok fed.Enough) pending s = IsFed h xs (piped line (trace whole end.Done)) (Ok fed.Enough) s
Poured h line xs whole (Err e) pending s = IsFed h xs (piped line (trace whole end.Done)) (Err e) s
