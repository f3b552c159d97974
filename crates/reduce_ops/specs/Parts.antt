-- Condition: which walk a partial fold describes.
use Rattle.std.specs.Prelude.{◌≡◌}
use Rattle.trace.specs.Trace.{Trace}
use Rattle.reduce_ops.specs.declared.partial.Partial.{Partial}
use Rattle.reduce_ops.specs.Operators.{value_of}
use Rattle.reduce_ops.specs.Folds.{fold_items}

-- a partial fold has the fold of this walk's items, if there are any, and its end
pub record StandsFor (p : Partial) (t : Trace) : Type 0 where
  pub value : p.value ≡ fold_items (value_of p.op) t.items
  pub ending : p.end ≡ t.ending
