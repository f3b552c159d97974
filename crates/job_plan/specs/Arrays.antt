-- Condition: the values of a walk, without places.
use Rattle.std.specs.Prelude.{ℤ, List, ◌++◌, map as each_of}
use Rattle.lambda_values.specs.declared.item.Item.{Item}
use Rattle.trace.specs.declared.item.End.{End}
use Rattle.trace.specs.declared.item.End.TheVariants as end
use Rattle.trace.specs.Trace.{Trace}

-- the values that a walk gives in turn, and how it ends
pub record AbstractArray : Type 0 where
  pub values : List ℤ
  pub ending : End

abbrev pub array : List ℤ → End → AbstractArray
array vs e = record { values = vs; ending = e }

-- the array of a walk
abbrev pub array_of : Trace → AbstractArray
array_of t = array (each_of (λ (x : Item). x.value) t.items) t.ending

-- helper: these values, and then what comes after them; after a fault nothing comes
abbrev pub values_then : List ℤ → End → AbstractArray → AbstractArray
values_then vs end.Done b = array (vs ++ b.values) b.ending
values_then vs (end.Fault f) b = array vs (end.Fault f)

-- one, and then another; a fault of the first ends both
abbrev pub array_append : AbstractArray → AbstractArray → AbstractArray
array_append a b = values_then a.values a.ending b
