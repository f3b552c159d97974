-- Condition: one segment over three numbers, which gives its first item.
use Rattle.std.specs.Prelude.{pos, [], ◌∷◌, take}
use Rattle.trace.specs.declared.item.End.TheVariants as end
use Rattle.trace.specs.Trace.{Trace, trace}

-- the walk over 7, 8, 9
abbrev pub three_numbers : Trace
three_numbers = trace (record { origin = 0; value = pos 7 } ∷ record { origin = 1; value = pos 8 } ∷ record
    { origin = 2; value = pos 9 } ∷ []) end.Done

-- a walk up to its first item
abbrev pub first_item : Trace → Trace
first_item t = trace (take 1 t.items) end.Done
