-- Meaning: the items of a walk whose value no item before them has.
use Rattle.std.specs.Prelude.{ℤ, Bool, false, ◌||◌, if◌then◌else◌, List, [], ◌∷◌}
use Rattle.std.specs.Ordering.{int_eq}
use Rattle.lambda_values.specs.declared.item.Item.{Item}
use Rattle.trace.specs.Trace.{Trace, trace}

-- whether a value is one of these
abbrev pub is_among : ℤ → List ℤ → Bool
is_among v [] = false
is_among v (w ∷ ws) = int_eq v w || is_among v ws

-- the items whose value isn't one of these, nor that of an item before them
abbrev pub firsts : List ℤ → List Item → List Item
firsts seen [] = []
firsts seen (x ∷ xs) = if is_among x.value seen then firsts seen xs else x ∷ firsts (x.value ∷ seen) xs

-- a walk without the items whose value came before; its end stays (`LongStream.distinct`)
abbrev pub distinct_walk : List ℤ → Trace → Trace
distinct_walk seen t = trace (firsts seen t.items) t.ending
