-- Meaning: the first item that ends a walk.
use Rattle.std.specs.Prelude.{ℕ, ◌+◌, List, [], ◌∷◌, Option, Some, None, take, drop}
use Rattle.lambda_values.specs.declared.item.Item.{Item}
use Rattle.trace.specs.declared.item.End.{End}
use Rattle.trace.specs.declared.item.End.TheVariants as end
use Rattle.trace.specs.Trace.{Trace, trace}

-- helper: a position, counted from k items earlier
abbrev pub shift : ℕ → Option (ℕ × End) → Option (ℕ × End)
shift k None = None
shift k (Some p) = Some (k + p.0, p.1)

-- helper: an item that ends the walk, or else a later one
abbrev pub stop_or : Option End → Option (ℕ × End) → Option (ℕ × End)
stop_or (Some e) later = Some (0, e)
stop_or None later = later

-- the position of the first item that ends the walk, and how it ends there
abbrev pub stop_at : (Item → Option End) → List Item → Option (ℕ × End)
stop_at g [] = None
stop_at g (x ∷ xs) = stop_or (g x) (shift 1 (stop_at g xs))

-- the items before that position, and that end
abbrev pub kept_before : Option (ℕ × End) → Trace → Trace
kept_before None t = t
kept_before (Some p) t = trace (take p.0 t.items) p.1

-- helper: a fault there leaves no items
abbrev pub kept_at : ℕ → End → Trace → Trace
kept_at n end.Done t = trace (drop n t.items) t.ending
kept_at n (end.Fault f) t = trace [] (end.Fault f)

-- the items from that position on; a fault there leaves none
abbrev pub kept_from : Option (ℕ × End) → Trace → Trace
kept_from None t = trace [] t.ending
kept_from (Some p) t = kept_at p.0 p.1 t
