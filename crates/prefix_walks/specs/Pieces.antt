-- Design: pieces of a walk, and positions within the first of two lists and after it.
use Rattle.std.specs.Prelude.{ℕ, ◌+◌, ◌-◌, ◌^◌, ◌≤◌, min, List, Option, Some, None, take, drop, ⊤}
use Rattle.trace.specs.declared.item.End.TheVariants as end
use Rattle.trace.specs.Trace.{Trace, trace}

-- the elements at positions from this one on; up to, not with, a second one, if there is one
abbrev pub elements : {A : Type 0} → ℕ → Option ℕ → List A → List A
elements from None xs = drop from xs
elements from (Some to) xs = take (to - from) (drop from xs)

-- the items of a walk at these positions; a piece up to a position is done, one without it ends as the walk does
abbrev pub piece_of : ℕ → Option ℕ → Trace → Trace
piece_of from None t = trace (elements from None t.items) t.ending
piece_of from (Some to) t = trace (elements from (Some to) t.items) end.Done

-- how many elements stand at these positions, of a list of this size
abbrev pub span : ℕ → Option ℕ → ℕ → ℕ
span from None size = size - from
span from (Some to) size = min to size - from

-- the end of the positions, counted after this number of elements
abbrev pub after : Option ℕ → ℕ → Option ℕ
after None size = None
after (Some to) size = Some (to - size)

-- a position that doesn't stand after the end of positions
abbrev pub IsNotAfter : ℕ → Option ℕ → Type 0
IsNotAfter middle None = ⊤
IsNotAfter middle (Some to) = middle ≤ to

-- the end of positions that are counted from this one on; no more than 2^64 - 1
abbrev pub moved : Option ℕ → ℕ → Option ℕ
moved None from = None
moved (Some to) from = Some (min (from + to) (2 ^ 64 - 1))

-- the first of two ends
abbrev pub earlier : Option ℕ → Option ℕ → Option ℕ
earlier None other = other
earlier (Some to) None = Some to
earlier (Some to) (Some other) = Some (min to other)
