-- Condition: what the spliterators have left.
use Rattle.std.specs.Prelude.{ℤ, ◌+ℤ◌, pos, ◌-◌, ◌/◌, List, [], ◌∷◌, ◌++◌, length, take}
use Rattle.lambda_values.specs.declared.item.Item.{Item}
use Rattle.trace.specs.Cover.{counted, placed}
use Rattle.spliterator.specs.declared.plain_split.PlainSplit.{PlainSplit}
use Rattle.spliterator.specs.declared.plain_split.PlainSplit.TheVariants.{Range, Array}
use Rattle.spliterator.specs.Splits.{split_items}

-- the values that are left of a source that isn't a concatenation
abbrev pub plain_values : PlainSplit → List ℤ
plain_values (Range r) = counted (r.start +ℤ pos r.from) (r.to - r.from)
plain_values (Array a) = a.values.now

-- its items
abbrev pub plain_items : PlainSplit → List Item
plain_items (Range r) = split_items r.start r.from r.to
plain_items (Array a) = placed a.origin a.values.now

-- the values of all parts, one after the other
abbrev pub all_values : List PlainSplit → List ℤ
all_values [] = []
all_values (p ∷ ps) = plain_values p ++ all_values ps

-- helper: of values that may be followed by others, those that a split hands out; without values, this other front
abbrev pub front_before : List ℤ → List ℤ → List ℤ → List ℤ
front_before [] others later = others
front_before (v ∷ vs) others [] = take (length (v ∷ vs) / 2) (v ∷ vs)
front_before (v ∷ vs) others (w ∷ ws) = v ∷ vs

-- the values that a split of these parts hands out: the first part with values, whole, if a later part has some too;
-- otherwise the first half of it
abbrev pub front_of : List PlainSplit → List ℤ
front_of [] = []
front_of (p ∷ ps) = front_before (plain_values p) (front_of ps) (all_values ps)
