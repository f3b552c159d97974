-- Condition: folds and scans of a piece whose first item has some position.
use Rattle.std.specs.Prelude.{◌≡◌, ℕ, suc, ℤ, ◌-◌, ◌<◌, ◌≤◌, min, Bool, true, false, if◌then◌else◌, List, [], ◌∷◌}
use Rattle.std.specs.Prelude.{Option, Some, None}
use Rattle.lambda_values.specs.declared.item.Item.{Item}
use Rattle.trace.specs.Trace.{Trace, trace}
use Rattle.reduce_ops.specs.declared.partial.Partial.{Partial}
use Rattle.reduce_ops.specs.Parts.{StandsFor as FoldStands}
use Rattle.prefix_scan.specs.Prefixes.{Range, is_within, put_on, revalued}

-- the fold after an item, which is at a position of the range or not
abbrev pub fold_on : (ℤ → ℤ → ℤ) → Bool → Option ℤ → Item → Option ℤ
fold_on f true start x = Some (put_on f start x.value)
fold_on f false start x = start

-- what becomes of the item
abbrev pub item_on : (ℤ → ℤ → ℤ) → Bool → Option ℤ → Item → Item
item_on f true start x = revalued x (put_on f start x.value)
item_on f false start x = x

-- the fold of `start` and the items at positions of the range; q is the position of the first item
abbrev pub fold_at : (ℤ → ℤ → ℤ) → Range → ℕ → Option ℤ → List Item → Option ℤ
fold_at f r q start [] = start
fold_at f r q start (x ∷ xs) = fold_at f r (suc q) (fold_on f (is_within r q) start x) xs

-- each item at a position of the range becomes the fold of `start` and the items at positions of the range up to and
-- with it
abbrev pub scan_at : (ℤ → ℤ → ℤ) → Range → ℕ → Option ℤ → List Item → List Item
scan_at f r q start [] = []
scan_at f r q start (x ∷ xs) = item_on f (is_within r q) start x
    ∷ scan_at f r (suc q) (fold_on f (is_within r q) start x) xs

-- the fold of `start` and a value, if the flag says that its position is in the range
abbrev pub fold_value_on : (ℤ → ℤ → ℤ) → Bool → Option ℤ → ℤ → Option ℤ
fold_value_on f true start v = Some (put_on f start v)
fold_value_on f false start v = start

abbrev pub value_on : (ℤ → ℤ → ℤ) → Bool → Option ℤ → ℤ → ℤ
value_on f true start v = put_on f start v
value_on f false start v = v

abbrev pub fold_values_at : (ℤ → ℤ → ℤ) → Range → ℕ → Option ℤ → List ℤ → Option ℤ
fold_values_at f r q start [] = start
fold_values_at f r q start (v ∷ vs) = fold_values_at f r (suc q) (fold_value_on f (is_within r q) start v) vs

abbrev pub scan_values_at : (ℤ → ℤ → ℤ) → Range → ℕ → Option ℤ → List ℤ → List ℤ
scan_values_at f r q start [] = []
scan_values_at f r q start (v ∷ vs) = value_on f (is_within r q) start v
    ∷ scan_values_at f r (suc q) (fold_value_on f (is_within r q) start v) vs

-- among the positions before `count`, the range has the ones from `from` up to, not with, `to`
pub record AreWithin (r : Range) (count from to : ℕ) : Type 0 where
  pub ordered : from ≤ to
  pub whole : to ≤ count
  pub before : (j : ℕ) → j < from → is_within r j ≡ false
  pub inside : (j : ℕ) → from ≤ j → j < to → is_within r j ≡ true
  pub past : (j : ℕ) → to ≤ j → j < count → is_within r j ≡ false

-- a range in positions of a piece of this many items, whose first one has position q
abbrev pub cut_to : Range → ℕ → ℕ → Range
cut_to None q count = None
cut_to (Some (from, to)) q count = Some (min count (from - q), min count (to - q))

-- the fold of two folds side by side; each may be of no item
abbrev pub joined_value : (ℤ → ℤ → ℤ) → Option ℤ → Option ℤ → Option ℤ
joined_value f a None = a
joined_value f a (Some b) = Some (put_on f a b)

-- the items at positions of the range; q is the position of the first item
abbrev pub selected : Range → ℕ → List Item → List Item
selected r q [] = []
selected r q (x ∷ xs) = if is_within r q then x ∷ selected r (suc q) xs else selected r (suc q) xs

-- a block describes a walk whose first item has position q: it has the fold of the items at positions of the range, if
-- there are any, and the end
abbrev pub StandsFor : Range → ℕ → Partial → Trace → Type 0
StandsFor r q b t = FoldStands b (trace (selected r q t.items) t.ending)
