-- Condition: the two passes of a prefix over a tree of pieces, as they are computed.
use Rattle.std.specs.Prelude.{ℕ, ℤ, ◌+◌, if◌then◌else◌, List, [], ◌++◌, length, take, drop, Option, None}
use Rattle.lambda_values.specs.declared.item.Item.{Item}
use Rattle.trace.specs.declared.item.End.{End}
use Rattle.trace.specs.declared.item.End.TheVariants as end
use Rattle.trace.specs.Trace.{Trace, trace, append}
use Rattle.prefix_scan.specs.Prefixes.{Range, ends_after, out_of_array}
use Rattle.prefix_scan.specs.Scans.{cut_to, fold_at, scan_at, joined_value}

-- pieces of a walk, side by side in a tree
pub data Pieces : Type 0 where
  piece : Trace → Pieces
  pair : Pieces → Pieces → Pieces

-- the pieces joined
abbrev pub whole : Pieces → Trace
whole (piece t) = t
whole (pair l r) = append (whole l) (whole r)

-- how many items the pieces have
abbrev pub size : Pieces → ℕ
size (piece t) = length t.items
size (pair l r) = size l + size r

-- the up pass: the fold of each piece, by its own positions, and folds side by side; a fault ends both
abbrev pub merged_value : (ℤ → ℤ → ℤ) → Option ℤ → End → Option ℤ → Option ℤ
merged_value f a end.Done b = joined_value f a b
merged_value f a (end.Fault g) b = a

abbrev pub merged_end : End → End → End
merged_end end.Done e = e
merged_end (end.Fault g) e = end.Fault g

abbrev pub ups_end : Pieces → End
ups_end (piece t) = t.ending
ups_end (pair l r) = merged_end (ups_end l) (ups_end r)

abbrev pub ups : (ℤ → ℤ → ℤ) → Range → ℕ → Pieces → Option ℤ
ups f range q (piece t) = fold_at f (cut_to range q (length t.items)) 0 None t.items
ups f range q (pair l r) = merged_value f (ups f range q l) (ups_end l) (ups f range (q + size l) r)

-- the down pass: each piece begins with the fold of what lies left of it
abbrev pub downs : (ℤ → ℤ → ℤ) → Range → ℕ → Option ℤ → Pieces → List Item
downs f range q start (piece t) = scan_at f (cut_to range q (length t.items)) 0 start t.items
downs f range q start (pair l r) = downs f range q start l
    ++ downs f range (q + size l) (joined_value f start (ups f range q l)) r

-- after the up pass: a fault, or positions that end after the last item, or the down pass
abbrev pub then_down : (ℤ → ℤ → ℤ) → Range → ℕ → Pieces → End → Trace
then_down f range stage ps end.Done = if ends_after range (size ps) then out_of_array stage
    else trace (downs f range 0 None ps) end.Done
then_down f range stage ps (end.Fault g) = trace [] (end.Fault g)

abbrev pub two_passes : (ℤ → ℤ → ℤ) → Range → ℕ → Pieces → Trace
two_passes f range stage ps = then_down f range stage ps (ups_end ps)

-- a tree whose inner nodes say how many items go left
pub data SplitTree : Type 0 where
  leaf : SplitTree
  node : ℕ → SplitTree → SplitTree → SplitTree

-- laid over a walk: the end of the walk is the last piece's
abbrev pub laid : SplitTree → Trace → Pieces
laid leaf t = piece t
laid (node n l r) t = pair (laid l (trace (take n t.items) end.Done)) (laid r (trace (drop n t.items) t.ending))
