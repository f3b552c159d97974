-- Condition: the part of a prefix, and its walk, in pieces.
use Rattle.std.specs.Prelude.{◌≡◌, ℕ, ◌+◌, ◌<◌, ◌^◌, ℤ, List, [], ◌∷◌, length, flat_map, All, Option, None}
use Rattle.lambda_values.specs.declared.item.Item.{Item}
use Rattle.trace.specs.declared.item.End.TheVariants as end
use Rattle.trace.specs.Trace.{Trace, trace, append}
use Rattle.reduce_ops.specs.declared.op.Op.{Op}
use Rattle.reduce_ops.specs.Operators.{value_of}
use Rattle.reduce_ops.specs.Parts.{StandsFor as FoldStands}
use Rattle.prefix_scan.specs.Prefixes.{Range}
use Rattle.prefix_scan.specs.Scans.{fold_at, scan_at}
use Rattle.prefix_walks.specs.declared.folded_piece.FoldedPiece.{FoldedPiece}
use Rattle.prefix_walks.specs.declared.folded_piece.PieceStart.{PieceStart}
use Rattle.trace.specs.Stages.{stages_of}
use Rattle.batch_eval.specs.Faultless.{left_by}
use Rattle.batch_eval.specs.BatchItems.{batch_items}
use Rattle.prefix_walks.specs.declared.piece_items.PieceItems.{PieceItems}
use Rattle.prefix_walks.specs.declared.piece_items.PieceItems.TheVariants as piece

-- the items of a piece
abbrev pub items_in : PieceItems → List Item
items_in (piece.Stored xs) = xs
items_in (piece.Worked w) = left_by (stages_of w.stages.stages.now) (batch_items w.lent)

-- the part of a prefix, the stage with this number: its operator, its range, and the walk so far
pub record AbstractScan : Type 0 where
  pub op : Op
  pub range : Range
  pub stage : ℕ
  pub walk : Trace

abbrev pub scan : Op → Range → ℕ → Trace → AbstractScan
scan f r n t = record { op = f; range = r; stage = n; walk = t }

-- the part, and then another walk
abbrev pub scan_append : AbstractScan → Trace → AbstractScan
scan_append s u = scan s.op s.range s.stage (append s.walk u)

-- the items of a piece, and the items of several pieces
abbrev pub items_of : FoldedPiece → List Item
items_of p = items_in p.items

abbrev pub all_items : List FoldedPiece → List Item
all_items ps = flat_map items_of ps

-- a piece has the fold of its items by this operator
pub record IsFolded (f : Op) (p : FoldedPiece) : Type 0 where
  pub op : p.fold.op ≡ f
  pub stands : FoldStands p.fold (trace (items_in p.items) end.Done)

-- for each piece the position of its first item, and the fold of what lies left of it
abbrev pub mark : ℕ → Option ℤ → PieceStart
mark q start = record { before = q; start = start }

abbrev pub marks_of : (ℤ → ℤ → ℤ) → Range → ℕ → Option ℤ → List FoldedPiece → List PieceStart
marks_of f r q start [] = []
marks_of f r q start (p ∷ ps) = mark q start
    ∷ marks_of f r (q + length (items_of p)) (fold_at f r q start (items_of p)) ps

-- pieces that are scanned as they are walked
pub record IsMarked (f : Op) (r : Range) (ps : List FoldedPiece) (ms : List PieceStart) (size : ℕ) : Type 0 where
  pub folds : All (IsFolded f) ps
  pub marks : ms ≡ marks_of (value_of f) r 0 None ps
  pub size_is : size ≡ length (all_items ps)
  pub few : size < 2 ^ 64

-- the walk that they give
abbrev pub scanned_walk : Op → Range → List FoldedPiece → Trace
scanned_walk f r ps = trace (scan_at (value_of f) r 0 None (all_items ps)) end.Done
