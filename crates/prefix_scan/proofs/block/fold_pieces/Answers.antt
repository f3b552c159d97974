use Rattle.std.proofs.Common.{◌≡◌, ◌+◌, List, Vec, Global, length, flat_map, refl, sym, ap, ◌∙◌, rules}
use Rattle.lambda_values.specs.declared.item.Item.{Item}
use Rattle.reduce_ops.specs.Operators.{value_of}
use Rattle.prefix_scan.specs.Scans.{fold_at}
use Rattle.prefix_scan.proofs.BlockLemmas.{pieces_counted, pieces_done, pieces_folded}
use Rattle.prefix_scan.proofs.block.fold_pieces.Goals as goal

pub loop-piece-preserved : goal.loop-piece-preserved
loop-piece-preserved c =
    let f = value_of c.args.op in
    let ps = c.args.pieces.now in
    let w = c.loop-piece.piece-index in
    let p = c.piece-item.result in
    let q = c.loop-piece.first in
    let count = c.len-count.result in
    let size : count ≡ length p.items = search rules in
    let here = c.fold_items-folded.ensures
    ∙ ap (λ (ys : List Item). fold_at f c.cut_to.result 0 c.loop-piece.folded ys) c.deref.ensures.value in (
      pieces_folded (λ (v : Vec Item Global). v.items) f c.args.range c.cut_to.result q count (q + count)
          c.loop-piece.folded c.fold_items-folded.result ps w p c.loop-piece-test.true c.piece-item.is size
          c.cut_to.ensures refl here
          ∙ c.loop-piece.invariant.0,
      pieces_counted (λ (v : Vec Item Global). v.items) q count (q + count)
          (length (flat_map (λ (v : Vec Item Global). v.items) ps)) ps w p c.loop-piece-test.true c.piece-item.is size
          refl c.loop-piece.invariant.1,
    )

pub returns : goal.returns
returns c =
    sym (pieces_done (λ (v : Vec Item Global). v.items) (value_of c.args.op) c.args.range c.loop-piece.first
    c.loop-piece.folded c.args.pieces.now c.loop-piece.piece-index c.loop-piece-test.false)
    ∙ c.loop-piece.invariant.0
