use Rattle.std.proofs.Common.{◌≡◌, List, None, ap, subst, ◌∙◌}
use Rattle.std.proofs.lemmas.List.{append-nil}
use Rattle.lambda_values.specs.declared.item.Item.{Item}
use Rattle.trace.specs.declared.item.End.TheVariants as end
use Rattle.trace.specs.Trace.{Trace, trace}
use Rattle.reduce_ops.specs.Folds.{fold_items}
use Rattle.reduce_ops.specs.Operators.{value_of}
use Rattle.reduce_ops.specs.Parts.{StandsFor as FoldStands}
use Rattle.prefix_scan.specs.Scans.{fold_at, selected}
use Rattle.prefix_scan.proofs.BlockLemmas.{fold_selected}
use Rattle.prefix_scan.proofs.block.up.Goals as goal

pub returns-clause-stands : goal.returns-clause-stands
returns-clause-stands c =
    let f = value_of c.args.op in
    let xs = c.args.chunk.now.items in
    let ys = selected c.args.at 0 xs in
    let fold : c.fold_pieces.result ≡ fold_items f ys =
    c.fold_pieces.ensures ∙ ap (λ (l : List Item). fold_at f c.args.at 0 None l) c.pieces.ensures
    ∙ fold_selected f c.args.at 0 xs in
    let ended = c.end_with.ensures.stands (trace ys end.Done) (c.block_of-block.ensures.stands ys fold) in
    subst (λ (t : Trace). FoldStands c.end_with.new.self t) (λ i. trace (append-nil ys i) (c.end.ensures i)) ended
