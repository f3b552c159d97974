use Rattle.std.proofs.Common.{None, refl, sym, ◌∙◌}
use Rattle.trace.specs.declared.item.End.TheVariants as end
use Rattle.trace.specs.Trace.{trace}
use Rattle.prefix_walks.specs.Scans.{items_of}
use Rattle.prefix_walks.proofs.ScanLemmas.{folded_whole, no_fault}
use Rattle.prefix_walks.proofs.folded_piece.FoldedPiece.fold_after.Goals as goal

pub returns-in-Ok : goal.returns-in-Ok
returns-in-Ok c =
    let xs = items_of c.args.self.now in
    let p = c.args.self.now.fold in
    c.joined.ensures ∙ folded_whole c.args.op (c.operators_are_associative.ensures c.args.op) None 0 0 c.args.start
    c.in-Ok.value p xs refl c.requires.op
    (sym c.in-Ok.is ∙ c.finish.ensures (trace xs end.Done) c.requires.stands)

pub returns-in-Err : goal.returns-in-Err
returns-in-Err c =
    let xs = items_of c.args.self.now in
    no_fault c.args.self.now.fold.op xs c.in-Err.field-0
    (sym c.in-Err.is ∙ c.finish.ensures (trace xs end.Done) c.requires.stands)
