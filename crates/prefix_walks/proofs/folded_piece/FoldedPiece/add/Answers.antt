use Rattle.std.proofs.Common.{◌≡◌, Ok, List, true, sym, ap, subst, ◌∙◌, rules}
use Rattle.lambda_values.specs.declared.item.Item.{Item}
use Rattle.trace.specs.declared.item.End.TheVariants as end
use Rattle.trace.specs.Trace.{trace}
use Rattle.reduce_ops.specs.Parts.{StandsFor as FoldStands}
use Rattle.prefix_walks.specs.Scans.{items_in}
use Rattle.prefix_walks.proofs.folded_piece.FoldedPiece.add.Goals as goal

pub returns-clause-folded : goal.returns-clause-folded
returns-clause-folded g c =
    let xs = g.I.SourceItems.items c.args.source.now in
    let added : c.add.result ≡ Ok true = search rules in
    let old = subst (λ (ys : List Item). FoldStands c.args.self.now.fold (trace ys end.Done))
    (ap items_in c.in-Stored.is) c.requires.folded.stands in
    record {
      op = c.merge-self.ensures.op ∙ c.requires.folded.op;
      stands = subst (λ (ys : List Item). FoldStands c.merge-self.result (trace ys end.Done))
          (sym (c.add.ensures.added added))
          (c.merge-self.ensures.stands (trace c.in-Stored.stored end.Done) (trace xs end.Done)
          (c.folded.ensures.op ∙ sym c.requires.folded.op) old (c.folded.ensures.stands xs c.requires.at.values));
    }
