use Rattle.std.proofs.Common.{[]}
use Rattle.trace.specs.declared.item.End.TheVariants as end
use Rattle.trace.specs.Trace.{trace}
use Rattle.reduce_ops.proofs.ExactLemmas.{ended_search}
use Rattle.reduce_ops.proofs.exact.Exact.push_values.Goals as goal

pub returns-in_default : goal.returns-in_default
returns-in_default g c =
    let xs = g.I.SourceItems.items c.args.source.now in
    record {
      stands = λ t h. c.joined.ensures.stands c.args.stage t (trace xs end.Done) h
          (c.push_all.ensures.stands (trace [] end.Done) xs c.requires.values c.none-piece.ensures.stands);
      search = ended_search c.args.self.now c.joined.result c.joined.ensures.ended c.in_default.not-Search;
    }
