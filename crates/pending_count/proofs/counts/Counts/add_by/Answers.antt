use Rattle.std.proofs.Common.{rules, arith, sym, ap, ◌∙◌}
use Rattle.pending_count.proofs.StepLemmas.{adds_allowed, in_table}
use Rattle.pending_count.proofs.counts.Counts.add_by.Goals as goal

pub fetch_add-requires : goal.fetch_add-requires
fetch_add-requires g c =
    let words = ap (λ t. t.words) c.requires.table ∙ c.args.self.now.words.0 in
    let same = ap (λ t. t.words) c.requires.table in
    let have = c.requires.have in
    let low = in_table c.args.seat.token.table_id.words c.args.self.now.nodes words c.args.seat.token.me.0
    c.args.seat.ranged c.args.node (omega arith) in (
      c.requires.table,
      omega arith,
      adds_allowed g.K.Fits.fits g.K.Fits.tag_of g.K.Fits.place_of
          c.args.self.now.table.shared.key.nodes g.A.Acting.nodes (c.args.self.now.sized ∙ sym c.requires.picked.0) _ _
          g.A.Acting.actor c.args.node c.args.d _ c.requires.picked.1 c.requires.node c.requires.have (search rules)
          c.requires.plain,
    )

pub invariant_of-result-2 : goal.invariant_of-result-2
invariant_of-result-2 g c = search rules
