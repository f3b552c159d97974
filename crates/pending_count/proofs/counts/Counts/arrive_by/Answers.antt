use Rattle.std.proofs.Common.{arith, sym, ap, ◌∙◌}
use Rattle.pending_count.proofs.StepLemmas.{arrives_allowed, in_table}
use Rattle.pending_count.proofs.counts.Counts.arrive_by.Goals as goal

pub fetch_sub-found-requires : goal.fetch_sub-found-requires
fetch_sub-found-requires g c =
    let words = ap (λ t. t.words) c.requires.table ∙ c.args.self.now.words.0 in
    let have = c.requires.have in
    let low = in_table c.args.seat.token.table_id.words c.args.self.now.nodes words c.args.seat.token.me.0
    c.args.seat.ranged c.args.node (omega arith) in
    let same = ap (λ t. t.words) c.requires.table in (
      c.requires.table,
      (omega arith),
      arrives_allowed g.K.Fits.fits g.K.Fits.tag_of g.K.Fits.place_of
          c.args.self.now.table.shared.key.nodes g.A.Acting.nodes (c.args.self.now.sized ∙ sym c.requires.picked.0) _ _
          g.A.Acting.actor c.args.node _ c.requires.picked.1 c.requires.node c.requires.have c.requires.plain,
    )
