use Rattle.std.proofs.Common.{arith, sym, ap, ◌∙◌}
use Rattle.pending_count.proofs.StepLemmas.{settles_allowed}
use Rattle.pending_count.proofs.counts.Counts.settle_by.Goals as goal

pub fetch_sub-requires : goal.fetch_sub-requires
fetch_sub-requires g c =
    let words = ap (λ t. t.words) c.requires.table ∙ c.args.self.now.words.0 in
    let same = ap (λ t. t.words) c.requires.table in (
      c.requires.table,
      omega arith,
      settles_allowed g.K.Fits.fits g.K.Fits.tag_of g.K.Fits.place_of
          c.args.self.now.table.shared.key.nodes g.A.Acting.nodes (c.args.self.now.sized ∙ sym c.requires.picked.0) _ _
          g.A.Acting.actor _ c.requires.picked.1 c.requires.have,
    )
