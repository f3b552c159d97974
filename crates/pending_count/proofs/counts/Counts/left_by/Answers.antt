use Rattle.std.proofs.Common.{rules, arith, sym, ap, ◌∙◌}
use Rattle.pending_count.proofs.StepLemmas.{looks_allowed}
use Rattle.pending_count.proofs.counts.Counts.left_by.Goals as goal

pub load-found-requires : goal.load-found-requires
load-found-requires g c =
    let words = ap (λ t. t.words) c.requires.table ∙ c.args.self.now.words.0 in
    let same = ap (λ t. t.words) c.requires.table in (
      c.requires.table,
      omega arith,
      looks_allowed g.K.Fits.fits g.K.Fits.tag_of g.K.Fits.place_of
          c.args.self.now.table.shared.key.nodes g.A.Acting.nodes (c.args.self.now.sized ∙ sym c.requires.picked.0) _ _
          g.A.Acting.actor _ c.requires.picked.1,
    )

pub returns-clause-left : goal.returns-clause-left
returns-clause-left g c = search rules
