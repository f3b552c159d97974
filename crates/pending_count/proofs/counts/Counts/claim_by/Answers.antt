use Rattle.std.proofs.Common.{rules, arith, sym, ap, ◌∙◌}
use Rattle.pending_count.proofs.StepLemmas.{claims_allowed}
use Rattle.pending_count.proofs.counts.Counts.claim_by.Goals as goal

pub fetch_add-found-requires : goal.fetch_add-found-requires
fetch_add-found-requires g c =
    let words = ap (λ t. t.words) c.requires.table ∙ c.args.self.now.words.0 in
    let same = ap (λ t. t.words) c.requires.table in (
      c.requires.table,
      omega arith,
      claims_allowed g.K.Fits.fits g.K.Fits.tag_of g.K.Fits.place_of
          c.args.self.now.table.shared.key.nodes g.A.Acting.nodes (c.args.self.now.sized ∙ sym c.requires.picked.0) _ _
          g.A.Acting.actor _ _ c.requires.picked.1 (search rules) (search rules),
    )

pub returns-then-found-self-clause-claimed : goal.returns-then-found-self-clause-claimed
returns-then-found-self-clause-claimed g c = search rules
