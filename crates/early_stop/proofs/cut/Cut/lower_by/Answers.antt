use Rattle.std.proofs.Common.{arith, ◌+◌}
use Rattle.early_stop.specs.Decisive.{IsDecisive}
use Rattle.early_stop.proofs.Keeps.{lowers_told}
use Rattle.early_stop.proofs.cut.Cut.lower_by.Goals as goal

pub fetch_min-requires : goal.fetch_min-requires
fetch_min-requires g c =
    let z = c.args.self.now.table.shared.key in
    let words = c.args.self.now.words in
    let few = c.requires.segment.0 in
    let told = c.requires.segment.1 in
    let picked = c.requires.picked.0 in (
      c.requires.table,
      omega arith,
      lowers_told (λ i. IsDecisive (g.S.Segments.outcome z i) (g.S.Segments.source z i))
          g.A.CutActor.decides (λ i p. (c.requires.rule i p).1) (λ i p. (c.requires.rule i p).0)
          (g.S.Segments.count z + 1) g.A.CutActor.words picked _ _ g.A.CutActor.actor c.args.segment c.args.place _
          c.requires.picked.1 (omega arith) c.requires.decisive,
    )
