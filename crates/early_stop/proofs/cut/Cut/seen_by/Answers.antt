use Rattle.std.proofs.Common.{arith, ◌+◌}
use Rattle.early_stop.specs.Decisive.{IsDecisive}
use Rattle.early_stop.proofs.Keeps.{sees_told}
use Rattle.early_stop.proofs.cut.Cut.seen_by.Goals as goal

pub load-requires : goal.load-requires
load-requires g c =
    let z = c.args.self.now.table.shared.key in
    let words = c.args.self.now.words in
    let few = c.requires.segment.0 in
    let told = c.requires.segment.1 in
    let picked = c.requires.picked.0 in (
      c.requires.table,
      omega arith,
      sees_told (λ i. IsDecisive (g.S.Segments.outcome z i) (g.S.Segments.source z i))
          g.A.CutActor.decides (λ i p. (c.requires.rule i p).1) (λ i p. (c.requires.rule i p).0)
          (g.S.Segments.count z + 1) g.A.CutActor.words picked _ _ g.A.CutActor.actor c.args.segment _
          c.requires.picked.1
          (omega arith),
    )
