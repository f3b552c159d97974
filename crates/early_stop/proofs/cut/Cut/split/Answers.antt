use Rattle.std.proofs.Common.{arith, sym, subst, ap, ◌+◌}
use Rattle.early_stop.specs.declared.view.KnownPlaces.{KnownPlaces}
use Rattle.early_stop.specs.Decisive.{IsDecisive}
use Rattle.early_stop.specs.Cuts.{IsSplit}
use Rattle.early_stop.specs.Seats.{view_of}
use Rattle.early_stop.proofs.Keeps.{splits}
use Rattle.early_stop.proofs.cut.Cut.split.Goals as goal

pub split_seat-part-requires : goal.split_seat-part-requires
split_seat-part-requires g c =
    let z = c.args.self.now.table.shared.key in
    let words = c.args.self.now.words in (
      c.requires.table,
      omega arith,
      λ s r at. splits
          (λ i. IsDecisive (g.S.Segments.outcome z i) (g.S.Segments.source z i)) (g.S.Segments.count z + 1)
          (view_of c.args.seat) s _ r at,
    )

pub returns-clause-split : goal.returns-clause-split
returns-clause-split g c =
    let z = c.args.self.now.table.shared.key in
    let rest = ap (λ m. m.0) c.split_seat-part.ensures.2 in
    let part = ap (λ m. m.0) c.split_seat-part.ensures.4 in
    subst (λ (t : KnownPlaces × KnownPlaces). IsSplit
    (λ i. IsDecisive (g.S.Segments.outcome z i) (g.S.Segments.source z i)) (g.S.Segments.count z + 1)
    (view_of c.args.seat) t.0 t.1) (λ i. (sym rest i, sym part i))
    (splits (λ i. IsDecisive (g.S.Segments.outcome z i) (g.S.Segments.source z i)) (g.S.Segments.count z + 1)
    (view_of c.args.seat))
