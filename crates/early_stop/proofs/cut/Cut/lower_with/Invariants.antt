use Rattle.std.proofs.Common.{◌+◌}
use Rattle.early_stop.specs.Decisive.{IsDecisive}
use Rattle.early_stop.proofs.cut.Cut.lower_with.Given as goal

abbrev pub ghosts-lower_by : goal.ghosts-lower_by
ghosts-lower_by g a = record {
  decides = λ i. IsDecisive (g.S.Segments.outcome a.self.now.table.shared.key i)
      (g.S.Segments.source a.self.now.table.shared.key i);
  words = g.S.Segments.count a.self.now.table.shared.key + 1;
  actor = a.seat.now.token.id;
}
