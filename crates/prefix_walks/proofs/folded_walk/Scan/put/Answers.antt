use Rattle.std.proofs.Common.{ap, ◌∙◌}
use Rattle.reduce_ops.specs.Operators.{value_of}
use Rattle.prefix_scan.specs.Scans.{scan_at}
use Rattle.prefix_walks.specs.Scans.{items_of}
use Rattle.prefix_walks.proofs.ScanLemmas.{scanned_cut}
use Rattle.prefix_walks.proofs.folded_walk.Scan.put.Goals as goal

pub returns : goal.returns
returns c =
    let op = c.args.self.prefix.op in
    let at = c.cut_to-at.result in
    c.scan.ensures.items ∙ ap (scan_at (value_of op) at 0 c.args.self.start) c.put.ensures
    ∙ scanned_cut op c.args.self.prefix.range at c.args.self.position c.count.result c.args.self.start
    (items_of c.args.piece.now) c.cut_to-at.ensures c.count.ensures
