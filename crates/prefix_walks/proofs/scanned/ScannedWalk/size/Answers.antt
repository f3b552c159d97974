use Rattle.std.proofs.Common.{length, None, sym, ap, ◌∙◌}
use Rattle.trace.specs.Trace.{Trace}
use Rattle.reduce_ops.specs.Operators.{value_of}
use Rattle.prefix_scan.proofs.ScanLemmas.{length-scan_at}
use Rattle.prefix_walks.specs.Scans.{all_items}
use Rattle.prefix_walks.proofs.scanned.ScannedWalk.size.Goals as goal

pub returns : goal.returns
returns c =
    let walk = c.self.inside in
    c.self.invariant.size_is ∙ sym (length-scan_at (value_of walk.prefix.op) walk.prefix.range 0 None
    (all_items walk.pieces.items)) ∙ ap (λ (t : Trace). length t.items) c.self.view_is
