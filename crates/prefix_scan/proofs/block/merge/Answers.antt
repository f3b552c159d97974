use Rattle.std.proofs.Common.{◌+◌, length}
use Rattle.trace.specs.Trace.{trace}
use Rattle.prefix_scan.specs.Scans.{selected}
use Rattle.prefix_scan.proofs.BlockLemmas.{merged_stands}
use Rattle.prefix_scan.proofs.block.merge.Goals as goal

pub returns-clause-stands : goal.returns-clause-stands
returns-clause-stands c = λ range first a b s t.
    merged_stands range first c.merge.result a b
    (c.merge.ensures.stands (trace (selected range first a.items) a.ending)
    (trace (selected range (first + length a.items) b.items) b.ending) c.requires s t)
