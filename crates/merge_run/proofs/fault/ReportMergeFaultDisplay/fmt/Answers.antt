use Rattle.std.proofs.Common.{sym}
use Rattle.merge_run.proofs.fault.ReportMergeFaultDisplay.fmt.Goals as goal

pub returns-in_ok-text_of-in-Unmergeable-clause-writes : goal.returns-in_ok-text_of-in-Unmergeable-clause-writes
returns-in_ok-text_of-in-Unmergeable-clause-writes g c =
    rw c.in-Unmergeable.is (rw (sym c.in_ok-text_of-in-Unmergeable.ensures) c.write-in-Unmergeable.ensures.writes)
