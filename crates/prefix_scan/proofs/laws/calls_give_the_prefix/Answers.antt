use Rattle.prefix_scan.proofs.CallLemmas.{is_prefix, scans_on, stands_at}
use Rattle.prefix_scan.proofs.ScanLemmas.{scan_cut}
use Rattle.prefix_scan.proofs.laws.calls_give_the_prefix.Goals as goal

pub returns-clause-up : goal.returns-clause-up
returns-clause-up c = stands_at

pub returns-clause-down : goal.returns-clause-down
returns-clause-down c = scan_cut

pub returns-clause-on : goal.returns-clause-on
returns-clause-on c = scans_on

pub returns-clause-prefix : goal.returns-clause-prefix
returns-clause-prefix c = is_prefix
