use Rattle.engine.proofs.OutcomeLemmas.{later_report}
use Rattle.engine.proofs.laws.a_later_language_changes_no_report.Goals as goal

pub returns : goal.returns
returns c = later_report
