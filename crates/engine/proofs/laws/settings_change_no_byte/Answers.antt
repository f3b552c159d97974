use Rattle.engine.proofs.OutcomeLemmas.{cut_once, report_once, written_once}
use Rattle.engine.proofs.laws.settings_change_no_byte.Goals as goal

pub returns-clause-reports : goal.returns-clause-reports
returns-clause-reports c = report_once

pub returns-clause-written : goal.returns-clause-written
returns-clause-written c = written_once

pub returns-clause-cut : goal.returns-clause-cut
returns-clause-cut c = cut_once
