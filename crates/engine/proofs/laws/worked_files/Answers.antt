use Rattle.engine.proofs.WorkedFiles.{refusal_in_version_one, report_in_version_two}
use Rattle.engine.proofs.laws.worked_files.Goals as goal

pub returns-clause-two : goal.returns-clause-two
returns-clause-two c = report_in_version_two

pub returns-clause-one : goal.returns-clause-one
returns-clause-one c = refusal_in_version_one
