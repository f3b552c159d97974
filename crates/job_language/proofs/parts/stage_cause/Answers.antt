use Rattle.std.proofs.Common.{rules}
use Rattle.job_language.proofs.parts.stage_cause.Goals as goal

pub returns-in_default : goal.returns-in_default
returns-in_default c = search rules
