use Rattle.job_language.proofs.OneVerdict.{name_is_name}
use Rattle.job_language.proofs.laws.a_job_has_a_name.Goals as goal

pub returns : goal.returns
returns c = name_is_name
