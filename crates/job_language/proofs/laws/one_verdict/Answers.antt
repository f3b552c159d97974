use Rattle.job_language.proofs.OneVerdict.{one_read}
use Rattle.job_language.proofs.laws.one_verdict.Goals as goal

pub returns : goal.returns
returns c = one_read
