use Rattle.job_language.proofs.CallReads.{one_reading}
use Rattle.job_language.proofs.call.one_call.Goals as goal

pub returns : goal.returns
returns c = one_reading
