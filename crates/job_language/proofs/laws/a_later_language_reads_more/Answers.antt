use Rattle.job_language.proofs.LaterVersions.{reads_more}
use Rattle.job_language.proofs.laws.a_later_language_reads_more.Goals as goal

pub returns : goal.returns
returns c = reads_more
