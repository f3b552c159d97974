use Rattle.job_language.proofs.EachVerdict.{each_read}
use Rattle.job_language.proofs.laws.each_text_has_a_verdict.Goals as goal

pub returns : goal.returns
returns c = each_read
