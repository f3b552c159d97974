use Rattle.job_language.proofs.EachFile.{each_file}
use Rattle.job_language.proofs.laws.each_file_has_an_answer.Goals as goal

pub returns : goal.returns
returns c = each_file
