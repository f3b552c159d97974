use Rattle.job_language.proofs.PlacelessLemmas.{file_plain}
use Rattle.job_language.proofs.laws.by_default_nothing_changes.Goals as goal

pub returns : goal.returns
returns c = file_plain
