use Rattle.std.proofs.Common.{refl}
use Rattle.stream_tokens.specs.JobTexts.{job_texts_within, version_within}
use Rattle.report.proofs.worked.worked_versions.Goals as goal

pub returns-clause-two : goal.returns-clause-two
unfolding version_within
returns-clause-two c = refl

pub returns-clause-two_texts : goal.returns-clause-two_texts
unfolding job_texts_within
returns-clause-two_texts c = refl

pub returns-clause-one : goal.returns-clause-one
unfolding version_within
returns-clause-one c = refl

pub returns-clause-one_texts : goal.returns-clause-one_texts
unfolding job_texts_within
returns-clause-one_texts c = refl
