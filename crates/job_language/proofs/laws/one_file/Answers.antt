use Rattle.std.proofs.Common.{Ok, Err}
use Rattle.stream_tokens.specs.JobTexts.{job_texts_within, version_within}
use Rattle.job_language.proofs.OneFile.{left_once}
use Rattle.job_language.proofs.laws.one_file.Goals as goal

pub returns-clause-jobs : goal.returns-clause-jobs
returns-clause-jobs c = λ newest bytes columns j k h l. let e =
    left_once (version_within newest bytes) columns (job_texts_within newest bytes) (Ok j) (Ok k) h l in cc

pub returns-clause-fault : goal.returns-clause-fault
returns-clause-fault c = λ newest bytes columns f g h k. let e =
    left_once (version_within newest bytes) columns (job_texts_within newest bytes) (Err f) (Err g) h k in cc

pub returns-clause-apart : goal.returns-clause-apart
returns-clause-apart c = λ newest bytes columns j f h k. let e =
    left_once (version_within newest bytes) columns (job_texts_within newest bytes) (Ok j) (Err f) h k in cc
