use Rattle.job_meaning.proofs.LongAnswers.{each_answered, meaning_fits}
use Rattle.job_meaning.proofs.laws.answers_have_64_bits.Goals as goal

pub returns-clause-each : goal.returns-clause-each
returns-clause-each c = each_answered

pub returns-clause-fit : goal.returns-clause-fit
returns-clause-fit c = meaning_fits
