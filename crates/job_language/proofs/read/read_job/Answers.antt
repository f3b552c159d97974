use Rattle.std.proofs.Common.{subst}
use Rattle.job_language.specs.Jobs.{job_of}
use Rattle.job_language.specs.Parts.{Answers}
use Rattle.job_language.specs.Scopes.{scope_of}
use Rattle.job_language.specs.Verdicts.{IsRead}
use Rattle.job_language.proofs.WholeTextLemmas.{answers_err}
use Rattle.job_language.proofs.read.read_job.Goals as goal

pub returns-clause-refused : goal.returns-clause-refused
returns-clause-refused c =
    let s = scope_of c.args.scope in
    answers_err (IsRead s c.args.text.now) c.read_cut.result
    (subst (λ text. Answers job_of (IsRead s text) c.read_cut.result) c.of.ensures.bytes c.read_cut.ensures)
