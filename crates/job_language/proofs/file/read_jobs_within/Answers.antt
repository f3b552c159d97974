use Rattle.std.proofs.Common.{ℕ, subst}
use Rattle.std.proofs.lemmas.Result.{err_from_is_err_and}
use Rattle.stream_tokens.specs.JobTexts.{job_texts_within, version_within}
use Rattle.job_language.specs.FileSteps.{IsNextFault, IsNextJob}
use Rattle.job_language.specs.Jobs.{jobs_of}
use Rattle.job_language.proofs.FileLemmas.{file_more, file_refused}
use Rattle.job_language.proofs.file.read_jobs_within.Goals as goal

pub returns-in_err-read_next-clause-refused : goal.returns-in_err-read_next-clause-refused
returns-in_err-read_next-clause-refused c =
    let p = err_from_is_err_and c.from_residual-in_err-read_next.result c.from_residual-in_err-read_next.ensures.1 in
    let given = rw c.in-Some.is at c.in_ok-text.ensures.gives in
    let fault = c.in_err-read_next.field-0.0 in
    rw (p.1, p.2) (λ n. file_refused (version_within c.args.newest c.args.bytes.now) c.args.columns.now
    (job_texts_within c.args.newest c.args.bytes.now) c.loop-jobs.texts given.0 (jobs_of c.loop-jobs.jobs.items)
    c.in-Some.text fault given.1
    c.loop-jobs.invariant.0 (subst (λ (v : ℕ). IsNextFault v c.args.columns.now (jobs_of c.loop-jobs.jobs.items)
    c.in-Some.text fault) c.version_within-version.ensures (c.in_err-read_next.ensures.refused n)))

pub loop-jobs-preserved-in_ok-read_next : goal.loop-jobs-preserved-in_ok-read_next
loop-jobs-preserved-in_ok-read_next c =
    let given = rw c.in-Some.is at c.in_ok-text.ensures.gives in (
      file_more (version_within c.args.newest c.args.bytes.now) c.args.columns.now
          (job_texts_within c.args.newest c.args.bytes.now) c.loop-jobs.texts c.next_text.new.self given.0
          (jobs_of c.loop-jobs.jobs.items) (jobs_of c.read_next.new.jobs.items)
          c.in-Some.text given.1 given.2 c.loop-jobs.invariant.0
          (subst (λ (v : ℕ). IsNextJob v c.args.columns.now (jobs_of c.loop-jobs.jobs.items) c.in-Some.text
          (jobs_of c.read_next.new.jobs.items)) c.version_within-version.ensures c.in_ok-read_next.ensures.ok),
      c.in_ok-read_next.ensures.names c.loop-jobs.invariant.1,
    )

pub loop-jobs-preserved : goal.loop-jobs-preserved
loop-jobs-preserved c =
    let given = rw c.in-Some.is at c.in_ok-text.ensures.gives in (
      file_more (version_within c.args.newest c.args.bytes.now) c.args.columns.now
          (job_texts_within c.args.newest c.args.bytes.now) c.loop-jobs.texts c.next_text.new.self given.0
          (jobs_of c.loop-jobs.jobs.items) (jobs_of c.read_next.new.jobs.items)
          c.in-Some.text given.1 given.2 c.loop-jobs.invariant.0
          (subst (λ (v : ℕ). IsNextJob v c.args.columns.now (jobs_of c.loop-jobs.jobs.items) c.in-Some.text
          (jobs_of c.read_next.new.jobs.items)) c.version_within-version.ensures c.in_ok-read_next.ensures.ok),
      c.in_ok-read_next.ensures.names c.loop-jobs.invariant.1,
    )

pub returns-in_err-read_next-clause-texts : goal.returns-in_err-read_next-clause-texts
returns-in_err-read_next-clause-texts c =
    let p = err_from_is_err_and c.from_residual-in_err-read_next.result c.from_residual-in_err-read_next.ensures.1 in
    let given = rw c.in-Some.is at c.in_ok-text.ensures.gives in
    rw p.1 (λ memory. c.loop-jobs.invariant.0.here (c.in-Some.text, given.0, given.1))
