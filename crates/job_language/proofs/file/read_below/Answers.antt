use Rattle.std.proofs.Common.{Ok, Err}
use Rattle.job_language.specs.Jobs.{job_of}
use Rattle.job_language.proofs.FileLemmas.{ok_as, err_as, one_too_many, read_there}
use Rattle.job_language.proofs.OneVerdict.{name_is_name}
use Rattle.job_language.proofs.file.read_below.Goals as goal

pub returns-then-jobs-ge-MAX_JOBS-clause-refused : goal.returns-then-jobs-ge-MAX_JOBS-clause-refused
returns-then-jobs-ge-MAX_JOBS-clause-refused c =
    λ n. one_too_many c.args.version c.args.columns.now c.args.jobs.now c.args.text.now c.if-jobs-ge-MAX_JOBS.true

pub returns-clause-ok : goal.returns-clause-ok
returns-clause-ok c = ok_as c.read_job.result _ _
    (λ job read. read_there c.args.version c.args.columns.now c.args.jobs.now c.args.text.now (Ok (job_of job))
    c.if-jobs-ge-MAX_JOBS.false read) c.read_job.ensures.ok

pub returns-clause-refused : goal.returns-clause-refused
returns-clause-refused c = err_as c.read_job.result _ _
    (λ cause read n. read_there c.args.version c.args.columns.now c.args.jobs.now c.args.text.now (Err cause)
    c.if-jobs-ge-MAX_JOBS.false (read n)) c.read_job.ensures.refused

pub returns-clause-name : goal.returns-clause-name
returns-clause-name c = ok_as c.read_job.result _ _ (λ job read. name_is_name _ c.args.text.now (job_of job) read)
    c.read_job.ensures.ok
