use Rattle.std.specs.Prelude.{All}
use Rattle.stream_tokens.specs.Forms.{IsName}
use Rattle.stream_tokens.specs.JobTexts.{job_texts_within, version_within}
use Rattle.stream_tokens.proofs.TextLemmas.{count_left}
use Rattle.job_language.specs.Jobs.{jobs_of, names_of}
use Rattle.job_language.proofs.FileLemmas.{FileSoFar}
use Rattle.job_language.proofs.file.read_jobs_within.Given as goal

abbrev pub invariant-loop-jobs : goal.invariant-loop-jobs
invariant-loop-jobs l = FileSoFar (version_within l.newest l.bytes) l.columns (job_texts_within l.newest l.bytes)
    l.texts (jobs_of l.jobs.items) × All IsName (names_of (jobs_of l.jobs.items))

abbrev pub decreases-loop-jobs : goal.decreases-loop-jobs
decreases-loop-jobs l = count_left l.texts
