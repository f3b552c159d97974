use Rattle.job_language.specs.Jobs.{jobs_of}
use Rattle.report_merge.specs.Merging.{parts_of}
use Rattle.report_merge.proofs.LoopLemmas.{when_err, when_ok}
use Rattle.report_merge.proofs.WholeLemmas.{refused_is, whole_is}
use Rattle.report_merge.proofs.merging.merge.Goals as goal

pub returns-clause-whole : goal.returns-clause-whole
returns-clause-whole c = when_ok c.merged.result _ _ c.merged.ensures.ok
    (λ answers is form newest bytes whole good cut. whole_is form newest bytes (jobs_of c.args.jobs.now)
    (parts_of c.args.parts.items) whole good cut answers.items is)

pub returns-clause-never : goal.returns-clause-never
returns-clause-never c = when_err c.merged.result _ _ c.merged.ensures.refused
    (λ fault none form newest bytes whole good cut other. refused_is form newest bytes (jobs_of c.args.jobs.now)
    (parts_of c.args.parts.items) whole good cut (none other))
