use Rattle.std.proofs.Common.{sym, ap, ◌∙◌}
use Rattle.merge_run.proofs.NamedAnswers.{named_past, named_within}
use Rattle.merge_run.proofs.merging.name_at.Goals as goal

pub returns-in-Some : goal.returns-in-Some
returns-in-Some c =
    let jobs = c.args.jobs.now in
    let named = ap (λ job. job.name) c.in-Some.ensures.lookup.1
    ∙ named_within jobs c.args.job _ c.in-Some.ensures.lookup.0 in
    rw (sym named) c.copied.ensures

pub returns-in-None : goal.returns-in-None
returns-in-None c =
    c.from.ensures ∙ c.new.ensures.items ∙ sym (named_past c.args.jobs.now c.args.job c.in-None.ensures.lookup.0)
