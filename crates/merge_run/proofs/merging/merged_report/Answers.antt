use Rattle.std.proofs.Common.{◌≡◌, ℕ, List, ap, subst, ◌∙◌}
use Rattle.tables.specs.Table.{NamedColumn}
use Rattle.job_language.specs.declared.job.Job.{Job}
use Rattle.job_language.specs.Files.{SpellsJobsWithin}
use Rattle.job_language.specs.Jobs.{jobs_of}
use Rattle.run_settings.specs.SettingsParts.{newest_in}
use Rattle.report_merge.proofs.LoopLemmas.{when_ok}
use Rattle.merge_run.specs.Merged.{IsMergeOf, columns_named}
use Rattle.merge_run.proofs.merging.merged_report.Goals as goal

pub returns-clause-ok : goal.returns-clause-ok
returns-clause-ok c =
    let newest = newest_in c.args.language in
    let bytes = c.args.jobs.now in
    let jobs = jobs_of c.in-Ok.jobs.items in
    let named : c.in_ok-columns.columns ≡ columns_named newest bytes =
    c.in_ok-columns.ensures ∙ ap (λ (n : ℕ). columns_named n bytes) c.newest.ensures in
    when_ok c.merged_of.result _ _ c.merged_of.ensures.ok (λ report is. record {
      jobs = jobs;
      spelled = subst (λ (n : ℕ). SpellsJobsWithin n bytes (columns_named newest bytes) jobs) c.newest-2.ensures
          (subst (λ (columns : List NamedColumn). SpellsJobsWithin c.newest-2.result bytes columns jobs) named
          c.in-Ok.ensures.ok);
      merge = subst (λ (js : List Job). IsMergeOf newest (jobs_of js) c.args.parts.items c.args.form report.items)
          c.deref.ensures.value (is newest);
    })
