use Rattle.std.proofs.Common.{rules, ◌≡◌, Err, refl, subst, sym}
use Rattle.merge_run.specs.Run.{IsWhole}
use Rattle.run_settings.specs.SettingsParts.{newest_in}
use Rattle.merge_run.proofs.running.merged_from.Goals as goal

pub returns-in_err-reports-clause-failed : goal.returns-in_err-reports-clause-failed
returns-in_err-reports-clause-failed g c =
    let answer : c.from_residual.result ≡ Err c.in_err-reports.field-0.0 = search rules in
    rw answer (λ writer writer_after. c.in_err-reports.ensures.failed (g.J.CountedRead.failures c.args.jobs.now)
    (g.J.CountedRead.failures c.read_all_of.new.reader) writer writer_after)

pub returns-in-Ok-merged_report-clause-ok : goal.returns-in-Ok-merged_report-clause-ok
returns-in-Ok-merged_report-clause-ok g c = (
  record {
    jobs = c.deref.result.now;
    reports = c.in_ok-reports.reports.items;
    newest = newest_in c.args.asked.now.language;
    form = c.args.asked.now.form;
  },
  record {
    job_file = subst (IsWhole (g.J.CountedRead.remaining c.args.jobs.now)) (sym c.deref.ensures.value)
        c.in-Ok.ensures.bytes;
    part_files = c.in_ok-reports.ensures.ok;
    newest_read = refl;
    form_asked = refl;
  },
  c.in-Ok-merged_report.ensures.ok,
)

pub returns-clause-says : goal.returns-clause-says
returns-clause-says g c = (
  record {
    jobs = c.deref.result.now;
    reports = c.in_ok-reports.reports.items;
    newest = newest_in c.args.asked.now.language;
    form = c.args.asked.now.form;
  },
  record {
    job_file = subst (IsWhole (g.J.CountedRead.remaining c.args.jobs.now)) (sym c.deref.ensures.value)
        c.in-Ok.ensures.bytes;
    part_files = c.in_ok-reports.ensures.ok;
    newest_read = refl;
    form_asked = refl;
  },
  c.in-Err.ensures.refused,
)
