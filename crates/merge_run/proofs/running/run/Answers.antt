use Rattle.std.proofs.Common.{rules, ◌≡◌, Err}
use Rattle.merge_run.proofs.running.run.Goals as goal

pub returns-in_err-report-clause-failed : goal.returns-in_err-report-clause-failed
returns-in_err-report-clause-failed g c =
    let answer : c.from_residual.result ≡ Err c.in_err-report.field-0.0 = search rules in
    rw answer (c.in_err-report.ensures.failed (g.W.CountedWrite.failures c.args.writer.now)
    (g.W.CountedWrite.failures c.args.writer.now))
