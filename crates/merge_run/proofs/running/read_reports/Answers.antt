use Rattle.std.proofs.Common.{arith}
use Rattle.merge_run.proofs.ReadLemmas.{all_read, failed_at, none_read, one_read}
use Rattle.merge_run.proofs.running.read_reports.Goals as goal

pub loop-part-init : goal.loop-part-init
loop-part-init g c = none_read g.R.CountedRead.remaining c.args.parts.now c.new-reports.result.items
    c.new-reports.ensures.items

pub returns-in-Err-Failed-clause-failed : goal.returns-in-Err-Failed-clause-failed
returns-in-Err-Failed-clause-failed g c = λ jobs jobs_after writer writer_after.
    failed_at g.R.CountedRead.remaining g.R.CountedRead.failures c.args.parts.now c.loop-part.parts c.loop-part.part
    c.loop-part.reports.items c.index-parts-part.result c.read_report.new.part
    (omega (arith, c.loop-part-test.true)) c.loop-part.invariant
    (c.in-Err-Failed.ensures.failed c.in-Err-Failed.field-0-is)

pub loop-part-preserved : goal.loop-part-preserved
loop-part-preserved g c =
    one_read g.R.CountedRead.remaining c.args.parts.now c.loop-part.parts c.loop-part.part c.loop-part.reports.items
    c.push.new.self.items c.index-parts-part.result c.read_report.new.part
    c.in-Ok.report (omega (arith, c.loop-part-test.true)) c.in-Ok.ensures.rows c.in-Ok.ensures.whole
    c.in_ok-push-in-Ok.ensures.items c.loop-part.invariant

pub returns-clause-ok : goal.returns-clause-ok
returns-clause-ok g c =
    all_read g.R.CountedRead.remaining c.args.parts.now c.loop-part.parts c.loop-part.part c.loop-part.reports.items
    (omega (arith, c.loop-part-test.false)) c.loop-part.invariant
