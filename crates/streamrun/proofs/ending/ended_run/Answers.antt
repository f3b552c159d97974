use Rattle.std.proofs.Common.{refl}
use Rattle.run_settings.specs.Asked.{asked_of}
use Rattle.streamrun.proofs.EndingLemmas.{answered_again, none_at_end, none_failed}
use Rattle.streamrun.proofs.ending.ended_run.Goals as goal

pub returns-in-Some : goal.returns-in-Some
returns-in-Some g c =
    let over = c.ended_over.ensures in
    rw c.in-Some.is (
      over.0,
      over.1,
      answered_again g.C.CountedRead.remaining (g.J.CountedRead.remaining c.args.jobs.now)
          (asked_of c.args.settings.now) (g.W.CountedWrite.contents c.args.writer.now)
          (g.W.CountedWrite.contents c.ended_over.new.writer) _ c.in-Some.reader over.0 refl over.2,
      over.3,
      over.4,
      over.5,
    )

pub returns-in-None : goal.returns-in-None
returns-in-None g c =
    let run = c.run-answer.ensures in (
      c.run-answer.result,
      c.status_shown.ensures,
      (run.report, run.fault),
      none_at_end g.C.CountedRead.remaining c.args.columns _ c.run-answer.result c.in-None.is,
      none_failed g.C.CountedRead.failures c.args.columns _ _ c.run-answer.result c.in-None.is run.columns_failed,
      record {
        read_up = run.read_up;
        unread = run.unread;
        unwritten = run.unwritten;
        untouched = run.untouched;
        read_failed = run.read_failed;
        write_failed = run.write_failed;
      },
    )
