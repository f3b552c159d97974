use Rattle.std.proofs.Common.{refl}
use Rattle.run_settings.specs.Asked.{asked_of}
use Rattle.streamrun.proofs.EndingLemmas.{answered_again}
use Rattle.streamrun.proofs.ending.ended_over.Goals as goal

pub returns : goal.returns
returns g c =
    let run = c.run-answer.ensures in (
      c.run-answer.result,
      c.status_shown.ensures,
      answered_again g.C.CountedRead.remaining (g.J.CountedRead.remaining c.args.jobs.now)
          (asked_of c.args.settings.now) (g.W.CountedWrite.contents c.args.writer.now)
          (g.W.CountedWrite.contents c.run-answer.new.writer) _ c.args.columns c.run-answer.result refl
          (run.report, run.fault),
      run.columns_read_up,
      run.columns_failed,
      record {
        read_up = run.read_up;
        unread = run.unread;
        unwritten = run.unwritten;
        untouched = run.untouched;
        read_failed = run.read_failed;
        write_failed = run.write_failed;
      },
    )
