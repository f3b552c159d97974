use Rattle.run_settings.specs.Asked.{asked_of}
use Rattle.engine.proofs.RunLemmas.{some_whole, unread_early, unread_says}
use Rattle.engine.proofs.running.report_from.Goals as goal

pub returns-in-Err-clause-err : goal.returns-in-Err-clause-err
returns-in-Err-clause-err g c =
    let whole = some_whole (g.J.CountedRead.remaining c.args.jobs.now) in (
      whole.0,
      whole.1,
      λ file given. unread_says
          (record { columns = file; jobs = whole.0; asked = asked_of c.args.settings.now }) c.in-Err.fault
          c.in-Err.ensures.early (c.args.columns, given),
    )

pub returns-in-Err-clause-early : goal.returns-in-Err-clause-early
returns-in-Err-clause-early g c = unread_early c.in-Err.fault c.in-Err.ensures.early
