use Rattle.std.proofs.Common.{◌≡◌, true, false, Some, sym, ◌∙◌}
use Rattle.run_settings.specs.Asked.{asked_of}
use Rattle.engine.specs.Run.{Input}
use Rattle.engine.proofs.RunLemmas.{some_whole, unread_by_jobs}
use Rattle.engine.proofs.running.report_named.Goals as goal

pub returns-in-Err-clause-err : goal.returns-in-Err-clause-err
returns-in-Err-clause-err g c =
    let columns = some_whole (g.C.CountedRead.remaining c.args.columns.now) in
    let jobs = some_whole (g.J.CountedRead.remaining c.args.jobs.now) in
    let input : Input = record { columns = Some columns.0; jobs = jobs.0; asked = asked_of c.args.settings.now } in
    (columns.0, columns.1, jobs.0, jobs.1, unread_by_jobs input c.in-Err.fault c.requires c.in-Err.ensures.early)

pub returns-in_default-clause-err : goal.returns-in_default-clause-err
returns-in_default-clause-err g c =
    let columns = some_whole (g.C.CountedRead.remaining c.args.columns.now) in (
      columns.0,
      columns.1,
      c.in-Ok.bytes.items,
      c.in-Ok.ensures.bytes,
      λ by_jobs_not. absurd (let e : true ≡ false = sym c.requires ∙ by_jobs_not in cc),
    )
