use Rattle.std.proofs.Common.{◌≡◌, false, rules, sym, ◌∙◌}
use Rattle.columns.specs.declared.fault.ColumnFault.TheVariants as column
use Rattle.run_settings.specs.Asked.{asked_of}
use Rattle.engine.specs.Given.{counted}
use Rattle.engine.specs.Run.{reads_by_jobs}
use Rattle.engine.proofs.RunLemmas.{HasTable, IsMade, columns_refused, early_columns, made_over, made_with, no_table}
use Rattle.engine.proofs.RunLemmas.{on_ok, run_of, sent_columns, sent_ok, some_table}
use Rattle.engine.proofs.running.run.Given.{Over}
use Rattle.engine.proofs.running.run.Goals as goal
use Rattle.engine.proofs.running.run.Goals.{In-Ok}

-- ---- the job file is read first

pub returns-then-reads_by_jobs : goal.returns-then-reads_by_jobs
returns-then-reads_by_jobs g c =
    let seen = counted g.J.CountedRead.remaining g.J.CountedRead.failures in
    let held = counted g.W.CountedWrite.contents g.W.CountedWrite.failures in
    let before = held c.args.writer.now in
    let after = held c.send.new.writer in
    let report = c.report_named-report.ensures in
    let made = c.report_named-report.result in
    let answer = c.send.result in
    let sent = c.send.ensures in
    let known : IsMade g.C.CountedRead.remaining c.args.columns (asked_of c.args.settings.now) (seen c.args.jobs.now)
    (seen c.report_named-report.new.jobs) made =
    made_over _ _ _ _ _ made c.in-Some.reader c.in-Some.is (sym c.reads_by_jobs.ensures ∙ c.if-reads_by_jobs.true)
    report.ok report.err report.end report.read_failed in
    let (answered, left) = run_of before after made answer known sent in
    record {
      report = answered.0;
      fault = answered.1;
      read_up = left.read_up;
      columns_read_up = rw c.in-Some.is (sent_ok made before after answer _ sent report.columns_end);
      unread = left.unread;
      unwritten = left.unwritten;
      untouched = left.untouched;
      columns_failed = rw c.in-Some.is (sent_columns made before after answer _ sent report.columns_failed);
      read_failed = left.read_failed;
      write_failed = left.write_failed;
    }

-- ---- the column file is read first

pub returns-in-Err-clause-fault : goal.returns-in-Err-clause-fault
returns-in-Err-clause-fault g c =
    let not_by_jobs : reads_by_jobs (asked_of c.args.settings.now) ≡ false =
    sym c.reads_by_jobs.ensures ∙ c.if-reads_by_jobs.false in
    columns_refused g.C.CountedRead.remaining c.args.columns (g.J.CountedRead.remaining c.args.jobs.now)
    (asked_of c.args.settings.now) (g.W.CountedWrite.contents c.args.writer.now)
    (g.W.CountedWrite.contents c.args.writer.now) c.in-Some.reader c.read_table.result c.in-Err.fault c.in-Some.is
    not_by_jobs (rw c.new.ensures.items at c.read_table.ensures.answer) c.in-Err.is (search rules)

pub returns-in-Err-clause-columns_failed : goal.returns-in-Err-clause-columns_failed
returns-in-Err-clause-columns_failed g c is =
    let read : c.in-Err.fault ≡ column.Read = let e = is in cc in
    rw c.in-Some.is (c.in-Err.ensures.read read)

table_of_file : (g : Over) (c : In-Ok g)
    → HasTable g.C.CountedRead.remaining c.args.columns (asked_of c.args.settings.now) c.in-Ok.table
table_of_file g c =
    let not_by_jobs : reads_by_jobs (asked_of c.args.settings.now) ≡ false =
    sym c.reads_by_jobs.ensures ∙ c.if-reads_by_jobs.false in
    some_table g.C.CountedRead.remaining c.args.columns (asked_of c.args.settings.now) c.in-Ok.table c.in-Some.reader
    c.read_table.result c.in-Some.is not_by_jobs (rw c.new.ensures.items at c.read_table.ensures.answer)
    (search rules)

pub returns-in-Ok : goal.returns-in-Ok
returns-in-Ok g c =
    let seen = counted g.J.CountedRead.remaining g.J.CountedRead.failures in
    let held = counted g.W.CountedWrite.contents g.W.CountedWrite.failures in
    let before = held c.args.writer.now in
    let after = held c.send-in-Some.new.writer in
    let report = c.report_from-report.ensures in
    let made = c.report_from-report.result in
    let answer = c.send-in-Some.result in
    let sent = c.send-in-Some.ensures in
    let known : IsMade g.C.CountedRead.remaining c.args.columns (asked_of c.args.settings.now) (seen c.args.jobs.now)
    (seen c.report_from-report.new.jobs) made =
    made_with _ _ _ _ _ made c.in-Ok.table (table_of_file g (goal.at.returns-in-Ok g c).In-Ok) report.ok report.err
    report.end report.early report.read_failed in
    let (answered, left) = run_of before after made answer known sent in
    record {
      report = answered.0;
      fault = answered.1;
      read_up = left.read_up;
      columns_read_up = rw c.in-Some.is (on_ok answer _ c.in-Ok.ensures.end);
      unread = left.unread;
      unwritten = left.unwritten;
      untouched = left.untouched;
      columns_failed = sent_columns made before after answer _ sent (early_columns made _ report.early);
      read_failed = left.read_failed;
      write_failed = left.write_failed;
    }

-- ---- without a column file

pub returns-in-None : goal.returns-in-None
returns-in-None g c =
    let seen = counted g.J.CountedRead.remaining g.J.CountedRead.failures in
    let held = counted g.W.CountedWrite.contents g.W.CountedWrite.failures in
    let before = held c.args.writer.now in
    let after = held c.send-in-None.new.writer in
    let report = c.report_from-report-in-None.ensures in
    let made = c.report_from-report-in-None.result in
    let answer = c.send-in-None.result in
    let sent = c.send-in-None.ensures in
    let known : IsMade g.C.CountedRead.remaining c.args.columns (asked_of c.args.settings.now) (seen c.args.jobs.now)
    (seen c.report_from-report-in-None.new.jobs) made =
    made_with _ _ _ _ _ made c.none.result (no_table _ _ _ c.none.result c.in-None.is c.none.ensures) report.ok
    report.err report.end report.early report.read_failed in
    let (answered, left) = run_of before after made answer known sent in
    record {
      report = answered.0;
      fault = answered.1;
      read_up = left.read_up;
      columns_read_up = rw c.in-None.is (on_ok answer _ tt);
      unread = left.unread;
      unwritten = left.unwritten;
      untouched = left.untouched;
      columns_failed = sent_columns made before after answer _ sent (early_columns made _ report.early);
      read_failed = left.read_failed;
      write_failed = left.write_failed;
    }
