use Rattle.columns.proofs.RecordLemmas.{GaveNext-read, IsSetUp-read}
use Rattle.columns.proofs.records.next_record.Goals as goal

pub returns-in-Ok-clause-set_up : goal.returns-in-Ok-clause-set_up
returns-in-Ok-clause-set_up c =
    let read = c.in-Ok.ensures in
    let s = c.requires in
    IsSetUp-read _ _ c.in-Ok.found _ s (read.reads s.untrimmed s.ready) (read.ready s.untrimmed) read.flexible

pub returns-in-Ok-clause-gave : goal.returns-in-Ok-clause-gave
returns-in-Ok-clause-gave c rows r =
    let read = c.in-Ok.ensures in
    let s = r.set_up in
    let record_read = read.reads s.untrimmed s.ready in
    GaveNext-read _ _ c.in-Ok.found _ rows r record_read
    (IsSetUp-read _ _ c.in-Ok.found _ s record_read (read.ready s.untrimmed) read.flexible)
