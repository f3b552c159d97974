use Rattle.std.proofs.Common.{◌∙◌}
use Rattle.columns.proofs.by_records.columns_by_records.Goals as goal

pub returns-clause-answer : goal.returns-clause-answer
returns-clause-answer g c =
    let (gone, consumed, grown) = c.in_ok-read_on.ensures.bytes in
    (gone, consumed, rw (c.deref.ensures.value ∙ grown) at c.columns_in.ensures.tells)
