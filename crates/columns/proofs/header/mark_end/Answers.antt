use Rattle.std.proofs.Common.{sym}
use Rattle.columns.proofs.MarkLemmas.{no_mark, with_mark}
use Rattle.columns.proofs.header.mark_end.Goals as goal

pub returns-then-has_mark-clause-rest : goal.returns-then-has_mark-clause-rest
returns-then-has_mark-clause-rest c = with_mark c.args.bytes.now (sym c.if-has_mark.ensures.is)

pub returns-else-has_mark-clause-rest : goal.returns-else-has_mark-clause-rest
returns-else-has_mark-clause-rest c = no_mark c.args.bytes.now (sym c.if-has_mark.ensures.is)
