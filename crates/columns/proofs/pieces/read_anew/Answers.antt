use Rattle.std.proofs.Common.{length}
use Rattle.columns.proofs.PieceLemmas.{HaveRows-blanks}
use Rattle.columns.proofs.pieces.read_anew.Goals as goal

pub read_text_rows-requires-clause-even : goal.read_text_rows-requires-clause-even
read_text_rows-requires-clause-even c = (0, rw c.empty.ensures (HaveRows-blanks (length c.args.columns.now)))
