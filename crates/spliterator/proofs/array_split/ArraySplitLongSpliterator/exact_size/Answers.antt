use Rattle.std.proofs.Common.{sym}
use Rattle.spliterator.proofs.SplitLemmas.{length-placed}
use Rattle.spliterator.proofs.array_split.ArraySplitLongSpliterator.exact_size.Goals as goal

pub returns : goal.returns
returns c = sym (length-placed c.args.self.now.origin c.args.self.now.values.now)
