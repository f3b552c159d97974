use Rattle.std.proofs.Common.{sym}
use Rattle.spliterator.proofs.SplitLemmas.{length-split_items}
use Rattle.spliterator.proofs.range_split.RangeSplitLongSpliterator.exact_size.Goals as goal

pub returns : goal.returns
returns c = sym (length-split_items c.args.self.now.start c.args.self.now.from c.args.self.now.to)
