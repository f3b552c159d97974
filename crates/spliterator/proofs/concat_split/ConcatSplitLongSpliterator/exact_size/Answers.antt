use Rattle.std.proofs.Common.{◌++◌, sym, ◌∙◌}
use Rattle.spliterator.specs.Parts.{plain_values, all_values}
use Rattle.spliterator.proofs.SplitLemmas.{length-placed}
use Rattle.spliterator.proofs.concat_split.ConcatSplitLongSpliterator.exact_size.Goals as goal

pub returns : goal.returns
returns c = c.args.self.now.sized ∙ sym (length-placed c.args.self.now.origin
    (plain_values c.args.self.now.head ++ all_values c.args.self.now.tail.now))
