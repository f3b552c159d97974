use Rattle.std.proofs.Common.{sym, ◌∙◌}
use Rattle.trace.specs.Cover.{counted}
use Rattle.trace.proofs.Sources.{length-counted, length-placed}
use Rattle.trace.proofs.source.RangeItemsSourceItems.count.Goals as goal

pub returns : goal.returns
returns c =
    let self = c.args.self.now in
    sym (length-placed self.origin (counted self.first self.count) ∙ length-counted self.first self.count)
