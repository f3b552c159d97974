use Rattle.std.proofs.Common.{sym}
use Rattle.trace.proofs.Sources.{length-placed}
use Rattle.trace.proofs.source.PlacedValuesSourceItems.count.Goals as goal

pub returns : goal.returns
returns c = sym (length-placed c.args.self.now.origin c.args.self.now.values.now)
