use Rattle.std.proofs.Common.{rules}
use Rattle.prefix_walks.proofs.folding.fold_values.Goals as goal

pub returns-in-Sum : goal.returns-in-Sum
returns-in-Sum c = search rules
