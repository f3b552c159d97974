use Rattle.columns.proofs.CutLemmas.{cut_leaves}
use Rattle.columns.proofs.laws.named_columns_are_what_a_cut_leaves.Goals as goal

pub returns : goal.returns
returns c = cut_leaves
