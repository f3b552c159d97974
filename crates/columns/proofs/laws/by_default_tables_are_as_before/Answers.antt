use Rattle.columns.proofs.CutLemmas.{tables_are_as_before}
use Rattle.columns.proofs.laws.by_default_tables_are_as_before.Goals as goal

pub returns : goal.returns
returns c = tables_are_as_before
