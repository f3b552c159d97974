use Rattle.engine.proofs.OutcomeLemmas.{as_before}
use Rattle.engine.proofs.laws.by_default_tables_of_integers_are_read.Goals as goal

pub returns : goal.returns
returns c = as_before
