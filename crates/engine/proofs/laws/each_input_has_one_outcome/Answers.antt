use Rattle.engine.proofs.OutcomeLemmas.{each_outcome, outcome_once}
use Rattle.engine.proofs.laws.each_input_has_one_outcome.Goals as goal

pub returns-clause-some : goal.returns-clause-some
returns-clause-some c = each_outcome

pub returns-clause-one : goal.returns-clause-one
returns-clause-one c = outcome_once
