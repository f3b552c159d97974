use Rattle.engine.specs.Run.{form_for}
use Rattle.engine.proofs.OutcomeLemmas.{columns_said}
use Rattle.engine.proofs.laws.refusals_are_outcomes.Goals as goal

pub returns-clause-columns : goal.returns-clause-columns
returns-clause-columns c = λ input f says read memory. columns_said (form_for input.asked input.jobs) input.columns f
    says read memory

pub returns-clause-jobs : goal.returns-clause-jobs
returns-clause-jobs c = λ input f says memory. record
    { columns = says.columns; given = says.given; refused = says.refused memory }
