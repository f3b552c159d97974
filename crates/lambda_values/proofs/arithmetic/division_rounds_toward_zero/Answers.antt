use Rattle.lambda_values.proofs.DivisionLaws.{division_whole, remainder_small, remainder_above, remainder_below}
use Rattle.lambda_values.proofs.arithmetic.division_rounds_toward_zero.Goals as goal

pub returns-clause-whole : goal.returns-clause-whole
returns-clause-whole c = division_whole

pub returns-clause-small : goal.returns-clause-small
returns-clause-small c = remainder_small

pub returns-clause-above : goal.returns-clause-above
returns-clause-above c = remainder_above

pub returns-clause-below : goal.returns-clause-below
returns-clause-below c = remainder_below
