use Rattle.lambda_values.proofs.References.{same_inner, same_long, same_truth}
use Rattle.lambda_values.proofs.names.references_decide.Goals as goal

pub returns : goal.returns
returns c = record { number = same_long; boolean = same_truth; stream = same_inner }
