use Rattle.lambda_values.proofs.Placeless.{placeless_inner, placeless_long, placeless_truth}
use Rattle.lambda_values.proofs.places.values_decide.Goals as goal

pub returns : goal.returns
returns c = record { number = placeless_long; boolean = placeless_truth; stream = placeless_inner }
