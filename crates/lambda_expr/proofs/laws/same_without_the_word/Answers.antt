use Rattle.lambda_expr.proofs.SameWords.{refused_alike, spelled_alike}
use Rattle.lambda_expr.proofs.laws.same_without_the_word.Goals as goal

pub returns : goal.returns
returns c = record { spells = spelled_alike; refused = refused_alike }
