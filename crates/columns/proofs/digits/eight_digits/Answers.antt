use Rattle.columns.proofs.DigitLemmas.{worth_is}
use Rattle.columns.proofs.digits.eight_digits.Goals as goal

pub returns : goal.returns
returns c = record { value = λ digits long below is. worth_is c.args.word digits long below is }
