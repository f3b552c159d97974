use Rattle.std.proofs.Common.{sym, ◌∙◌}
use Rattle.lambda_values.specs.Term.{long_of}
use Rattle.lambda_values.proofs.Quotients.{divisor_stays}
use Rattle.batch_eval.proofs.FaultlessLemmas.{binary_there, divided_there, divisor_value}
use Rattle.batch_eval.proofs.faultless.cost_of.Goals as goal

pub returns-in-Never : goal.returns-in-Never
returns-in-Never c = λ x env v w is. binary_there c.args.operator (sym c.faults.ensures ∙ c.in-Never.is) v w

pub returns-in-Some : goal.returns-in-Some
returns-in-Some c = λ x env v w is.
    let number = rw c.in-Some.is at c.constant_in.ensures in
    let some = divisor_stays c.in-Some.number c.if-number-ne0.true in
    divided_there c.args.operator (sym c.faults.ensures ∙ c.in-ByZero.is) v w
    (divisor_value (long_of c.args.right.now) x env c.in-Some.number w some (number x env) is)
