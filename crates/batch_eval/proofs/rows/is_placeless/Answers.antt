use Rattle.std.proofs.Common.{ap, refl, sym, ◌∙◌}
use Rattle.lambda_values.proofs.Placeless.{placeless_long, placeless_truth}
use Rattle.lambda_values.specs.Term.{long_of, truth_of}
use Rattle.batch_eval.specs.Lanes.{flagged}
use Rattle.batch_eval.proofs.rows.is_placeless.Goals as goal

pub returns-in-Long : goal.returns-in-Long
returns-in-Long c = λ yes i j v env.
    rw c.in-Long.is (placeless_long (long_of c.in-Long.expr.now) (record { origin = i; value = v })
    (record { origin = j; value = v }) env env refl refl (sym c.is_placeless.ensures ∙ yes))

pub returns-in-Bool : goal.returns-in-Bool
returns-in-Bool c = λ yes i j v env.
    rw c.in-Bool.is (ap (λ b. flagged b)
    (placeless_truth (truth_of c.in-Bool.test.now) (record { origin = i; value = v })
    (record { origin = j; value = v }) env env refl refl (sym c.is_placeless-in-Bool.ensures ∙ yes)))
