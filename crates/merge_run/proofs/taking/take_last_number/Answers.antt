use Rattle.std.proofs.Common.{rules, refl, ◌∷◌, []}
use Rattle.merge_run.proofs.TakenLemmas.{left_after}
use Rattle.merge_run.proofs.taking.take_last_number.Goals as goal

pub returns-in_err-number-clause-complete : goal.returns-in_err-number-clause-complete
returns-in_err-number-clause-complete c = λ z rest fits same.
    let taken = c.take_number.ensures.complete z rest 125 fits refl same in
    search rules

pub returns-in_err-after-clause-complete : goal.returns-in_err-after-clause-complete
returns-in_err-after-clause-complete c = λ z rest fits same.
    let taken = c.take_number.ensures.complete z rest 125 fits refl same in
    let left = left_after c.after.result _ (125 ∷ []) rest c.after.ensures (search rules) in
    search rules

pub returns-clause-complete : goal.returns-clause-complete
returns-clause-complete c = λ z rest fits same.
    let taken = c.take_number.ensures.complete z rest 125 fits refl same in
    let left = left_after c.after.result _ (125 ∷ []) rest c.after.ensures (search rules) in
    search rules
