use Rattle.std.proofs.lemmas.Result.{err_from_is_err_and}
use Rattle.completion_core.proofs.DemandLemmas.{not_legal, wanting}
use Rattle.completion_core.proofs.stepping.step.Goals as goal

pub returns-in_err-refusal_of-clause-refused : goal.returns-in_err-refusal_of-clause-refused
returns-in_err-refusal_of-clause-refused c = let p =
    err_from_is_err_and c.from_residual.result c.from_residual.ensures.1 in rw (p.1, p.2) c.in_err-refusal_of.ensures

pub returns-in_err-refusal_of-clause-illegal : goal.returns-in_err-refusal_of-clause-illegal
returns-in_err-refusal_of-clause-illegal c =
    let p = err_from_is_err_and c.from_residual.result c.from_residual.ensures.1 in
    rw (p.1, p.2) (λ lt g given. not_legal c.in_err-refusal_of.field-0.0 c.args.action g lt
    (c.in_err-refusal_of.ensures g given))

pub returns-in_err-take-clause-refused : goal.returns-in_err-take-clause-refused
returns-in_err-take-clause-refused c =
    let p = err_from_is_err_and c.from_residual-in_err-take.result c.from_residual-in_err-take.ensures.1 in
    rw (p.1, p.2) (λ g given. let may = c.in_ok-refusal_of.ensures g given in
    wanting c.args.action g may.0 may.1 (c.in_err-take.ensures.1 g given))
