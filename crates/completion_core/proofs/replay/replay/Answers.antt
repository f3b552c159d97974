use Rattle.std.proofs.Common.{subst, inl, inr}
use Rattle.std.proofs.lemmas.Result.{err_from_is_err_and}
use Rattle.completion_core.specs.declared.action.Action.{Action}
use Rattle.completion_core.specs.declared.action.Illegal.TheVariants.{NoMemory}
use Rattle.completion_core.specs.Refusals.{Meets}
use Rattle.completion_core.proofs.DemandLemmas.{wanting, arm_wants, run_lacks}
use Rattle.completion_core.proofs.replay.replay.Goals as goal

pub returns-in_err-refusal_of-clause-refused : goal.returns-in_err-refusal_of-clause-refused
returns-in_err-refusal_of-clause-refused c = let p =
    err_from_is_err_and c.from_residual.result c.from_residual.ensures.1 in
    rw (p.1, p.2) (λ g given. inl (c.in_err-refusal_of.ensures g given))

pub returns-in_err-clone-clause-refused : goal.returns-in_err-clone-clause-refused
returns-in_err-clone-clause-refused c =
    let p = err_from_is_err_and c.from_residual-in_err-clone.result c.from_residual-in_err-clone.ensures.1 in
    rw (p.1, p.2) (λ g given. let may = c.in_ok-refusal_of.ensures g given in
    inl (wanting c.args.action.now g may.0 may.1 (arm_wants c.args.action.now g c.in_err-clone.ensures.arm)))

pub returns-in_err-take-clause-refused : goal.returns-in_err-take-clause-refused
returns-in_err-take-clause-refused c =
    let p = err_from_is_err_and c.from_residual-in_err-take.result c.from_residual-in_err-take.ensures.1 in
    rw (p.1, p.2) (λ g given. let may = c.in_ok-refusal_of.ensures g given in
    inl (wanting c.args.action.now g may.0 may.1
    (subst (λ (a : Action). Meets NoMemory a g → ⊥) c.in_ok-clone.ensures.same (c.in_err-take.ensures.1 g given))))

pub returns-in_err-push-clause-refused : goal.returns-in_err-push-clause-refused
returns-in_err-push-clause-refused c =
    let p = err_from_is_err_and c.from_residual-in_err-push.result c.from_residual-in_err-push.ensures.1 in
    rw (p.1, p.2) (λ g given. let may = c.in_ok-refusal_of.ensures g given in
    inr (run_lacks c.args.action.now g _ _ c.in-Run.is may.0 may.1))
