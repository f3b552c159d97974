use Rattle.std.proofs.Common.{subst, ◌∷◌, ◌++◌, [], ap, sym, ◌∙◌}
use Rattle.job_language.specs.Verdicts.{placed}
use Rattle.job_language.specs.Shapes.{all_placed, piece_from, OpensAfter, StandIn, MayStandIn}
use Rattle.job_language.proofs.ShapeLemmas.{stand_more, calls_more, one_placed}
use Rattle.job_language.proofs.shape.add_call.Goals as goal

pub returns-in_ok-push-clause-calls : goal.returns-in_ok-push-clause-calls
returns-in_ok-push-clause-calls c = λ ws n m opens.
    ap (all_placed ws) c.in_ok-push.ensures.items
    ∙ calls_more ws c.args.calls.now.items (c.in-Some.call ∷ [])
    ∙ ap (λ v. all_placed ws c.args.calls.now.items ++ v)
    (one_placed ws n m c.in-Some.call (subst (OpensAfter n) c.in-Some.is opens))
    ∙ ap (λ v. all_placed ws c.args.calls.now.items ++ placed n (piece_from ws m v ∷ [])) (sym c.in-Some.is)

pub returns-in_ok-push-clause-stand : goal.returns-in_ok-push-clause-stand
returns-in_ok-push-clause-stand c = λ ws h k.
    subst (StandIn ws) (sym c.in_ok-push.ensures.items)
    (stand_more ws c.args.calls.now.items c.in-Some.call h (subst (MayStandIn ws) c.in-Some.is k))
