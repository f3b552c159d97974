use Rattle.std.proofs.Common.{ℤ, refl, sym, ap, ◌∙◌, subst, rules, Ok, FitsSigned, w64}
use Rattle.std.proofs.lemmas.Int.{to_z-of_z}
use Rattle.reduce_ops.specs.declared.exact_part.ExactPart.{ExactPart}
use Rattle.reduce_ops.specs.Reaches.{AbstractReach, IsPiece, IsSumFrom, item_values, reach_in}
use Rattle.reduce_ops.proofs.ExactLemmas.{ended_else, ended_stays, fault_then, not_held, only_over, ordered, over_then}
use Rattle.reduce_ops.proofs.ExactLemmas.{sum_goes_on, sum_then, the_long}
use Rattle.reduce_ops.proofs.exact.Exact.joined.Goals as goal

pub returns-in_default : goal.returns-in_default
returns-in_default c = record {
  stands = λ stage t u h p. ended_stays stage t u c.args.self (ended_else c.args.self c.in_default.not-Sum) h;
  ended = λ yes. refl;
}

pub returns-in_default-piece : goal.returns-in_default-piece
returns-in_default-piece c = record {
  stands = λ stage t u h p.
      let sum = rw c.in-Sum.is at h in
      over_then stage t u c.in-Sum.before sum
      (only_over c.args.piece u c.in_default-piece.not-Within p c.in-Sum.before
      (the_long stage t c.in-Sum.before sum));
  ended = sum_goes_on c.args.self c.in-Sum.before c.in-Sum.is;
}

pub returns-in-None : goal.returns-in-None
returns-in-None c = record {
  stands = λ stage t u h p.
      let sum = rw c.in-Sum.is at h in
      let start : FitsSigned w64 c.in-Sum.before = search rules in
      let is = subst (λ (x : ExactPart). IsPiece x u) c.in-Within.is p in
      let never = subst (λ (r : AbstractReach). IsSumFrom c.in-Sum.before c.sum_from.result r) is.0
      (subst (λ (z : ℤ). IsSumFrom z c.sum_from.result (reach_in c.in-Within.reach))
      (to_z-of_z w64 c.in-Sum.before start) c.sum_from.ensures) in
      over_then stage t u c.in-Sum.before sum
      (not_held c.in-Sum.before u.items (the_long stage t c.in-Sum.before sum)
      ((rw c.in-None.is at never) (ordered (item_values u.items)).1));
  ended = sum_goes_on c.args.self c.in-Sum.before c.in-Sum.is;
}

pub returns-in-Done : goal.returns-in-Done
returns-in-Done c = record {
  stands = λ stage t u h p.
      let sum = rw c.in-Sum.is at h in
      let start : FitsSigned w64 c.in-Sum.before = search rules in
      let is = subst (λ (x : ExactPart). IsPiece x u) c.in-Within.is p in
      let held = subst (λ (r : AbstractReach). IsSumFrom c.in-Sum.before c.sum_from.result r) is.0
      (subst (λ (z : ℤ). IsSumFrom z c.sum_from.result (reach_in c.in-Within.reach))
      (to_z-of_z w64 c.in-Sum.before start) c.sum_from.ensures) in
      let both = rw c.in-Some.is at held in
      let fits : FitsSigned w64 c.in-Some.sum = search rules in
      sum_then stage t u c.in-Sum.before sum both.1 (sym is.1 ∙ c.in-Done.is) ∙ ap Ok (sym both.0)
      ∙ ap Ok (sym (to_z-of_z w64 c.in-Some.sum fits));
  ended = sum_goes_on c.args.self c.in-Sum.before c.in-Sum.is;
}

pub returns-in-Fault : goal.returns-in-Fault
returns-in-Fault c = record {
  stands = λ stage t u h p.
      let sum = rw c.in-Sum.is at h in
      let start : FitsSigned w64 c.in-Sum.before = search rules in
      let is = subst (λ (x : ExactPart). IsPiece x u) c.in-Within.is p in
      let held = subst (λ (r : AbstractReach). IsSumFrom c.in-Sum.before c.sum_from.result r) is.0
      (subst (λ (z : ℤ). IsSumFrom z c.sum_from.result (reach_in c.in-Within.reach))
      (to_z-of_z w64 c.in-Sum.before start) c.sum_from.ensures) in
      let both = rw c.in-Some.is at held in
      fault_then stage t u c.in-Sum.before c.in-Fault.fault sum both.1 (sym is.1 ∙ c.in-Fault.is);
  ended = sum_goes_on c.args.self c.in-Sum.before c.in-Sum.is;
}
