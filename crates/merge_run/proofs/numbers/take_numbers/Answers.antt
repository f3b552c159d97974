use Rattle.std.proofs.Common.{rules, ◌≡◌, ◌∷◌, ◌++◌, [], ℤ, List, Some, None, ap, is_ok, subst, sym, ◌∙◌}
use Rattle.std.specs.Int.{w64}
use Rattle.std.proofs.lemmas.Int.{to_z-of_z}
use mir.Val.{of_z, to_z}
use Rattle.std.proofs.ResultArms.{chosen}
use Rattle.job_meaning.specs.Longs.{AllFit}
use Rattle.merge_run.proofs.NumbersLemmas.{AreOthersLeft, all_taken, first_taken, fit_more, next_taken, no_numbers}
use Rattle.merge_run.proofs.NumbersLemmas.{signed_fits}
use Rattle.merge_run.proofs.numbers.take_numbers.Goals as goal

pub returns-in-Some-clause-complete : goal.returns-in-Some-clause-complete
returns-in-Some-clause-complete c = λ values rest fit same.
    let none = no_numbers values rest c.in-Some.rest.now c.args.bytes.now fit c.in-Some.ensures same in
    (c.new-numbers.ensures.items ∙ none.0, none.1)

pub returns-in_default-take_number-clause-complete : goal.returns-in_default-take_number-clause-complete
returns-in_default-take_number-clause-complete c = λ values rest fit same.
    first_taken values rest c.args.bytes.now None c.in_default-take_number.ensures.complete c.in_default.ensures fit
    same

pub loop-more-init : goal.loop-more-init
loop-more-init c =
    let first = c.in-Some-take_number.first in
    let left = c.in-Some-take_number.left in
    let items : c.push.new.self.items ≡ first ∷ [] =
    chosen _ _ _ _ c.push.ensures.items (ap is_ok c.in_ok-push.was)
    ∙ ap (λ (xs : List ℤ). xs ++ to_z w64 (of_z w64 first) ∷ []) c.new-numbers.ensures.items
    ∙ ap (λ (z : ℤ). z ∷ []) (to_z-of_z w64 first (signed_fits first c.in-Some-take_number.ensures.small)) in (
      λ values rest fit same. subst (λ (xs : List ℤ). AreOthersLeft values rest xs left.now) (sym items)
          (first_taken values rest c.args.bytes.now (Some (first, left)) c.in-Some-take_number.ensures.complete
          c.in_default.ensures fit same),
      subst AllFit (sym items) (c.in-Some-take_number.ensures.small, tt),
    )

pub returns-in_default-take_number-2-clause-complete : goal.returns-in_default-take_number-2-clause-complete
returns-in_default-take_number-2-clause-complete c = λ values rest fit same.
    let taken = c.loop-more.numbers.items in
    next_taken values rest taken c.in-Some-after.more.now None c.in_default-take_number-2.ensures.complete
    (subst (AreOthersLeft values rest taken) c.in-Some-after.ensures (c.loop-more.invariant.0 values rest fit same))

pub loop-more-preserved : goal.loop-more-preserved
loop-more-preserved c =
    let taken = c.loop-more.numbers.items in
    let number = c.in-Some-take_number-2.number in
    let left = c.in-Some-take_number-2.rest in
    let items : c.push-in-Some-after.new.self.items ≡ taken ++ number ∷ [] =
    chosen _ _ _ _ c.push-in-Some-after.ensures.items (ap is_ok c.in_ok-push-2.was)
    ∙ ap (λ (z : ℤ). taken ++ z ∷ []) (to_z-of_z w64 number
    (signed_fits number c.in-Some-take_number-2.ensures.small)) in (
      λ values rest fit same. subst (λ (xs : List ℤ). AreOthersLeft values rest xs left.now) (sym items)
          (next_taken values rest taken c.in-Some-after.more.now (Some (number, left))
          c.in-Some-take_number-2.ensures.complete
          (subst (AreOthersLeft values rest taken) c.in-Some-after.ensures
          (c.loop-more.invariant.0 values rest fit same))),
      subst AllFit (sym items) (fit_more taken number c.loop-more.invariant.1 c.in-Some-take_number-2.ensures.small),
    )

pub returns-clause-complete : goal.returns-clause-complete
returns-clause-complete c = λ values rest fit same.
    let all = all_taken values rest c.loop-more.numbers.items c.loop-more.left.now c.in_default-after.ensures
    (c.loop-more.invariant.0 values rest fit same) in
    let found = c.ended.ensures.complete rest all.1 in
    let numbers = all.0 in
    search rules
