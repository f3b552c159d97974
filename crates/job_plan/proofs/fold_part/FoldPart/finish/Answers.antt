use Rattle.std.proofs.Common.{sym, ap, ◌∙◌, rules, FitsSigned, w64}
use Rattle.std.proofs.lemmas.Int.{to_z-of_z}
use Rattle.reduce_ops.specs.Folds.{fold_from, fold_items, reduced, reduced_from}
use Rattle.reduce_ops.specs.Operators.{value_of}
use Rattle.prefix_walks.specs.Batches.{counted_as}
use Rattle.job_routes.specs.Legs.{folded}
use Rattle.job_meaning.specs.Walks.{unless_fault}
use Rattle.job_meaning.specs.declared.answer.Answer.TheVariants as answer
use Rattle.job_plan.proofs.PartLemmas.{as_counted, number_of, number_fault, optional_of, optional_fault}
use Rattle.job_plan.proofs.fold_part.FoldPart.finish.Goals as goal

pub returns-in-Ok : goal.returns-in-Ok
returns-in-Ok c f a counts t s =
    let xs = counted_as counts t.items in
    let fits : FitsSigned w64 c.in-Ok.number = search rules in
    let start_fits : FitsSigned w64 c.in-Some.start = search rules in
    let given = sym (c.in-Ok.is) ∙ c.finish_from.ensures (as_counted counts t) s.stands
    ∙ (λ i. reduced_from (value_of (s.op i)) (to_z-of_z w64 c.in-Some.start start_fits i) (as_counted counts t)) in
    ap answer.Number (to_z-of_z w64 c.in-Ok.number fits)
    ∙ number_of t.ending (fold_from (value_of f) c.in-Some.start xs) c.in-Ok.number given
    ∙ ap (λ o. unless_fault t.ending (folded f o xs)) (sym c.in-Some.is ∙ s.start)

pub returns-in-Err : goal.returns-in-Err
returns-in-Err c f a counts t s =
    let xs = counted_as counts t.items in
    let start_fits : FitsSigned w64 c.in-Some.start = search rules in
    let given = sym (c.in-Err.is) ∙ c.finish_from.ensures (as_counted counts t) s.stands
    ∙ (λ i. reduced_from (value_of (s.op i)) (to_z-of_z w64 c.in-Some.start start_fits i) (as_counted counts t)) in
    number_fault t.ending (fold_from (value_of f) c.in-Some.start xs) c.in-Err.fault (folded f a xs) given

pub returns-in-Ok-finish : goal.returns-in-Ok-finish
returns-in-Ok-finish c f a counts t s =
    let xs = counted_as counts t.items in
    let given = sym (c.in-Ok-finish.is) ∙ c.finish.ensures (as_counted counts t) s.stands
    ∙ (λ i. reduced (value_of (s.op i)) (as_counted counts t)) in
    optional_of t.ending (fold_items (value_of f) xs) c.in-Ok-finish.value given
    ∙ ap (λ o. unless_fault t.ending (folded f o xs)) (sym c.in-None.is ∙ s.start)

pub returns-in-Err-finish : goal.returns-in-Err-finish
returns-in-Err-finish c f a counts t s =
    let xs = counted_as counts t.items in
    let given = sym (c.in-Err-finish.is) ∙ c.finish.ensures (as_counted counts t) s.stands
    ∙ (λ i. reduced (value_of (s.op i)) (as_counted counts t)) in
    optional_fault t.ending (fold_items (value_of f) xs) c.in-Err-finish.fault (folded f a xs) given
