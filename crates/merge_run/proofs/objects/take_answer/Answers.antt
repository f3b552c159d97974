use Rattle.std.proofs.Common.{rules, ◌≡◌, ◌∷◌, [], ap, sym, ◌∙◌}
use Rattle.std.specs.Prelude.{slice_index_or}
use Rattle.job_meaning.specs.declared.answer.Answer.TheVariants as answer
use Rattle.merge_run.proofs.ObjectLemmas.{unusable_said}
use Rattle.merge_run.proofs.TakenLemmas.{left_after}
use Rattle.merge_run.proofs.UniqueReports.{same_first}
use Rattle.merge_run.proofs.objects.take_answer.Goals as goal

pub returns-in_err-name-clause-complete : goal.returns-in_err-name-clause-complete
returns-in_err-name-clause-complete c = λ a rest said held same.
    let found = unusable_said c.args.names.now a rest c.args.bytes.now said held c.in_default.ensures
    c.in_default-after.ensures c.in_default-after-2.ensures same in
    let taken = c.take_text.ensures (slice_index_or c.args.names.now found.0 []) (125 ∷ rest)
    (c.requires found.0 [] found.2) found.4 in
    search rules

pub returns-in_err-rest-clause-complete : goal.returns-in_err-rest-clause-complete
returns-in_err-rest-clause-complete c = λ a rest said held same.
    let found = unusable_said c.args.names.now a rest c.args.bytes.now said held c.in_default.ensures
    c.in_default-after.ensures c.in_default-after-2.ensures same in
    let taken = c.take_text.ensures (slice_index_or c.args.names.now found.0 []) (125 ∷ rest)
    (c.requires found.0 [] found.2) found.4 in
    let at_end : c.in_ok-name.left.now ≡ 125 ∷ rest = search rules in
    let left = left_after c.after-4.result _ (125 ∷ []) rest c.after-4.ensures at_end in
    search rules

pub returns-in_err-place_of-clause-complete : goal.returns-in_err-place_of-clause-complete
returns-in_err-place_of-clause-complete c = λ a rest said held same.
    let found = unusable_said c.args.names.now a rest c.args.bytes.now said held c.in_default.ensures
    c.in_default-after.ensures c.in_default-after-2.ensures same in
    let taken = c.take_text.ensures (slice_index_or c.args.names.now found.0 []) (125 ∷ rest)
    (c.requires found.0 [] found.2) found.4 in
    let named : c.in_ok-name.name.now ≡ slice_index_or c.args.names.now found.0 [] = search rules in
    absurd (c.in_err-place_of.ensures.none found.0 found.2 (sym named))

pub returns-clause-complete : goal.returns-clause-complete
returns-clause-complete c = λ a rest said held same.
    let found = unusable_said c.args.names.now a rest c.args.bytes.now said held c.in_default.ensures
    c.in_default-after.ensures c.in_default-after-2.ensures same in
    let taken = c.take_text.ensures (slice_index_or c.args.names.now found.0 []) (125 ∷ rest)
    (c.requires found.0 [] found.2) found.4 in
    let at_end : c.in_ok-name.left.now ≡ 125 ∷ rest = search rules in
    let named : c.in_ok-name.name.now ≡ slice_index_or c.args.names.now found.0 [] = search rules in
    let left = left_after c.after-4.result _ (125 ∷ []) rest c.after-4.ensures at_end in
    let after_end : c.in_ok-rest.rest.now ≡ rest = search rules in
    let place = same_first c.args.names.now c.in_ok-place_of.field-0 found.0 c.in_ok-place_of.ensures.first found.3
    (c.in_ok-place_of.ensures.same ∙ named) in
    (ap answer.Unusable place ∙ sym found.1, after_end)
