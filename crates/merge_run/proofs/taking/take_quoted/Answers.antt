use Rattle.std.proofs.Common.{rules, ◌≡◌, ◌∷◌, [], length, ◌∙◌}
use Rattle.merge_run.proofs.TakenLemmas.{cut_at, left_after, text_ends}
use Rattle.merge_run.proofs.taking.take_quoted.Goals as goal

pub returns-in_err-text_end : goal.returns-in_err-text_end
returns-in_err-text_end c = λ text rest all same.
    let at = c.text_end.ensures ∙ text_ends text rest _ all same in
    search rules

pub returns-in_err-after : goal.returns-in_err-after
returns-in_err-after c = λ text rest all same.
    let at = c.text_end.ensures ∙ text_ends text rest _ all same in
    let here : c.in_ok-text_end.field-0 ≡ length text = search rules in
    let cut = cut_at c.in_ok-text_end.field-0 _ text (34 ∷ rest) here same in
    let left = left_after c.after.result _ (34 ∷ []) rest c.after.ensures (c.split_at.ensures.back ∙ cut.1) in
    search rules

pub returns : goal.returns
returns c = λ text rest all same.
    let at = c.text_end.ensures ∙ text_ends text rest _ all same in
    let here : c.in_ok-text_end.field-0 ≡ length text = search rules in
    let cut = cut_at c.in_ok-text_end.field-0 _ text (34 ∷ rest) here same in
    let left = left_after c.after.result _ (34 ∷ []) rest c.after.ensures (c.split_at.ensures.back ∙ cut.1) in
    let front = c.split_at.ensures.front ∙ cut.0 in
    search rules
