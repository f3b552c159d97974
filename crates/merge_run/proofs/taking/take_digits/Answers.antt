use Rattle.std.proofs.Common.{rules, ◌≡◌, ◌∷◌, length, ◌∙◌}
use Rattle.merge_run.proofs.TakenLemmas.{cut_at, number_ends}
use Rattle.merge_run.proofs.taking.take_digits.Goals as goal

pub returns-in_err-end-clause-complete : goal.returns-in_err-end-clause-complete
returns-in_err-end-clause-complete c = λ digits rest b all is same.
    let at = c.number_end.ensures ∙ number_ends digits rest b _ all is same in
    search rules

pub returns-clause-complete : goal.returns-clause-complete
returns-clause-complete c = λ digits rest b all is same.
    let at = c.number_end.ensures ∙ number_ends digits rest b _ all is same in
    let here : c.in_ok-end.end ≡ length digits = search rules in
    let cut = cut_at c.in_ok-end.end _ digits (b ∷ rest) here same in
    (c.split_at.ensures.front ∙ cut.0, c.split_at.ensures.back ∙ cut.1)
