use Rattle.std.proofs.Common.{rules}
use Rattle.merge_run.proofs.TakenLemmas.{left_after}
use Rattle.merge_run.proofs.taking.take_text.Goals as goal

pub returns-in_err-after : goal.returns-in_err-after
returns-in_err-after c = λ text rest plain same.
    let left = left_after c.after.result _ _ _ c.after.ensures same in
    search rules

pub returns : goal.returns
returns c = λ text rest plain same.
    let left = left_after c.after.result _ _ _ c.after.ensures same in
    c.take_quoted.ensures text rest plain (search rules)
