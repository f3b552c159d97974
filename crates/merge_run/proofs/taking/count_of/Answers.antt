use Rattle.std.proofs.Common.{rules, ◌∙◌}
use Rattle.std.proofs.lemmas.Fmt.{parse-decimal}
use Rattle.merge_run.proofs.TakenLemmas.{count_text}
use Rattle.merge_run.proofs.taking.count_of.Goals as goal

pub returns-in-Ok : goal.returns-in-Ok
returns-in-Ok c = λ n small same.
    let read = parse-decimal 64 n c.in-Ok.text.now _ small small (c.in-Ok.ensures.cases.0 ∙ same)
    c.parse.ensures.value.0 in
    search rules

pub returns-in-Err : goal.returns-in-Err
returns-in-Err c = λ n small same. absurd (c.in-Err.ensures.cases.0 (count_text n _ small same))
