use Rattle.std.proofs.Common.{rules, ◌∙◌}
use Rattle.std.specs.Int.{w64}
use Rattle.std.proofs.lemmas.Fmt.{parse-signed_decimal}
use Rattle.merge_run.proofs.TakenLemmas.{number_text, small_number}
use Rattle.merge_run.proofs.taking.number_of.Goals as goal

pub returns-in-Ok-clause-complete : goal.returns-in-Ok-clause-complete
returns-in-Ok-clause-complete c = λ z fits same.
    let read = parse-signed_decimal w64 z c.in-Ok.text.now _ fits (small_number z fits) (c.in-Ok.ensures.cases.0 ∙ same)
    c.parse.ensures.value.0 in
    search rules

pub returns-in-Err-clause-complete : goal.returns-in-Err-clause-complete
returns-in-Err-clause-complete c = λ z fits same. absurd (c.in-Err.ensures.cases.0 (number_text z _ fits same))
