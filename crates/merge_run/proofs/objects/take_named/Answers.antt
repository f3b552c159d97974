use Rattle.std.proofs.Common.{rules, ◌≡◌}
use Rattle.merge_run.specs.Objects.{said_then}
use Rattle.merge_run.proofs.objects.take_named.Goals as goal

pub returns-in_err-name-clause-complete : goal.returns-in_err-name-clause-complete
returns-in_err-name-clause-complete c = λ name a rest plain said held same.
    let taken = c.take_text.ensures name (said_then c.args.names.now a rest) plain same in
    search rules

pub returns-in_err-answer-clause-complete : goal.returns-in_err-answer-clause-complete
returns-in_err-answer-clause-complete c = λ name a rest plain said held same.
    let taken = c.take_text.ensures name (said_then c.args.names.now a rest) plain same in
    let left : c.in_ok-name.left.now ≡ said_then c.args.names.now a rest = search rules in
    let answer = c.take_answer.ensures.complete a rest said held left in
    search rules

pub returns-clause-complete : goal.returns-clause-complete
returns-clause-complete c = λ name a rest plain said held same.
    let taken = c.take_text.ensures name (said_then c.args.names.now a rest) plain same in
    let left : c.in_ok-name.left.now ≡ said_then c.args.names.now a rest = search rules in
    let answer = c.take_answer.ensures.complete a rest said held left in
    search rules
