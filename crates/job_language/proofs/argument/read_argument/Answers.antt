use Rattle.std.proofs.Common.{◌≡◌, ◌+◌, ◌-◌, ◌<◌, Ok, length, drop, refl, sym, ap, subst, ◌∙◌, rules, arith}
use Rattle.lambda_expr.specs.CodeWords.{words_in}
use Rattle.job_language.specs.Rows.{nothing}
use Rattle.job_language.specs.Scopes.{scope_of}
use Rattle.job_language.specs.Shapes.{placed_in}
use Rattle.job_language.specs.Table.{param_of}
use Rattle.job_language.specs.Arguments.{argument_text, IsReadBy}
use Rattle.job_language.specs.Parts.{argument_in, Answers}
use Rattle.job_language.proofs.LastParts.{last_some, none_last}
use Rattle.job_language.proofs.argument.read_argument.Goals as goal

pub returns-then-count-eq0 : goal.returns-then-count-eq0
returns-then-count-eq0 c =
    let ws = words_in c.args.text.now in
    let call = c.args.call.now in
    let k = placed_in ws call in
    let none : length c.as_slice-count.result.now ≡ 0 = search rules in
    let param = none_last call.operation (drop (call.opened + 1) ws) call.ends.items
    (ap length (sym c.as_slice-count.ensures.value) ∙ none) in
    subst (λ p. IsReadBy p (scope_of c.args.scope) k.call.parts (argument_text c.args.text.now k).bytes (Ok nothing))
    (sym param) refl

pub read_by-requires-clause-parts : goal.read_by-requires-clause-parts
read_by-requires-clause-parts c =
    let same : length c.as_slice-count.result.now ≡ length c.args.call.now.ends.items =
    ap length c.as_slice-count.ensures.value in
    let some : 0 < length c.as_slice-count.result.now = search rules in
    omega arith

pub returns : goal.returns
returns c =
    let ws = words_in c.args.text.now in
    let call = c.args.call.now in
    let k = placed_in ws call in
    let n = length c.as_slice-count.result.now in
    let same : n ≡ length call.ends.items = ap length c.as_slice-count.ensures.value in
    let some : 0 < n = search rules in
    let param = c.param_of-param.ensures ∙ ap (λ n. param_of call.operation n (n - 1)) same
    ∙ last_some call.operation (drop (call.opened + 1) ws) 0 call.ends.items (omega arith) in
    subst (λ p. Answers argument_in (IsReadBy p (scope_of c.args.scope) k.call.parts
    (argument_text c.args.text.now k).bytes) c.read_by.result) param c.read_by.ensures
