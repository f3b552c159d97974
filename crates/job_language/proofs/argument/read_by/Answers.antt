use Rattle.std.proofs.Common.{◌≡◌, ◌+◌, ◌-◌, [], length, drop, get_or, sym, ap, subst, ◌∙◌, arith}
use Rattle.lambda_expr.specs.CodeWords.{words_in}
use Rattle.job_language.specs.Scopes.{scope_of}
use Rattle.job_language.specs.Shapes.{placed_in}
use Rattle.job_language.specs.Table.{name_in}
use Rattle.job_language.specs.Operators.{is_add_exact, spelled_op}
use Rattle.job_language.specs.Arguments.{argument_text, last_part, name_answer, IsOperatorRead, IsReadBy}
use Rattle.job_language.specs.Parts.{argument_in, Answers}
use Rattle.job_language.proofs.CauseLemmas.{length_parts}
use Rattle.job_language.proofs.LastParts.{last_at}
use Rattle.job_language.proofs.argument.read_by.Goals as goal

pub returns-in-Name : goal.returns-in-Name
returns-in-Name c =
    let s = scope_of c.args.scope in
    let ws = words_in c.args.text.now in
    let call = c.args.call.now in
    let k = placed_in ws call in
    let some = c.requires.parts in
    let count : length k.call.parts ≡ length call.ends.items =
    length_parts (drop (call.opened + 1) ws) 0 call.ends.items in
    let same : length c.as_slice.result.now ≡ length k.call.parts = ap length c.as_slice.ensures.value ∙ sym count in
    let words = c.part_of-last.ensures.words ∙ ap (λ n. get_or k.call.parts (n - 1) []) same
    ∙ last_at k.call.parts (omega arith) in
    subst (λ p. Answers argument_in (IsReadBy p s k.call.parts (argument_text c.args.text.now k).bytes)
    c.read_name.result) (sym c.in-Name.is)
    (subst (λ o. Answers argument_in (λ r. name_answer s o ≡ r) c.read_name.result)
    (c.name_in.ensures ∙ ap name_in words) c.read_name.ensures)

pub returns-in-Operator : goal.returns-in-Operator
returns-in-Operator c =
    let s = scope_of c.args.scope in
    let t = c.args.text.now in
    let ws = words_in t in
    let call = c.args.call.now in
    let k = placed_in ws call in
    let some = c.requires.parts in
    let count : length k.call.parts ≡ length call.ends.items =
    length_parts (drop (call.opened + 1) ws) 0 call.ends.items in
    let same : length c.as_slice.result.now ≡ length k.call.parts = ap length c.as_slice.ensures.value ∙ sym count in
    let words = c.part_of-last.ensures.words ∙ ap (λ n. get_or k.call.parts (n - 1) []) same
    ∙ last_at k.call.parts (omega arith) in
    let text = c.part_of-last.ensures.last (omega arith) in
    subst (λ p. Answers argument_in (IsReadBy p s k.call.parts (argument_text t k).bytes) c.read_operator.result)
    (sym c.in-Operator.is)
    (subst (λ u. Answers argument_in (IsOperatorRead (is_add_exact (last_part k.call.parts))
    (spelled_op (last_part k.call.parts)) s u.bytes) c.read_operator.result) text
    (subst (λ v. Answers argument_in (IsOperatorRead (is_add_exact v) (spelled_op v) s c.part_of-last.result.bytes)
    c.read_operator.result) words c.read_operator.ensures))
