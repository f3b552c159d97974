use Rattle.std.proofs.Common.{◌≡◌, ◌+◌, [], Some, length, drop, get_or, sym, ap, subst, ◌∙◌, rules}
use Rattle.lambda_expr.specs.CodeWords.{words_in}
use Rattle.job_language.specs.Scopes.{scope_of}
use Rattle.job_language.specs.Shapes.{call_in}
use Rattle.job_language.specs.Table.{places_in, string_in}
use Rattle.job_language.specs.Arguments.{key_answer, key_in, keyed}
use Rattle.job_language.specs.Parts.{argument_in, Answers}
use Rattle.job_language.proofs.CauseLemmas.{length_parts}
use Rattle.job_language.proofs.LastParts.{no_key, one_part, two_parts}
use Rattle.job_language.proofs.argument.read_column.Goals as goal

pub returns-in-1 : goal.returns-in-1
returns-in-1 c =
    let ws = words_in c.args.text.now in
    let call = c.args.call.now in
    let parts = (call_in ws call).parts in
    let is : length c.as_slice.result.now ≡ 1 = search rules in
    let one : length parts ≡ 1 = length_parts (drop (call.opened + 1) ws) 0 call.ends.items
    ∙ ap length (sym c.as_slice.ensures.value) ∙ is in
    let key = ap (λ o. keyed o (Some 0)) (c.string_in.ensures ∙ ap string_in c.part_of-name.ensures.words)
    ∙ ap key_in (sym (one_part parts one)) in
    subst (λ k. Answers argument_in (λ r. key_answer (scope_of c.args.scope) k ≡ r) c.read_key.result) key
    c.read_key.ensures

pub returns-in-2 : goal.returns-in-2
returns-in-2 c =
    let ws = words_in c.args.text.now in
    let call = c.args.call.now in
    let parts = (call_in ws call).parts in
    let is : length c.as_slice.result.now ≡ 2 = search rules in
    let two : length parts ≡ 2 = length_parts (drop (call.opened + 1) ws) 0 call.ends.items
    ∙ ap length (sym c.as_slice.ensures.value) ∙ is in
    let name = c.string_in-in-2.ensures ∙ ap string_in c.part_of-name.ensures.words in
    let places = c.places_in-places.ensures ∙ ap places_in c.part_of.ensures.words in
    let key = ap (λ o. keyed o c.places_in-places.result) name
    ∙ ap (λ p. keyed (string_in (get_or parts 0 [])) p) places ∙ ap key_in (sym (two_parts parts two)) in
    subst (λ k. Answers argument_in (λ r. key_answer (scope_of c.args.scope) k ≡ r) c.read_key-in-2.result) key
    c.read_key-in-2.ensures

pub returns-in_default : goal.returns-in_default
returns-in_default c =
    let ws = words_in c.args.text.now in
    let call = c.args.call.now in
    let parts = (call_in ws call).parts in
    let same : length parts ≡ length c.as_slice.result.now =
    length_parts (drop (call.opened + 1) ws) 0 call.ends.items ∙ ap length (sym c.as_slice.ensures.value) in
    let not_one : length c.as_slice.result.now ≡ 1 → ⊥ = search rules in
    let not_two : length c.as_slice.result.now ≡ 2 → ⊥ = search rules in
    ap (key_answer (scope_of c.args.scope)) (no_key parts (λ e. not_one (sym same ∙ e)) (λ e. not_two (sym same ∙ e)))
