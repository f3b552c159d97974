use Rattle.std.proofs.Common.{◌-◌, suc, length, sym, ap, ◌∙◌, add-one, rules, arith, Fits, w64}
use Rattle.stream_tokens.specs.declared.token.Token.{Token}
use Rattle.stream_tokens.specs.CutTexts.{TokenizedText, column}
use Rattle.stream_tokens.specs.CutFields.{tokenized}
use Rattle.stream_tokens.proofs.CutTextLemmas.{column_at, column_past, token_bound, length_part}
use Rattle.stream_tokens.proofs.cut_text.CutText.column.Goals as goal

pub overflow_sub-result : goal.overflow_sub-result
overflow_sub-result c =
    let lookup = c.in-Some.ensures.lookup in
    let bound = token_bound c.self.inside.text.now c.self.inside.from c.self.inside.to c.self.inside.tokens.now
    c.args.place c.in-Some.token.now lookup.3.0 c.self.invariant.tokens in
    let e = ap (λ (t : Token). t.from) lookup.1 in
    let low = bound.0 in
    omega arith

pub overflow_add-result : goal.overflow_add-result
overflow_add-result c =
    let lookup = c.in-Some.ensures.lookup in
    let bound = token_bound c.self.inside.text.now c.self.inside.from c.self.inside.to c.self.inside.tokens.now
    c.args.place c.in-Some.token.now lookup.3.0 c.self.invariant.tokens in
    let e = ap (λ (t : Token). t.from) lookup.1 in
    let f = ap (λ (t : Token). t.to) lookup.1 in
    let high = bound.1 in
    let some = bound.2 in
    let within = c.self.invariant.within in
    let fits : Fits w64 (length c.self.inside.text.now) = search rules in
    omega arith

pub returns-in-Some : goal.returns-in-Some
returns-in-Some c =
    let lookup = c.in-Some.ensures.lookup in
    let s = tokenized c.self.inside in
    add-one (c.in-Some.token.now.from - c.self.inside.from)
    ∙ ap (λ (t : Token). suc (t.from - c.self.inside.from)) lookup.1
    ∙ sym (column_at s.bytes c.self.inside.from c.self.inside.tokens.now c.args.place c.in-Some.token.now lookup.3.0)
    ∙ ap (λ (t : TokenizedText). column t.bytes t.tokens c.args.place) c.self.view_is

pub returns-in-None : goal.returns-in-None
returns-in-None c =
    let lookup = c.in-None.ensures.lookup in
    let s = tokenized c.self.inside in
    add-one (c.self.inside.to - c.self.inside.from)
    ∙ ap suc (sym (length_part c.self.inside.text.now c.self.inside.from c.self.inside.to c.self.invariant.within))
    ∙ sym (column_past s.bytes c.self.inside.from c.self.inside.tokens.now c.args.place lookup.3)
    ∙ ap (λ (t : TokenizedText). column t.bytes t.tokens c.args.place) c.self.view_is
