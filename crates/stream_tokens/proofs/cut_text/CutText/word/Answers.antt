use Rattle.std.proofs.Common.{◌<◌, ◌≤◌, ap, sym, subst, ◌∙◌, arith}
use Rattle.stream_tokens.specs.declared.token.Token.{Token}
use Rattle.stream_tokens.specs.Tokens.{token_text}
use Rattle.stream_tokens.proofs.CutTextLemmas.{same_length, token_bound, word_at}
use Rattle.stream_tokens.proofs.cut_text.CutText.word.Goals as goal

pub token_at-requires : goal.token_at-requires
token_at-requires c = subst (λ n. c.args.place < n) (sym (same_length c.self.inside c.args.self.now c.self.view_is))
    c.requires

pub text-requires-clause-in_order : goal.text-requires-clause-in_order
text-requires-clause-in_order c =
    let t = c.token_at.result in
    let lt = subst (λ n. c.args.place < n) (sym (same_length c.self.inside c.args.self.now c.self.view_is))
    c.requires in
    let bound = token_bound c.self.inside.text.now c.self.inside.from c.self.inside.to c.self.inside.tokens.now
    c.args.place t lt c.self.invariant.tokens in
    let some = subst (λ (u : Token). u.from < u.to) (sym (c.token_at.ensures t)) bound.2 in
    omega arith

pub text-requires-clause-in_range : goal.text-requires-clause-in_range
text-requires-clause-in_range c =
    let t = c.token_at.result in
    let lt = subst (λ n. c.args.place < n) (sym (same_length c.self.inside c.args.self.now c.self.view_is))
    c.requires in
    let bound = token_bound c.self.inside.text.now c.self.inside.from c.self.inside.to c.self.inside.tokens.now
    c.args.place t lt c.self.invariant.tokens in
    let high = subst (λ (u : Token). u.to ≤ c.self.inside.to) (sym (c.token_at.ensures t)) bound.1 in
    let within = c.self.invariant.within in
    omega arith

pub returns : goal.returns
returns c = λ d.
    let lt = subst (λ n. c.args.place < n) (sym (same_length c.self.inside c.args.self.now c.self.view_is))
    c.requires in
    c.text.ensures ∙ ap (token_text c.self.inside.text.now) (c.token_at.ensures d)
    ∙ word_at c.self.inside c.args.self.now c.args.place d c.self.invariant c.self.view_is lt
