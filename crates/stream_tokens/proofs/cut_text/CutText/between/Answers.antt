use Rattle.std.proofs.Common.{◌<◌, sym, subst, arith}
use Rattle.stream_tokens.specs.Tokens.{CutBetween}
use Rattle.stream_tokens.proofs.CutTextLemmas.{same_length, part_is_cut, part_stands}
use Rattle.stream_tokens.proofs.cut_text.CutText.between.Goals as goal

pub tokens_of-requires-clause-in_range : goal.tokens_of-requires-clause-in_range
tokens_of-requires-clause-in_range c =
    let same = same_length c.self.inside c.args.self.now c.self.view_is in
    let lt = c.requires.in_range in
    omega arith

pub token_at-requires : goal.token_at-requires
token_at-requires c =
    let same = same_length c.self.inside c.args.self.now c.self.view_is in
    let less = c.requires.in_order in
    let lt = c.requires.in_range in
    omega arith

pub token_at-requires-2 : goal.token_at-requires-2
token_at-requires-2 c = subst (λ n. c.args.closed < n) (sym (same_length c.self.inside c.args.self.now c.self.view_is))
    c.requires.in_range

pub invariant_of-result : goal.invariant_of-result
invariant_of-result c =
    let lt = subst (λ n. c.args.closed < n) (sym (same_length c.self.inside c.args.self.now c.self.view_is))
    c.requires.in_range in
    let d = c.token_at.result in
    let part = part_is_cut c.self.inside c.args.opened c.args.closed c.token_at.result c.token_at-2.result d
    c.self.invariant c.requires.in_order lt (c.token_at.ensures d) (c.token_at-2.ensures d) in
    record {
      within = part.0;
      in_order = part.1;
      tokens = subst (λ us. CutBetween c.self.inside.text.now c.token_at.result.to us c.token_at-2.result.from)
          (sym c.tokens_of.ensures) part.2;
    }

pub returns : goal.returns
returns c = λ d.
    let lt = subst (λ n. c.args.closed < n) (sym (same_length c.self.inside c.args.self.now c.self.view_is))
    c.requires.in_range in
    part_stands c.self.inside c.args.self.now c.args.opened c.args.closed c.token_at.result c.token_at-2.result
    c.tokens_of.result.now d c.self.invariant c.self.view_is c.requires.in_order lt (c.token_at.ensures d)
    (c.token_at-2.ensures d) c.tokens_of.ensures
