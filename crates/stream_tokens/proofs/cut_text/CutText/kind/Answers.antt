use Rattle.std.proofs.Common.{◌<◌, ap, sym, subst, ◌∙◌}
use Rattle.stream_tokens.specs.declared.token.Token.{Token}
use Rattle.stream_tokens.proofs.CutTextLemmas.{same_length, kind_at}
use Rattle.stream_tokens.proofs.cut_text.CutText.kind.Goals as goal

pub token_at-requires : goal.token_at-requires
token_at-requires c = subst (λ n. c.args.place < n) (sym (same_length c.self.inside c.args.self.now c.self.view_is))
    c.requires

pub returns : goal.returns
returns c = λ d.
    let lt = subst (λ n. c.args.place < n) (sym (same_length c.self.inside c.args.self.now c.self.view_is))
    c.requires in
    ap (λ (t : Token). t.kind) (c.token_at.ensures d)
    ∙ kind_at c.self.inside c.args.self.now c.args.place d c.self.view_is lt
