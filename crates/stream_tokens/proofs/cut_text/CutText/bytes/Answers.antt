use Rattle.std.proofs.Common.{subst}
use Rattle.stream_tokens.specs.Tokens.{AreTokensOf}
use Rattle.stream_tokens.specs.CutTexts.{TokenizedText}
use Rattle.stream_tokens.proofs.CutTextLemmas.{part_tokens}
use Rattle.stream_tokens.proofs.cut_text.CutText.bytes.Goals as goal

pub returns-clause-tokens : goal.returns-clause-tokens
returns-clause-tokens c =
    subst (λ (t : TokenizedText). AreTokensOf t.tokens t.bytes) c.self.view_is
    (part_tokens c.self.inside.text.now c.self.inside.from c.self.inside.to c.self.inside.tokens.now
    c.self.invariant.within c.self.invariant.tokens)
