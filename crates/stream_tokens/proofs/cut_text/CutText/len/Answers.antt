use Rattle.std.proofs.Common.{sym, ap, ◌∙◌, length}
use Rattle.stream_tokens.specs.CutTexts.{TokenizedText}
use Rattle.stream_tokens.proofs.CutTextLemmas.{length_shifted}
use Rattle.stream_tokens.proofs.cut_text.CutText.len.Goals as goal

pub returns : goal.returns
returns c = sym (length_shifted c.self.inside.from c.self.inside.tokens.now)
    ∙ ap (λ (t : TokenizedText). length t.tokens) c.self.view_is
