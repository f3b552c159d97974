use Rattle.stream_tokens.proofs.CutTextLemmas.{shifted_none}
use Rattle.stream_tokens.proofs.cut_text.CutText.of.Goals as goal

pub returns-clause-tokens : goal.returns-clause-tokens
returns-clause-tokens c = shifted_none c.args.tokens.now
