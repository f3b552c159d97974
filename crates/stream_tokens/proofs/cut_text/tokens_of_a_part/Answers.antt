use Rattle.stream_tokens.proofs.CutTextLemmas.{part_tokens}
use Rattle.stream_tokens.proofs.cut_text.tokens_of_a_part.Goals as goal

pub returns : goal.returns
returns c = part_tokens
