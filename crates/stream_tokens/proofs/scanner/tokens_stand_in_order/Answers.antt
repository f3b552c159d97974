use Rattle.std.proofs.Common.{length}
use Rattle.stream_tokens.proofs.CutLemmas.{cut_in_order}
use Rattle.stream_tokens.proofs.scanner.tokens_stand_in_order.Goals as goal

pub returns : goal.returns
returns c text tokens h = cut_in_order text 0 tokens (length text) h
