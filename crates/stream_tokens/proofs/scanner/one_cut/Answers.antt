use Rattle.std.proofs.Common.{length}
use Rattle.stream_tokens.proofs.CutLemmas.{same_tokens}
use Rattle.stream_tokens.proofs.scanner.one_cut.Goals as goal

pub returns : goal.returns
returns c text a b h k = same_tokens text 0 a b (length text) h k
