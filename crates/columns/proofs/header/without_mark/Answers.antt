use Rattle.std.proofs.Common.{◌∙◌}
use Rattle.std.proofs.lemmas.List.{take_rest}
use Rattle.columns.proofs.header.without_mark.Goals as goal

pub returns : goal.returns
returns c = take_rest c.args.bytes.now c.mark_end.result ∙ c.mark_end.ensures.rest
