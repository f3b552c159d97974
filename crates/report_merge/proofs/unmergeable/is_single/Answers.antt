use Rattle.report_merge.proofs.LoopLemmas.{are_more, is_one}
use Rattle.report_merge.proofs.unmergeable.is_single.Goals as goal

pub returns-in-len1 : goal.returns-in-len1
returns-in-len1 c = is_one c.args.sources.now c.in-len1.len_at_least c.in-len1.len_below

pub returns-in_default-2 : goal.returns-in_default-2
returns-in_default-2 c = are_more c.args.sources.now c.in_default.len_at_least
