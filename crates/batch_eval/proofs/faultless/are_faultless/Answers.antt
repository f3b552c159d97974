use Rattle.std.proofs.Common.{sym, ◌∙◌}
use Rattle.batch_eval.proofs.FaultlessLemmas.{when_there}
use Rattle.batch_eval.proofs.faultless.are_faultless.Goals as goal

pub returns : goal.returns
returns c = λ yes. when_there c.after_stages.result (sym c.is_some.ensures ∙ yes) c.after_stages.ensures
