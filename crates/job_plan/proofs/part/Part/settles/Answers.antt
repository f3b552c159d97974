use Rattle.std.proofs.Common.{sym, ◌∙◌}
use Rattle.job_plan.proofs.PartLemmas.{settles_first, settles_later}
use Rattle.job_plan.proofs.part.Part.settles.Goals as goal

pub returns-then-from-eq0 : goal.returns-then-from-eq0
returns-then-from-eq0 c = c.is_settled.ensures ∙ sym (settles_first c.args.from c.args.self.now c.if-from-eq0.true)

pub returns : goal.returns
returns c = c.settles_later.ensures ∙ sym (settles_later c.args.from c.args.self.now c.if-from-eq0.false)
