use Rattle.std.proofs.Common.{rules}
use Rattle.job_plan.proofs.part_sink.PartSinkLongSink.accept.Goals as goal

pub returns-then-is_settled-clause-answer : goal.returns-then-is_settled-clause-answer
returns-then-is_settled-clause-answer g c = search rules
