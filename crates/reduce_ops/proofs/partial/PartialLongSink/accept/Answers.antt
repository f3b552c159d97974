use Rattle.std.proofs.Common.{sym, ap, ◌∙◌}
use Rattle.trace.specs.Sinks.{flow_at}
use Rattle.trace.specs.Trace.{trace}
use Rattle.trace.specs.declared.item.End.TheVariants as end
use Rattle.reduce_ops.proofs.partial.PartialLongSink.accept.Goals as goal

pub returns-clause-ok : goal.returns-clause-ok
returns-clause-ok c xs h = c.push.ensures.stands (trace xs end.Done) h

pub returns-clause-answer : goal.returns-clause-answer
returns-clause-answer c = sym (ap flow_at c.push.ensures.ending ∙ c.requires)
