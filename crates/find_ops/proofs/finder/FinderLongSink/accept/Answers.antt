use Rattle.trace.specs.Trace.{trace}
use Rattle.trace.specs.declared.item.End.TheVariants as end
use Rattle.find_ops.proofs.finder.FinderLongSink.accept.Goals as goal

pub returns-then-is_decided-clause-ok : goal.returns-then-is_decided-clause-ok
returns-then-is_decided-clause-ok c xs s = c.look_at-self.ensures.stands (trace xs end.Done) s

pub returns-else-is_decided-clause-ok : goal.returns-else-is_decided-clause-ok
returns-else-is_decided-clause-ok c xs s = c.look_at-self.ensures.stands (trace xs end.Done) s
