use Rattle.std.proofs.Common.{refl}
use Rattle.trace.specs.Trace.{nothing}
use Rattle.reduce_ops.proofs.exact_part.ExactPart.finish.Goals as goal

pub returns : goal.returns
returns c stage t h = c.joined.ensures.stands stage nothing t refl h
