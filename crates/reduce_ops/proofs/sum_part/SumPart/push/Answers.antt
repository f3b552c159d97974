use Rattle.reduce_ops.proofs.sum_part.SumPart.push.Goals as goal

pub returns-in-Running-clause-stands : goal.returns-in-Running-clause-stands
returns-in-Running-clause-stands c = λ t h. c.push-in-Running.ensures.stands t (rw c.in-Running.is at h)
