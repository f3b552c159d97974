use Rattle.reduce_ops.proofs.sum_part.SumPart.push_all.Goals as goal

pub returns-in-Running-clause-stands : goal.returns-in-Running-clause-stands
returns-in-Running-clause-stands g c = λ t h. c.push_values.ensures.stands t (rw c.in-Running.is at h)
