use Rattle.reduce_ops.proofs.sum_part.SumPart.end_with.Goals as goal

pub returns-in-Running-clause-stands : goal.returns-in-Running-clause-stands
returns-in-Running-clause-stands c = λ stage t h. c.end_with-in-Running.ensures.stands stage t (rw c.in-Running.is at h)
