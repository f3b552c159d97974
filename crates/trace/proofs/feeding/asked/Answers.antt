use Rattle.trace.proofs.WalkLemmas.{IsFed_left}
use Rattle.trace.proofs.feeding.asked.Goals as goal

pub returns-in-Enough-clause-fed : goal.returns-in-Enough-clause-fed
returns-in-Enough-clause-fed g c = λ xs t p. IsFed_left g.S.LongSink.has_taken xs t c.args.sink.now
    c.still_wants.new.self c.still_wants.ensures.taken (rw c.in-More.is at p)
