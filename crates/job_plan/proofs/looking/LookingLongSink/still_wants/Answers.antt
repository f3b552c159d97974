use Rattle.job_plan.proofs.LookLemmas.{as_named}
use Rattle.job_plan.proofs.looking.LookingLongSink.still_wants.Goals as goal

pub returns-then-is_seen-clause-taken : goal.returns-then-is_seen-clause-taken
returns-then-is_seen-clause-taken g c = λ xs looked. (
  looked.0,
  (λ d known. looked.1 d (c.is_seen.ensures.still d known)),
  as_named g.W.Stop.decides g.P.StartBrand.decides g.P.StartBrand.from c.args.self.now.from c.args.self.now.stop.now
      looked.0 looked.1 (c.is_seen.ensures.past c.if-is_seen.true),
)

pub returns-clause-taken : goal.returns-clause-taken
returns-clause-taken g c = λ xs looked. (looked.0, (λ d known. looked.1 d (c.is_seen.ensures.still d known)), looked.2)
