use Rattle.engine.proofs.reporting.report_of.Goals as goal

pub written-requires-clause-names : goal.written-requires-clause-names
written-requires-clause-names g c = λ lifetimes lives. c.in-Ok.ensures.names
