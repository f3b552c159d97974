use Rattle.std.proofs.Common.{length, ap, arith}
use Rattle.trace.specs.Stages.{stages_of}
use Rattle.job_routes.proofs.building.Begun.forget.Goals as goal

pub returns-clause-number : goal.returns-clause-number
returns-clause-number c = let none = ap (λ gs. length (stages_of gs)) c.none.ensures.1 in
    omega (arith, none, c.none.ensures.0, c.next.ensures)
