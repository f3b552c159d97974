use Rattle.job_routes.specs.Legs.{end_in}
use Rattle.job_routes.proofs.AskLemmas.{one_asked}
use Rattle.job_routes.proofs.building.Begun.ask_for.Goals as goal

pub returns-then-takes_one-clause-walk : goal.returns-then-takes_one-clause-walk
returns-then-takes_one-clause-walk c = one_asked c.args.self.now c.ask.new.self c.ask.result c.ask.ensures.asked
    c.ask.ensures.same (end_in c.args.end.now) (c.takes_one.ensures c.if-takes_one.true)
