use Rattle.std.proofs.Common.{ℕ, subst}
use Rattle.job_runner.specs.Runs.{DecidesIn}
use Rattle.job_runner.proofs.watch.WatchStop.place.Goals as goal

pub returns-clause-still : goal.returns-clause-still
returns-clause-still g c = λ place decides.
    let run = g.S.JobLegs.run in
    subst (λ (leg : ℕ). DecidesIn run c.args.self.now.job leg place) c.seen.ensures.same.1
    (subst (λ (job : ℕ). DecidesIn run job c.seen.new.self.leg place) c.seen.ensures.same.0 decides)
