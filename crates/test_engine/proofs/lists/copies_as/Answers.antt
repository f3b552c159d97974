use Rattle.test_engine.proofs.Copies.{copies_are}
use Rattle.test_engine.proofs.lists.copies_as.Goals as goal

pub returns : goal.returns
returns g c =
    copies_are (λ a. a.items) (λ v. v.items) g.P.JobNumbers.numbers g.P.JobNumbers.jobs c.args.lists.now
    c.run_all.result c.requires.planned.0 c.requires.planned.1 c.run_all.ensures.count c.run_all.ensures.each
