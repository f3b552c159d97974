use Rattle.std.proofs.Common.{◌≡◌, ◌∷◌, rules}
use Rattle.trace.specs.Stages.{stage_of}
use Rattle.job_routes.proofs.SearchedLegs.{copies_more}
use Rattle.job_routes.proofs.copies.+add_copies.Goals as goal

pub returns-clause-copies : goal.returns-clause-copies
returns-clause-copies t c =
    let split : c.args.from.now ≡ c.in-Some.stage.now ∷ c.in-Some.later.now = search rules in
    let is : stage_of c.in-Some-2.copy ≡ stage_of c.in-Some.stage.now = search rules in
    copies_more c.args.from.now c.in-Some.later.now c.args.to.now.items c.push.new.self.items
    c.add_copies.new.to.items c.in-Some.stage.now c.in-Some-2.copy split is c.in_ok-push.ensures.items
    c.add_copies.result c.add_copies.ensures.copies
