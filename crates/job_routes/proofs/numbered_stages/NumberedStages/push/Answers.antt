use Rattle.std.proofs.Common.{arith, is_ok}
use Rattle.job_routes.proofs.BuiltLemmas.{at_most_one, one_longer, one_more}
use Rattle.job_routes.proofs.RouteLemmas.{length-stages_of}
use Rattle.job_routes.proofs.numbered_stages.NumberedStages.push.Goals as goal

pub invariant_of-self : goal.invariant_of-self
invariant_of-self c =
    let gs = c.args.self.now.list.items in
    let few = at_most_one (is_ok c.push.result) c.push.new.self.items gs c.args.stage c.push.ensures.items in
    let same = length-stages_of gs in
    record { numbered = omega (arith, few, same, c.requires.few) }

pub returns-clause-walk : goal.returns-clause-walk
returns-clause-walk c = λ env t. one_more c.args.self.now.first c.args.self.now.list.items c.push.new.self.items
    c.args.stage c.in_ok-push.ensures.items env t

pub returns-clause-number : goal.returns-clause-number
returns-clause-number c = let l = one_longer c.args.self.now.list.items c.push.new.self.items c.args.stage
    c.in_ok-push.ensures.items in omega (arith, l)
