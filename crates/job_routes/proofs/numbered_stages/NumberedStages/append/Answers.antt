use Rattle.std.proofs.Common.{is_ok}
use Rattle.job_routes.proofs.SearchedLegs.{appended_few, appended_number, appended_walk}
use Rattle.job_routes.proofs.numbered_stages.NumberedStages.append.Goals as goal

pub invariant_of-self : goal.invariant_of-self
invariant_of-self c = record {
  numbered = appended_few (is_ok c.append.result) c.args.self.now c.args.later
      c.append.new.self.items c.requires.next c.append.ensures.items;
}

pub returns-clause-walk : goal.returns-clause-walk
returns-clause-walk c = appended_walk c.args.self.now c.args.later c.append.new.self.items c.requires.next
    c.in_ok-append.ensures.items

pub returns-clause-number : goal.returns-clause-number
returns-clause-number c = appended_number c.args.self.now c.args.later c.append.new.self.items c.requires.next
    c.in_ok-append.ensures.items
