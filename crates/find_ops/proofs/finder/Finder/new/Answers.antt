use Rattle.find_ops.proofs.finder.Finder.new.Goals as goal

pub returns-clause-stands : goal.returns-clause-stands
returns-clause-stands c = c.none.ensures.stands c.args.stage c.args.env.now
