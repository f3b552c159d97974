use Rattle.job_runner.proofs.walking.handed.Goals as goal

pub returns-in-Some-fault-clause-handed : goal.returns-in-Some-fault-clause-handed
returns-in-Some-fault-clause-handed g c = record {
  from = c.args.piece.from;
  to = c.args.piece.to;
  piece = c.requires.piece;
  part = c.in-Ok.part;
  stands = rw c.in-Ok.is at c.part_of.ensures;
  caught = rw c.in-Some-fault.is at c.fault.ensures.among;
}
