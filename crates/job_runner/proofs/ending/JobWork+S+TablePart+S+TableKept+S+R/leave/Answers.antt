use Rattle.job_runner.proofs.CaughtLemmas.{whole_caught, whole_part}
use Rattle.job_runner.proofs.ending.JobWork+S+TablePart+S+TableKept+S+R.leave.Goals as goal

pub answer_instead-answer-requires-clause-caught : goal.answer_instead-answer-requires-clause-caught
answer_instead-answer-requires-clause-caught g c =
    let caught = whole_caught g.S.JobLegs.run (λ x. x.found) c.args.job c.args.leg _ _ c.in-Ok.is c.in-Caught.is
    c.requires.part in
    (c.args.leg, caught.0, caught.1)

pub leave_part-requires-clause-part : goal.leave_part-requires-clause-part
leave_part-requires-clause-part g c = whole_part g.S.JobLegs.run (λ x. x.found) c.args.job c.args.leg _ _ _ c.in-Ok.is
    c.in-Part.is c.requires.part
