use Rattle.std.proofs.Common.{◌+◌, ◌-◌, ◌*◌, max}
use Rattle.job_runner.specs.Cuts.{begins, ends_at}
use Rattle.job_runner.proofs.walking.JobWork+S+TablePart+S+TableKept+S+R.+walk.Given as goal

abbrev pub decreases-walk : goal.decreases-walk
decreases-walk g l = 2 * (ends_at l.side.half.place.tag l.side.half.place.side
    - begins l.side.half.place.tag l.side.half.place.side)

abbrev pub decreases-walk_both : goal.decreases-walk_both
decreases-walk_both g l = 2 * max (ends_at l.own.half.place.tag l.own.half.place.side
    - begins l.own.half.place.tag l.own.half.place.side)
    (ends_at l.other.half.place.tag l.other.half.place.side - begins l.other.half.place.tag l.other.half.place.side) + 1
