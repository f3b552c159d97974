use Rattle.std.proofs.Common.{◌≤◌, ◌-◌, ◌^◌, take, vec_len}
use Rattle.counted_io.specs.CountedRead.{HasGiven}
use Rattle.counted_io.proofs.counted_read.read_up_to.Given as goal

-- what is filled is what was there and what the reader gave
abbrev pub invariant-loop-filled : goal.invariant-loop-filled
invariant-loop-filled g l =
    (l.filled ≤ vec_len l.bytes)
    × HasGiven (g.R.CountedRead.remaining l.initial.reader) (g.R.CountedRead.remaining l.reader) l.initial.bytes.items
    (take l.filled l.bytes.items)
    × (g.R.CountedRead.failures l.initial.reader ≤ g.R.CountedRead.failures l.reader)

abbrev pub decreases-loop-filled : goal.decreases-loop-filled
decreases-loop-filled g l = l.limit - l.filled
