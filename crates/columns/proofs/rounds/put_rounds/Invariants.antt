use Rattle.std.proofs.Common.{◌≡◌, ◌≤◌, length, map, true}
use Rattle.std.specs.Io.KnownBytes.{IsAtEnd}
use Rattle.std.specs.Prelude.{vec_len}
use Rattle.columns.specs.Fronts.{Goes, left_in}
use Rattle.columns.specs.TextRows.{AreEven}
use Rattle.tables.specs.TableOfColumns.{named}
use Rattle.columns.proofs.rounds.put_rounds.Given as goal

-- the rounds so far are put
abbrev pub invariant-loop : goal.invariant-loop
invariant-loop g l =
    (length l.columns ≡ length l.initial.columns)
    × Goes l.layout (g.R.CountedRead.remaining l.initial.reader) (g.R.CountedRead.remaining l.reader)
    (left_in l.initial.rounds) (left_in l.rounds)
    (map named l.initial.columns) (map named l.columns)
    × (g.R.CountedRead.failures l.initial.reader ≤ g.R.CountedRead.failures l.reader)
    × (l.rounds.from ≤ vec_len l.rounds.bytes)
    × AreEven (map named l.columns)
    × (l.rounds.is_last ≡ true → IsAtEnd (g.R.CountedRead.remaining l.reader))
