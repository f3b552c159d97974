use Rattle.std.proofs.Common.{◌≡◌, ◌≤◌, drop, length}
use Rattle.std.specs.Prelude.{All}
use Rattle.job_meaning.specs.Longs.{AnswersFit}
use Rattle.merge_run.proofs.RestLemmas.{Reads}
use Rattle.report.specs.Named.{IsNamed}
use Rattle.merge_run.proofs.part_answers.answers_in.Given as goal

abbrev pub invariant-loop-name : goal.invariant-loop-name
invariant-loop-name l =
    Reads l.names l.fn.bytes l.later (drop l.name-index l.names) l.answers.items l.left
    × All (IsNamed l.names) l.answers.items
    × AnswersFit l.names l.answers.items
    × (length l.answers.items ≡ l.name-index)
    × (l.name-index ≤ length l.names)
