use Rattle.std.proofs.Common.{◌≡◌, take}
use Rattle.report.specs.AnswerForms.{further}
use Rattle.report.specs.Runs.{runs_in}
use Rattle.report.specs.Numbers.{separator_bytes}
use Rattle.report.proofs.by_threads.text_of.Given as goal

-- the text so far is the text of the runs before this one
abbrev pub invariant-loop-run : goal.invariant-loop-run
invariant-loop-run l = l.text.items ≡ further (separator_bytes l.separator) (runs_in (take l.run-index l.runs))
