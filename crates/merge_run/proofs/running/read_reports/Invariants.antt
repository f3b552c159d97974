use Rattle.merge_run.proofs.ReadLemmas.{ReadSoFar}
use Rattle.merge_run.proofs.running.read_reports.Given as goal

abbrev pub invariant-loop-part : goal.invariant-loop-part
invariant-loop-part g l = ReadSoFar g.R.CountedRead.remaining l.fn.parts l.parts l.part l.reports.items
