use Rattle.std.proofs.Common.{◌≡◌, drop}
use Rattle.job_names.specs.JobNames.{after_blanks}
use Rattle.job_names.proofs.names.after_blanks.Given as goal

abbrev pub invariant-loop-at : goal.invariant-loop-at
invariant-loop-at l = after_blanks l.text ≡ after_blanks (drop l.at l.text)
