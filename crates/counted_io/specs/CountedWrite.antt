-- Condition: what a write does to a writer.
use Rattle.std.specs.Prelude.{◌==◌, ◌&&◌, ℕ, not, if◌then◌else◌, Result, Ok, Err}
use Rattle.counted_io.specs.declared.counted_write.CountedOut.{CountedOut}
use Rattle.counted_io.specs.FailureCounts.{one_more}

-- the count after a write of n bytes: one more for an error, and for an answer of 0 if there were bytes
abbrev pub failures_after_write : {E : Type 0} → ℕ → Result ℕ E → ℕ → ℕ
failures_after_write failures (Ok count) n = if (count == 0) && not (n == 0) then one_more failures else failures
failures_after_write failures (Err _) n = one_more failures

-- the writer below a counted writer
abbrev pub counted_writer : {W : Type 0} → CountedOut W → W
counted_writer c = c.writer

-- how many of its writes failed
abbrev pub failed_writes : {W : Type 0} → CountedOut W → ℕ
failed_writes c = c.failures
