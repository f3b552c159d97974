-- Condition: what a read does to a reader.
use Rattle.std.specs.Prelude.{◌≡◌, ◌++◌, ℕ, List, Option, Result, Ok, Err}
use Rattle.std.specs.Io.KnownBytes.{Consumes}
use Rattle.counted_io.specs.declared.counted_read.Counted.{Counted}
use Rattle.counted_io.specs.FailureCounts.{one_more}

-- the count after a read: one more if the answer is an error
abbrev pub failures_after : {E : Type 0} → ℕ → Result ℕ E → ℕ
failures_after n (Ok _) = n
failures_after n (Err _) = one_more n

-- the reader gave some bytes, lost none, and still has the rest, if its bytes are known
abbrev pub GaveSome : Option (List ℕ) → Option (List ℕ) → Type 0
GaveSome before after = (gone : List ℕ) × Consumes before after gone

-- the reader gave some bytes and still has the rest, if its bytes are known, and other bytes grew by the given ones
abbrev pub HasGiven : Option (List ℕ) → Option (List ℕ) → List ℕ → List ℕ → Type 0
HasGiven before after old new = (gone : List ℕ) × Consumes before after gone × (new ≡ old ++ gone)

-- the reader below a counted reader
abbrev pub counted_reader : {R : Type 0} → Counted R → R
counted_reader c = c.reader

-- how many of its reads failed
abbrev pub failed_reads : {R : Type 0} → Counted R → ℕ
failed_reads c = c.failures
