-- Condition: what the readers of a run hold, and whether a read of the column file failed.
use Rattle.std.specs.Prelude.{◌≡◌, ◌≢◌, ℕ, ◌⊎◌, ⊤, false, List, Option, Some, None, IfSome, Result, Ok, Err}
use Rattle.std.specs.Prelude.{IfErr, OnOk}
use Rattle.std.specs.Borrow.{MutBor}
use Rattle.std.specs.Io.KnownBytes.{Appends, IsAtEnd, Keeps}
use Rattle.std.proofs.Common.{inl, inr}
use Rattle.columns.specs.declared.fault.ColumnFault.{ColumnFault}
use Rattle.tables.specs.Table.{NamedColumn}
use Rattle.run_settings.specs.Asked.{Asked}
use Rattle.counted_io.specs.FailureCounts.{HasRisen}
use Rattle.engine.specs.declared.fault.EngineFault.{EngineFault}
use Rattle.engine.specs.declared.fault.EngineFault.TheVariants.{Columns, JobsRead, Write}
use Rattle.engine.specs.Refused.{IsCutShort}
use Rattle.engine.specs.Run.{Faulted, Input, Reported, columns_by, form_for, reads_by_jobs}

-- these are the bytes that a reader has left, if it is known which these are
abbrev pub IsWhole : Option (List ℕ) → List ℕ → Type 0
IsWhole left bytes = IfSome left (λ known. bytes ≡ known)

-- this is the file that an optional reader has left: without a reader there is none
abbrev pub IsFile : {C : Type 0} → (C → Option (List ℕ)) → Option (MutBor C) → Option (List ℕ) → Type 0
IsFile remaining None file = file ≡ None
IsFile remaining (Some reader) file = (bytes : List ℕ) × (file ≡ Some bytes) × IsWhole (remaining reader.now) bytes

-- this is what a run is given: the files of its two readers, and what its settings ask for
pub record IsGiven {C : Type 0} (remaining : C → Option (List ℕ)) (columns : Option (MutBor C)) (jobs : Option (List ℕ))
    (asked : Asked) (input : Input) : Type 0 where
  pub columns_file : IsFile remaining columns input.columns
  pub jobs_file : IsWhole jobs input.jobs
  pub asked_for : input.asked ≡ asked

-- the count of failures of an optional reader has risen; the second is the reader as the call leaves it
abbrev pub HasRisenThere : {C : Type 0} → (C → ℕ) → Option (MutBor C) → Unit {0} ⊎ ((MutBor C × Unit {0}) ⊎ ⊥) → Type 0
HasRisenThere failures (Some before) (inr (inl after)) = HasRisen (failures before.now) (failures after.0.now)
HasRisenThere failures before after = ⊥

-- an optional reader is at its end, if there is one; the second is the reader as the call leaves it
abbrev pub IsAtEndThere : {C : Type 0} → (C → Option (List ℕ)) → Option (MutBor C)
    → Unit {0} ⊎ ((MutBor C × Unit {0}) ⊎ ⊥) → Type 0
IsAtEndThere remaining None after = ⊤
IsAtEndThere remaining (Some before) (inr (inl after)) = IsAtEnd (remaining after.0.now)
IsAtEndThere remaining (Some before) after = ⊥

-- this holds of a job file that a reader has left, with any column file that gives these columns, and with what is
-- asked for
abbrev pub HoldsWith : List NamedColumn → Option (List ℕ) → Asked → (Input → Type 0) → Type 0
HoldsWith columns jobs asked P =
    (bytes : List ℕ) × IsWhole jobs bytes
    × ((file : Option (List ℕ)) → columns_by (form_for asked bytes) file ≡ Ok columns
    → P (record { columns = file; jobs = bytes; asked = asked }))

-- this holds of the column file and the job file that two readers have left, and with what is asked for
abbrev pub HoldsOver : Option (List ℕ) → Option (List ℕ) → Asked → (Input → Type 0) → Type 0
HoldsOver columns jobs asked P =
    (file : List ℕ) × IsWhole columns file × (bytes : List ℕ) × IsWhole jobs bytes
    × P (record { columns = Some file; jobs = bytes; asked = asked })

-- the answer of a run over these readers, what is asked for, and a writer that held these bytes before and
-- those after: the report was written, or a fault says why not
abbrev pub IsAnswered : {C X : Type 0} → (C → Option (List ℕ)) → Option (MutBor C) → Option (List ℕ) → Asked
    → Option (List ℕ) → Option (List ℕ) → Result X EngineFault → Type 0
IsAnswered remaining columns jobs asked before after answer =
    OnOk answer ((input : Input) × IsGiven remaining columns jobs asked input × Reported input before after)
    × IfErr answer (λ fault. (input : Input) × IsGiven remaining columns jobs asked input
    × Faulted input before after fault)

-- a reader or a writer: the bytes that it has left, or holds, if it is known which these are, and how often it failed
pub record CountedBytes : Type 0 where
  pub bytes : Option (List ℕ)
  pub failures : ℕ

-- the bytes and the failures of a reader or a writer
abbrev pub counted : {A : Type 0} → (A → Option (List ℕ)) → (A → ℕ) → A → CountedBytes
counted bytes failures x = record { bytes = bytes x; failures = failures x }

-- a writer took all of a report, or a fault says how much of it; without a report its fault came back, and nothing was
-- written
abbrev pub IsSent : {X : Type 0} → Result (List ℕ) EngineFault → CountedBytes → CountedBytes → Result X EngineFault
    → Type 0
IsSent (Ok report) before after (Ok x) = Appends before.bytes after.bytes report
IsSent (Ok report) before after (Err fault) =
    IsCutShort report before.bytes after.bytes fault × HasRisen before.failures after.failures
IsSent (Err fault) before after (Ok x) = ⊥
IsSent (Err fault) before after (Err back) =
    (back ≡ fault) × Keeps before.bytes after.bytes × (after.failures ≡ before.failures)

-- what a run leaves of the reader of jobs and of its writer, after this answer: after a report the job file is read up;
-- after the refusal of a column file that is read first it is as it was; if no write failed nothing was written; and a
-- failed read or write was counted
pub record IsLeft {X : Type 0} (asked : Asked) (jobs jobs_after writer writer_after : CountedBytes)
    (answer : Result X EngineFault) : Type 0 where
  pub read_up : OnOk answer (IsAtEnd jobs_after.bytes)
  pub unread : reads_by_jobs asked ≡ false
      → IfErr answer (λ fault. (cause : ColumnFault) → fault ≡ Columns cause
      → (jobs_after.bytes ≡ jobs.bytes) × (jobs_after.failures ≡ jobs.failures))
  pub unwritten : IfErr answer (λ fault. ((n : ℕ) → fault ≢ Write n) → Keeps writer.bytes writer_after.bytes)
  pub untouched : IfErr answer (λ fault. ((n : ℕ) → fault ≢ Write n) → writer_after.failures ≡ writer.failures)
  pub read_failed : IfErr answer (λ fault. fault ≡ JobsRead → HasRisen jobs.failures jobs_after.failures)
  pub write_failed : IfErr answer (λ fault. (n : ℕ) → fault ≡ Write n → HasRisen writer.failures writer_after.failures)
