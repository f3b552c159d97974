-- Condition: where in a run its faults come.
use Rattle.std.specs.Prelude.{◌≡◌, ◌<◌, ⊤, ℕ, List, Option, length, take}
use Rattle.std.specs.Io.KnownBytes.{Appends}
use Rattle.engine.specs.declared.fault.EngineFault.{EngineFault}
use Rattle.engine.specs.declared.fault.EngineFault.TheVariants.{Columns, Jobs, JobsRead, NoMemory, Write}

-- neither a refused column file nor a failed write
abbrev pub IsEarly : EngineFault → Type 0
IsEarly (Columns f) = ⊥
IsEarly (Write n) = ⊥
IsEarly (Jobs f) = ⊤
IsEarly JobsRead = ⊤
IsEarly NoMemory = ⊤

-- a read of the job file failed, or memory for it was refused
abbrev pub IsUnread : EngineFault → Type 0
IsUnread (Columns f) = ⊥
IsUnread (Write n) = ⊥
IsUnread (Jobs f) = ⊥
IsUnread JobsRead = ⊤
IsUnread NoMemory = ⊤

-- a write failed, after which a writer that held these bytes before and those after took the first bytes of a report
abbrev pub IsCutShort : List ℕ → Option (List ℕ) → Option (List ℕ) → EngineFault → Type 0
IsCutShort report before after fault = (n : ℕ) × (fault ≡ Write n) × (n < length report)
    × Appends before after (take n report)
