-- Design: places of a source that decide what a segment gives.
use Rattle.std.specs.Prelude.{◌≡◌, ◌≢◌, ℕ, ◌<◌, ◌≤◌, length, take}
use Rattle.trace.specs.Trace.{Trace}

-- the greatest u64, which says that no place is known
abbrev pub no_place : ℕ
no_place = 18446744073709551615

-- t begins with the first c items of s; if s has fewer than c, it is s, with its end
abbrev pub BeginsAs : ℕ → Trace → Trace → Type 0
BeginsAs c s t = (c ≤ length s.items → take c t.items ≡ take c s.items) × (length s.items < c → t ≡ s)

-- every walk that begins with the first c items of the source gives what the source gives
abbrev pub Decides : {O : Type 0} → (Trace → O) → Trace → ℕ → Type 0
Decides outcome source c = (t : Trace) → BeginsAs c source t → outcome t ≡ outcome source

-- every walk that begins with the first c items of the source gives what the source gives; or no place is known
abbrev pub IsDecisive : {O : Type 0} → (Trace → O) → Trace → ℕ → Type 0
IsDecisive outcome source c = c ≢ no_place → Decides outcome source c
