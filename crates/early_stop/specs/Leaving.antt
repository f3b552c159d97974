-- Design: when pieces of a source may be left unwalked in part.
use Rattle.std.specs.Prelude.{◌≡◌, ◌⊎◌, ℕ, ◌-◌}
use Rattle.trace.specs.Trace.{Trace, append}
use Rattle.early_stop.specs.Decisive.{BeginsAs}

-- after these two walks nothing that follows changes the outcome
abbrev pub IsSettledAfter : {O : Type 0} → (Trace → O) → Trace → Trace → Type 0
IsSettledAfter close a t = (b c : Trace) → close (append (append a t) b) ≡ close (append (append a t) c)

-- after this walk nothing that follows changes the outcome, whatever came before it
abbrev pub IsSettled : {O : Type 0} → (Trace → O) → Trace → Type 0
IsSettled close t = (a : Trace) → IsSettledAfter close a t

-- t describes the piece s that begins at this place: it is s, at least up to a place that decides
abbrev pub IsEnough : (ℕ → Type 0) → ℕ → Trace → Trace → Type 0
IsEnough decides at s t = (t ≡ s) ⊎ ((c : ℕ) × decides c × BeginsAs (c - at) s t)
