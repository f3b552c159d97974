-- Condition: the bytes of a report that is stored in pieces.
use Rattle.std.specs.Prelude.{ℕ, List, ◌++◌, Vec, flat_map}
use Rattle.std.specs.Global.{Global}
use Rattle.report.specs.declared.draft.Draft.{Draft}

-- the bytes of the pieces, one after the other, and then the bytes of the last one
abbrev pub bytes_of : List (Vec ℕ Global) → List ℕ → List ℕ
bytes_of pieces last = flat_map (λ piece. piece.items) pieces ++ last

-- the bytes of a draft
abbrev pub draft_bytes : Draft → List ℕ
draft_bytes draft = bytes_of draft.pieces.items draft.last.items
