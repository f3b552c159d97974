-- A byte order mark at the start of a text.
use Rattle.std.proofs.Common.{◌≡◌, ◌≤◌, ◌∷◌, ◌++◌, [], ◌&&◌, ℕ, List, true, false, nat_lt, length, drop, get_or, refl}
use Rattle.std.proofs.Common.{inl, inr, arith}
use Rattle.std.proofs.lemmas.Bool.{cases_Bool}
use Rattle.std.proofs.lemmas.Bool.Decides.{nat_tests}
use Rattle.csv.specs.Reading.{is_bom, strip_bom}

pub with_mark : (bytes : List ℕ) → (nat_lt 2 (length bytes)
    && is_bom (get_or bytes 0 0) (get_or bytes 1 0) (get_or bytes 2 0)) ≡ true → drop 3 bytes ≡ strip_bom bytes
unfolding strip_bom
with_mark [] h = refl
with_mark (a ∷ []) h = cc h
with_mark (a ∷ b ∷ []) h = cc h
with_mark (a ∷ b ∷ c ∷ rest) h =
    let long : nat_lt 2 (length (a ∷ b ∷ c ∷ rest)) ≡ true = grind (arith, nat_tests) in
    rw (rw long at h) refl

pub no_mark : (bytes : List ℕ) → (nat_lt 2 (length bytes)
    && is_bom (get_or bytes 0 0) (get_or bytes 1 0) (get_or bytes 2 0)) ≡ false → bytes ≡ strip_bom bytes
unfolding strip_bom
no_mark [] h = refl
no_mark (a ∷ []) h = refl
no_mark (a ∷ b ∷ []) h = refl
no_mark (a ∷ b ∷ c ∷ rest) h =
    let long : nat_lt 2 (length (a ∷ b ∷ c ∷ rest)) ≡ true = grind (arith, nat_tests) in
    rw (rw long at h) refl

-- the mark at the start of a text is the mark at the start of its beginning
pub strip_bom-more : (bytes more : List ℕ) → 3 ≤ length bytes → strip_bom (bytes ++ more) ≡ strip_bom bytes ++ more
unfolding strip_bom
strip_bom-more [] more h = absurd (omega arith)
strip_bom-more (x ∷ []) more h = absurd (omega arith)
strip_bom-more (x ∷ y ∷ []) more h = absurd (omega arith)
strip_bom-more (x ∷ y ∷ z ∷ bytes) more h = elim (cases_Bool (is_bom x y z)) [
  | inl is ↦ rw is refl
  | inr other ↦ rw other refl
]

pub strip_bom-mark : (xs : List ℕ) → strip_bom (0xEF ∷ 0xBB ∷ 0xBF ∷ xs) ≡ xs
unfolding strip_bom
strip_bom-mark xs = refl
