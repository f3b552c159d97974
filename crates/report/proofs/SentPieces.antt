-- What went out of a report that is written piece by piece.
use Rattle.std.proofs.Common.{◌≡◌, ◌+◌, ◌^◌, ◌<◌, ◌≤◌, ◌∷◌, ◌++◌, ◌∙◌, [], ℕ, zero, suc, List, Vec, Global, Option}
use Rattle.std.proofs.Common.{Some, None, Result, Ok, Err, IfErr, flat_map, refl, sym, ap, subst, arith, append_assoc}
use Rattle.std.proofs.Common.{append-nil, length, length-append, take, drop, get_or, take-add, take_all, take_at}
use Rattle.std.proofs.Common.{drop_at}
use Rattle.std.proofs.lemmas.List.{take-append-le}
use Rattle.std.specs.Io.KnownBytes.{Appends}
use Rattle.counted_io.specs.declared.counted_write.WriteFault.{WriteFault}
use Rattle.report.specs.Pieces.{bytes_of}

-- the bytes of pieces
abbrev pub joined_bytes : List (Vec ℕ Global) → List ℕ
joined_bytes pieces = flat_map (λ piece. piece.items) pieces

-- the pieces before one, that one, and those after it
pieces_at : (pieces : List (Vec ℕ Global)) (i : ℕ) (p : Vec ℕ Global) → i < length pieces → p ≡ get_or pieces i p
    → joined_bytes pieces ≡ joined_bytes (take i pieces) ++ (p.items ++ joined_bytes (drop (i + 1) pieces))
pieces_at [] i p below here = absurd (omega arith)
pieces_at (q ∷ pieces) zero p below here = rw here refl
pieces_at (q ∷ pieces) (suc i) p below here =
    let next : suc i + 1 ≡ suc (i + 1) = omega arith in
    rw next (ap (λ t. q.items ++ t) (pieces_at pieces i p (omega arith) here)
    ∙ sym (append_assoc q.items (joined_bytes (take i pieces)) (p.items ++ joined_bytes (drop (i + 1) pieces))))

-- a report's bytes: the pieces before one, that one, and the pieces after it
report_at : (pieces : List (Vec ℕ Global)) (last : List ℕ) (i : ℕ) (p : Vec ℕ Global) → i < length pieces
    → p ≡ get_or pieces i p
    → bytes_of pieces last ≡ joined_bytes (take i pieces) ++ (p.items ++ (joined_bytes (drop (i + 1) pieces) ++ last))
report_at pieces last i p below here =
    let before = joined_bytes (take i pieces) in
    let after = joined_bytes (drop (i + 1) pieces) in
    ap (λ t. t ++ last) (pieces_at pieces i p below here) ∙ append_assoc before (p.items ++ after) last
    ∙ ap (λ t. before ++ t) (append_assoc p.items after last)

-- a `u64` counts the bytes up to the end of a piece
pub counted_to : (pieces : List (Vec ℕ Global)) (last : List ℕ) (i : ℕ) (p : Vec ℕ Global) → i < length pieces
    → p ≡ get_or pieces i p → length (bytes_of pieces last) < 2 ^ 64
    → length (joined_bytes (take i pieces)) + length p.items < 2 ^ 64
counted_to pieces last i p below here counted =
    let before = joined_bytes (take i pieces) in
    let rest = joined_bytes (drop (i + 1) pieces) ++ last in
    omega (
      arith,
      counted,
      ap length (report_at pieces last i p below here),
      length-append before (p.items ++ rest),
      length-append p.items rest,
    )

Appends-both : (a b c : Option (List ℕ)) (xs ys : List ℕ) → Appends a b xs → Appends b c ys → Appends a c (xs ++ ys)
Appends-both None b c xs ys p q = tt
Appends-both (Some l) None c xs ys p q = absurd p
Appends-both (Some l) (Some m) None xs ys p q = absurd q
Appends-both (Some l) (Some m) (Some n) xs ys p q = q ∙ ap (λ r. r ++ ys) p ∙ append_assoc l xs ys

-- some bytes went out, and then the first n of the next ones
sent_some : (a b c : Option (List ℕ)) (before next after : List ℕ) (w n : ℕ) → w ≡ length before + n → n < length next
    → Appends a b before → Appends b c (take n next)
    → Appends a c (take w (before ++ (next ++ after))) × (w < length (before ++ (next ++ after)))
sent_some a b c before next after w n is below sent more =
    let first : take w (before ++ (next ++ after)) ≡ before ++ take n next =
    ap (λ k. take k (before ++ (next ++ after))) is ∙ take-add (length before) n (before ++ (next ++ after))
    ∙ ap (λ t. t ++ take n (drop (length before) (before ++ (next ++ after))))
    (take_at before (next ++ after) (length before) refl)
    ∙ ap (λ t. before ++ take n t) (drop_at before (next ++ after) (length before) refl)
    ∙ ap (λ t. before ++ t) (take-append-le n next after (omega arith)) in (
      subst (Appends a c) (sym first) (Appends-both a b c before (take n next) sent more),
      omega (arith, is, below, length-append before (next ++ after), length-append next after),
    )

-- a write of a piece failed
pub sent_in_piece : (a b c : Option (List ℕ)) (pieces : List (Vec ℕ Global)) (last whole bytes : List ℕ) (i : ℕ)
    (p : Vec ℕ Global) (written w : ℕ) → i < length pieces
    → p ≡ get_or pieces i p → bytes ≡ p.items → bytes_of pieces last ≡ whole
    → written ≡ length (joined_bytes (take i pieces)) → Appends a b (joined_bytes (take i pieces))
    → ((n : ℕ) × (w ≡ written + n) × (n < length bytes) × Appends b c (take n bytes))
    → Appends a c (take w whole) × (w < length whole)
sent_in_piece a b c pieces last whole bytes i p written w inside here are all is sent (n, at, below, more) =
    let some = sent_some a b c (joined_bytes (take i pieces)) bytes (joined_bytes (drop (i + 1) pieces) ++ last) w n
    (at ∙ ap (λ k. k + n) is) below sent more in
    let same : joined_bytes (take i pieces) ++ (bytes ++ (joined_bytes (drop (i + 1) pieces) ++ last)) ≡ whole =
    ap (λ t. joined_bytes (take i pieces) ++ (t ++ (joined_bytes (drop (i + 1) pieces) ++ last))) are
    ∙ sym (report_at pieces last i p inside here) ∙ all in
    subst (λ t. Appends a c (take w t) × (w < length t)) same some

-- a write of what comes after the pieces failed, if one did
pub sent_in_last : {T : Type 0} (a b c : Option (List ℕ)) (pieces : List (Vec ℕ Global)) (last whole : List ℕ)
    (i written : ℕ) (r : Result T WriteFault) → length pieces ≤ i
    → bytes_of pieces last ≡ whole → written ≡ length (joined_bytes (take i pieces))
    → Appends a b (joined_bytes (take i pieces))
    → IfErr r (λ fault. (n : ℕ) × (fault.written ≡ written + n) × (n < length last) × Appends b c (take n last))
    → IfErr r (λ fault. Appends a c (take fault.written whole))
sent_in_last a b c pieces last whole i written (Ok t) end all is sent err = tt
sent_in_last a b c pieces last whole i written (Err fault) end all is sent (n, at, below, more) =
    let before = joined_bytes (take i pieces) in
    let some = sent_some a b c before last [] fault.written n (at ∙ ap (λ k. k + n) is) below sent more in
    let same : before ++ (last ++ []) ≡ whole =
    ap (λ t. before ++ t) (append-nil last) ∙ ap (λ ps. bytes_of ps last) (take_all i pieces end) ∙ all in
    subst (λ t. Appends a c (take fault.written t)) same some.0
