-- What several writes in a row leave.
use Rattle.std.proofs.Common.{◌+◌, ◌-◌, ◌<◌, ◌≤◌, ℕ, List, ◌++◌, Some, None, Option, length, take, drop, sym, ap, subst}
use Rattle.std.proofs.Common.{◌∙◌, append_assoc, arith}
use Rattle.std.proofs.Math.Seq.{take-add}
use Rattle.std.proofs.lemmas.List.{length-drop, take_rest}
use Rattle.std.specs.Io.KnownBytes.{Appends}

Appends-append : (a b c : Option (List ℕ)) (xs ys : List ℕ) → Appends a b xs → Appends b c ys → Appends a c (xs ++ ys)
Appends-append None b c xs ys p q = tt
Appends-append (Some l) None c xs ys p q = absurd p
Appends-append (Some l) (Some m) None xs ys p q = absurd q
Appends-append (Some l) (Some m) (Some n) xs ys p q = q ∙ ap (λ r. r ++ ys) p ∙ append_assoc l xs ys

-- the first w bytes went out, and then n of the others
pub sent_more : (a b c : Option (List ℕ)) (bytes : List ℕ) (w n : ℕ) → w < length bytes
    → n ≤ length (take (length bytes - w) (drop w bytes)) → Appends a b (take w bytes)
    → Appends b c (take n (take (length bytes - w) (drop w bytes)))
    → (w + n ≤ length bytes) × Appends a c (take (w + n) bytes)
sent_more a b c bytes w n within bound before more =
    let some : n ≤ length (drop w bytes) = subst (λ ys. n ≤ length ys) (take_rest bytes w) bound in
    let sent : Appends b c (take n (drop w bytes)) = subst (λ ys. Appends b c (take n ys)) (take_rest bytes w) more in (
      omega (arith, length-drop w bytes, some, within),
      subst (Appends a c) (sym (take-add w n bytes))
          (Appends-append a b c (take w bytes) (take n (drop w bytes)) before sent),
    )
