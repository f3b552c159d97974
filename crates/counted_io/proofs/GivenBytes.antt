-- What several reads gave, one after another.
use Rattle.std.proofs.Common.{◌≡◌, ◌+◌, ℕ, List, ◌++◌, Some, None, Option, take, drop, sym, ap, ◌∙◌, append_assoc}
use Rattle.std.proofs.Math.Seq.{take-add}
use Rattle.std.specs.Io.KnownBytes.{Consumes}
use Rattle.counted_io.specs.CountedRead.{HasGiven}

-- two reads in a row gave the bytes of the first and then the bytes of the second
pub Consumes-append : (a b c : Option (List ℕ)) (xs ys : List ℕ) → Consumes a b xs → Consumes b c ys
    → Consumes a c (xs ++ ys)
Consumes-append None b c xs ys p q = tt
Consumes-append (Some l) None c xs ys p q = absurd p
Consumes-append (Some l) (Some m) None xs ys p q = absurd q
Consumes-append (Some l) (Some m) (Some n) xs ys p q = p ∙ ap (λ r. xs ++ r) q ∙ sym (append_assoc xs ys n)

-- what is filled grew by n bytes of a read
pub HasGiven-filled : (a b c : Option (List ℕ)) (first old new : List ℕ) (f n : ℕ) → take f new ≡ take f old
    → HasGiven a b first (take f old) → Consumes b c (take n (drop f new)) → HasGiven a c first (take (f + n) new)
HasGiven-filled a b c first old new f n front (gone, before, is) read =
    let more = take n (drop f new) in (
      gone ++ more,
      Consumes-append a b c gone more before read,
      take-add f n new ∙ ap (λ l. l ++ more) (front ∙ is) ∙ append_assoc first gone more,
    )
