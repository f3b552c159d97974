-- The trace of a source, by how many values it has.
use Rattle.std.proofs.Common.{◌≡◌, ℕ, ◌<◌, ◌≤◌, ◌^◌, true, false, nat_lt, ℤ, length, refl, sym, subst, ◌∙◌, arith}
use Rattle.std.proofs.lemmas.Grind.{common_steps}
use Rattle.trace.specs.declared.item.End.TheVariants as end
use Rattle.trace.specs.Cover.{AbstractSource, range, values_of, counted, distance, placed, too_long, cover}
use Rattle.trace.specs.Trace.{trace}
use Rattle.trace.proofs.Sources.{length-counted}

above_test : (n m : ℕ) → m < n → nat_lt m n ≡ true
above_test n m more = grind (arith, common_steps)

below_test : (n m : ℕ) → n ≤ m → nat_lt m n ≡ false
below_test n m fits = grind (arith, common_steps)

pub cover_long : (s : AbstractSource) → 2 ^ 62 < length (values_of s) → cover s ≡ too_long
cover_long s more = rw (above_test (length (values_of s)) (2 ^ 62) more) refl

pub cover_short : (s : AbstractSource) → length (values_of s) ≤ 2 ^ 62
    → cover s ≡ trace (placed 0 (values_of s)) end.Done
cover_short s fits = rw (below_test (length (values_of s)) (2 ^ 62) fits) refl

pub range_long : (a b : ℤ) → 2 ^ 62 < distance a b → cover (range a b) ≡ too_long
range_long a b more = cover_long (range a b)
    (subst (λ (n : ℕ). 2 ^ 62 < n) (sym (length-counted a (distance a b))) more)

pub range_short : (a b : ℤ) (n : ℕ) → n ≡ distance a b → n ≤ 2 ^ 62
    → cover (range a b) ≡ trace (placed 0 (counted a n)) end.Done
range_short a b n same fits = subst (λ (m : ℕ). cover (range a b) ≡ trace (placed 0 (counted a m)) end.Done) (sym same)
    (cover_short (range a b) (subst (λ (m : ℕ). m ≤ 2 ^ 62) (same' a b n same) fits))
  where
    same' : (a b : ℤ) (n : ℕ) → n ≡ distance a b → n ≡ length (values_of (range a b))
    same' a b n same = same ∙ sym (length-counted a (distance a b))
