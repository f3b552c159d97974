-- The values of a range in 64 bits.
use Rattle.std.proofs.Common.{◌≡◌, ℕ, zero, suc, [], ◌∷◌, ◌+◌, ◌<◌, ◌≤◌, ◌^◌, ℤ, pos, ◌+ℤ◌, FitsSigned, to_z, of_z, w64}
use Rattle.std.proofs.Common.{refl, ap, subst, ◌∙◌, arith, Some, List, length, get_or}
use Rattle.std.specs.List.{slice_get}
use Rattle.std.proofs.Math.IntN.{+ℤ_idr}
use Rattle.std.proofs.lemmas.Int.{to_z-of_z, to_z_pos}
use Rattle.std.proofs.lemmas.Option.{slice_get-get_or}
use Rattle.lambda_values.specs.declared.item.Item.{Item}
use Rattle.trace.specs.Cover.{counted, placed}
use Rattle.trace.specs.Stages.{at_place}
use Rattle.trace.proofs.Sources.{counted_at, placed_at, length-placed, length-counted}

pub small : (n c : ℕ) → n < c → c ≤ 2 ^ 62 → FitsSigned w64 (pos n)
small n c below few = record { sfits = omega (arith, below, few) }

first_fits : (a : ℤ) (n c : ℕ) → ((i : ℕ) → i < c → FitsSigned w64 (a +ℤ pos i)) → n < c → FitsSigned w64 a
first_fits a n c all below = subst (FitsSigned w64) (+ℤ_idr a) (all 0 (omega (arith, below)))

pub sum_is : (a : ℤ) (n c : ℕ) → ((i : ℕ) → i < c → FitsSigned w64 (a +ℤ pos i)) → n < c → c ≤ 2 ^ 62
    → to_z w64 (of_z w64 a) +ℤ to_z w64 n ≡ a +ℤ pos n
sum_is a n c all below few =
    let low : n < 2 ^ 63 = omega (arith, below, few) in
    rw (to_z-of_z w64 a (first_fits a n c all below), to_z_pos w64 n low) refl

-- the value at a position, computed in 64 bits
pub sum_fits : (a : ℤ) (n c : ℕ) → ((i : ℕ) → i < c → FitsSigned w64 (a +ℤ pos i)) → n < c → c ≤ 2 ^ 62
    → to_z w64 (of_z w64 (to_z w64 (of_z w64 a) +ℤ to_z w64 n)) ≡ a +ℤ pos n
sum_fits a n c all below few =
    ap (λ (z : ℤ). to_z w64 (of_z w64 z)) (sum_is a n c all below few) ∙ to_z-of_z w64 (a +ℤ pos n) (all n below)

-- the item at a position of values at places
pub placed_get : (o : ℕ) (vs : List ℤ) (n : ℕ) (z v : ℤ) → n < length vs → get_or vs n z ≡ v
    → slice_get (placed o vs) n ≡ Some (record { origin = o + n; value = v })
placed_get o vs n z v within is =
    let x : Item = record { origin = n; value = v } in
    slice_get-get_or (placed o vs) n x (rw (length-placed o vs) within)
    ∙ ap (λ (y : Item). Some y) (placed_at o vs n x z within)
    ∙ ap (λ (u : ℤ). let y : Item = record { origin = o + n; value = u } in Some y) is

-- the item at a position of integers that count up, at places
pub counted_get : (o : ℕ) (a : ℤ) (c n : ℕ) → n < c
    → slice_get (placed o (counted a c)) n ≡ Some (record { origin = o + n; value = a +ℤ pos n })
counted_get o a c n within =
    let v : ℤ = a +ℤ pos n in
    placed_get o (counted a c) n v v (rw (length-counted a c) within) (counted_at a c n v within)

pub length-at_place : (i : ℕ) (vs : List ℤ) → length (at_place i vs) ≡ length vs
length-at_place i [] = refl
length-at_place i (v ∷ vs) = ap suc (length-at_place i vs)

-- the item at a position of an inner stream
pub at_place_get : (i : ℕ) (vs : List ℤ) (n : ℕ) (z v : ℤ) → n < length vs → get_or vs n z ≡ v
    → slice_get (at_place i vs) n ≡ Some (record { origin = i; value = v })
at_place_get i [] n z v within is = absurd (omega (arith, within))
at_place_get i (u ∷ vs) zero z v within is =
    ap (λ (w : ℤ). let y : Item = record { origin = i; value = w } in Some y) is
at_place_get i (u ∷ vs) (suc n) z v within is = at_place_get i vs n z v (omega (arith, within)) is
