-- The items of a source, by their place.
use Rattle.std.proofs.Common.{◌≡◌, ℕ, zero, suc, ◌+◌, ◌<◌, ℤ, pos, ◌+ℤ◌, List, [], ◌∷◌, length, get_or, refl, sym, ap}
use Rattle.std.proofs.Common.{◌∙◌, arith, add-zero}
use Rattle.std.proofs.lemmas.Int.{ints}
use Rattle.lambda_values.specs.declared.item.Item.{Item}
use Rattle.trace.specs.Cover.{counted, placed}

pub length-counted : (a : ℤ) (n : ℕ) → length (counted a n) ≡ n
length-counted a zero = refl
length-counted a (suc n) = ap suc (length-counted (a +ℤ pos 1) n)

pub length-placed : (i : ℕ) (vs : List ℤ) → length (placed i vs) ≡ length vs
length-placed i [] = refl
length-placed i (v ∷ vs) = ap suc (length-placed (suc i) vs)

-- the value at a place of a range
pub counted_at : (a : ℤ) (n k : ℕ) (z : ℤ) → k < n → get_or (counted a n) k z ≡ a +ℤ pos k
counted_at a zero k z within = absurd (omega (arith, within))
counted_at a (suc n) zero z within = omega (arith, ints)
counted_at a (suc n) (suc k) z within =
    let later : get_or (counted (a +ℤ pos 1) n) k z ≡ (a +ℤ pos 1) +ℤ pos k =
    counted_at (a +ℤ pos 1) n k z (omega arith) in
    later ∙ omega (arith, ints)

abbrev item_at : ℕ → ℤ → Item
item_at j v = record { origin = j; value = v }

-- the item at a place of a source
pub placed_at : (i : ℕ) (vs : List ℤ) (k : ℕ) (d : Item) (z : ℤ) → k < length vs
    → get_or (placed i vs) k d ≡ record { origin = i + k; value = get_or vs k z }
placed_at i [] k d z within = absurd (omega (arith, within))
placed_at i (v ∷ vs) zero d z within = ap (λ (j : ℕ). item_at j v) (sym (add-zero i))
placed_at i (v ∷ vs) (suc k) d z within =
    let same : suc i + k ≡ i + suc k = omega arith in
    placed_at (suc i) vs k d z (omega arith) ∙ ap (λ (j : ℕ). item_at j (get_or vs k z)) same
