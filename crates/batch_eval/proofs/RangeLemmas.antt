-- Values at places that count up, from a position on.
use Rattle.std.proofs.Common.{◌≡◌, ℕ, zero, suc, ◌+◌, ◌-◌, ◌≤◌, ℤ, pos, ◌+ℤ◌, List, [], ◌∷◌, take, drop, refl, sym, ap}
use Rattle.std.proofs.Common.{◌∙◌, arith}
use Rattle.std.proofs.lemmas.Int.{ints}
use Rattle.lambda_values.specs.declared.item.Item.{Item}
use Rattle.trace.specs.Cover.{counted, placed}

take_of_none : {A : Type 0} (n : ℕ) → let empty : List A = [] in take n empty ≡ empty
take_of_none zero = refl
take_of_none (suc n) = refl

drop_of_none : {A : Type 0} (n : ℕ) → let empty : List A = [] in drop n empty ≡ empty
drop_of_none zero = refl
drop_of_none (suc n) = refl

pub drop_placed : (n o : ℕ) (vs : List ℤ) → drop n (placed o vs) ≡ placed (o + n) (drop n vs)
drop_placed n o [] = drop_of_none n ∙ sym (ap (placed (o + n)) (drop_of_none n))
drop_placed zero o (v ∷ vs) = let e : o ≡ o + 0 = omega arith in ap (λ (m : ℕ). placed m (v ∷ vs)) e
drop_placed (suc n) o (v ∷ vs) = drop_placed n (suc o) vs
    ∙ (let e : suc o + n ≡ o + suc n = omega arith in ap (λ (m : ℕ). placed m (drop n vs)) e)

pub take_placed : (n o : ℕ) (vs : List ℤ) → take n (placed o vs) ≡ placed o (take n vs)
take_placed n o [] = take_of_none n ∙ sym (ap (placed o) (take_of_none n))
take_placed zero o (v ∷ vs) = refl
take_placed (suc n) o (v ∷ vs) = ap (λ (xs : List Item). record { origin = o; value = v } ∷ xs)
    (take_placed n (suc o) vs)

-- integers that count up, from a position on
pub drop_counted : (n : ℕ) (a : ℤ) (c : ℕ) → drop n (counted a c) ≡ counted (a +ℤ pos n) (c - n)
drop_counted n a zero = let e : 0 - n ≡ 0 = omega arith in drop_of_none n ∙ sym (ap (counted (a +ℤ pos n)) e)
drop_counted zero a (suc c) = let e : a ≡ a +ℤ pos 0 = omega (arith, ints) in let k : suc c ≡ suc c - 0 = omega arith in
    ap (λ b. counted b (suc c)) e ∙ ap (counted (a +ℤ pos 0)) k
drop_counted (suc n) a (suc c) =
    let e : (a +ℤ pos 1) +ℤ pos n ≡ a +ℤ pos (suc n) = omega (arith, ints) in
    let k : c - n ≡ suc c - suc n = omega arith in
    drop_counted n (a +ℤ pos 1) c ∙ ap (λ b. counted b (c - n)) e ∙ ap (counted (a +ℤ pos (suc n))) k

pub take_counted : (n : ℕ) (a : ℤ) (c : ℕ) → n ≤ c → take n (counted a c) ≡ counted a n
take_counted zero a zero h = refl
take_counted zero a (suc c) h = refl
take_counted (suc n) a zero h = absurd (omega arith)
take_counted (suc n) a (suc c) h = ap (λ (vs : List ℤ). a ∷ vs) (take_counted n (a +ℤ pos 1) c (omega arith))

-- a piece of a range
pub counted_piece : (a : ℤ) (n start count : ℕ) → start + count ≤ n
    → take count (drop start (counted a n)) ≡ counted (a +ℤ pos start) count
counted_piece a n start count h = ap (take count) (drop_counted start a n)
    ∙ take_counted count (a +ℤ pos start) (n - start) (omega arith)
