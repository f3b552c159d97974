-- What is left of integers by powers of two, as bits, and where it is 0.
use Rattle.std.proofs.Common.{◌≡◌, ℕ, zero, suc, ◌+◌, ◌-◌, ◌*◌, ◌/◌, ◌%◌, ◌<◌, ◌≤◌, ◌^◌, ap, sym, refl}
use Rattle.std.proofs.Common.{arith, ℤ, pos, negsuc, neg_ℤ, FitsSigned, to_z, of_z, w64, ◌∙◌, int_eq, Bool}
use Rattle.std.proofs.Common.{Result, Ok, Err}
use Rattle.std.specs.Prelude.{int_rem}
use Rattle.std.specs.Int.{cast_unsigned, int_bit_and}
use Rattle.std.proofs.Math.Nat.{mod-add-div'}
use Rattle.std.proofs.Math.Pow.{pow_mono}
use Rattle.std.proofs.lemmas.Grind.{common_steps}
use Rattle.std.proofs.lemmas.Int.{to_z_pos}
use Rattle.std.proofs.lemmas.Nat.{and_mask, mod-mul-add, mod_below, pow-add, pow_pos}
use Rattle.lambda_values.specs.declared.fault.FaultKind.{FaultKind}
use Rattle.lambda_values.specs.Operators.{low_six_bits, on, remainder}
use Rattle.batch_eval.specs.NumberTests.{rest_of}
use Rattle.batch_eval.specs.Powers.{power}
use Rattle.batch_eval.proofs.PowerLemmas.{divided_by_power}

-- q parts of p less one more than d parts and r
rest_left : (p r : ℕ) → r < p → (q d : ℕ) → d * p + r < q * p → (q * p - suc (d * p + r)) % p ≡ p - suc r
rest_left p r below zero d less = absurd (omega (arith, less))
rest_left p r below (suc q) zero less =
    ap (λ (n : ℕ). n % p) (let is : suc q * p - suc (zero * p + r) ≡ q * p + (p - suc r) = omega (arith, below) in is)
    ∙ mod-mul-add q p (p - suc r) (omega (arith, below))
rest_left p r below (suc q) (suc d) less =
    ap (λ (n : ℕ). n % p)
    (let is : suc q * p - suc (suc d * p + r) ≡ q * p - suc (d * p + r) = omega arith in is)
    ∙ rest_left p r below q d (omega (arith, less))

within : (k : ℤ) → power k ≤ 2 ^ 63
within k = pow_mono {i = low_six_bits k} {j = 63} (omega (arith, mod_below (cast_unsigned w64 k) 64 (omega arith)))

parts : (k : ℤ) → 2 ^ (64 - low_six_bits k) * power k ≡ 2 ^ 64
parts k =
    let e = low_six_bits k in
    let all : (64 - e) + e ≡ 64 = omega (arith, mod_below (cast_unsigned w64 k) 64 (omega arith)) in
    sym (pow-add 2 (64 - e) e) ∙ ap (λ (n : ℕ). 2 ^ n) all

low_bits : (k z : ℤ) → FitsSigned w64 z → pos (of_z w64 z % power k) ≡ rest_of z (power k)
low_bits k (pos a) fits = refl
low_bits k (negsuc a) fits =
    let p = power k in
    let q = 2 ^ (64 - low_six_bits k) in
    let is : a / p * p + a % p ≡ a = omega (arith, mod-add-div' a p) in
    let less : a / p * p + a % p < q * p = omega (arith, is, parts k, fits.sfits) in
    ap pos (ap (λ (n : ℕ). n % p)
    (let same : 2 ^ 64 - suc a ≡ q * p - suc (a / p * p + a % p) = omega (arith, is, parts k) in same)
    ∙ rest_left p (a % p) (mod_below a p (pow_pos (low_six_bits k))) q (a / p) less)

pub rest_bits : (k z : ℤ) → FitsSigned w64 z → int_bit_and w64 z (to_z w64 (power k - 1)) ≡ rest_of z (power k)
rest_bits k z fits =
    let p = power k in
    let n = of_z w64 z in
    let mask : to_z w64 (p - 1) ≡ pos (p - 1) =
    to_z_pos w64 (p - 1) (omega (arith, within k, pow_pos (low_six_bits k))) in
    ap (int_bit_and w64 z) mask ∙ ap (to_z w64) (and_mask n (low_six_bits k))
    ∙ to_z_pos w64 (n % p) (omega (arith, within k, mod_below n p (pow_pos (low_six_bits k)))) ∙ low_bits k z fits

-- a multiple of p and one more than r
next_rest : (p d r t : ℕ) → p ≡ t + suc r
    → int_eq (neg_ℤ (pos ((d * p + suc r) % p))) (pos 0) ≡ int_eq (pos t) (pos 0)
next_rest p d r zero is =
    let all : d * p + suc r ≡ suc d * p + 0 = omega (arith, is) in
    ap (λ (n : ℕ). int_eq (neg_ℤ (pos n)) (pos 0))
    (ap (λ (n : ℕ). n % p) all ∙ mod-mul-add (suc d) p 0 (omega (arith, is)))
next_rest p d r (suc t) is =
    ap (λ (n : ℕ). int_eq (neg_ℤ (pos n)) (pos 0)) (mod-mul-add d p (suc r) (omega (arith, is)))
    ∙ grind (arith, common_steps)

zero_at : (k v : ℤ) → int_eq (int_rem v (pos (power k))) (pos 0) ≡ int_eq (rest_of v (power k)) (pos 0)
zero_at k (pos a) = refl
zero_at k (negsuc a) =
    let p = power k in
    let below : a % p < p = mod_below a p (pow_pos (low_six_bits k)) in
    let is : suc a ≡ a / p * p + suc (a % p) = omega (arith, mod-add-div' a p) in
    ap (λ (n : ℕ). int_eq (neg_ℤ (pos (n % p))) (pos 0)) is
    ∙ next_rest p (a / p) (a % p) (p - suc (a % p)) (omega (arith, below))

-- a truth that is one for all integers but 0
pub zero_seen : (f : ℤ → Bool) (k : ℤ) → ((v w : ℤ) → int_eq v (pos 0) ≡ int_eq w (pos 0) → f v ≡ f w)
    → (a : Result ℤ FaultKind) → on (on a (λ v. remainder v (pos (power k)))) (λ v. Ok (f v))
    ≡ on a (λ v. Ok (f (rest_of v (power k))))
zero_seen f k same (Err e) = refl
zero_seen f k same (Ok v) = ap (λ (r : Result ℤ FaultKind). on r (λ w. Ok (f w)))
    (divided_by_power k (int_rem v (pos (power k))))
    ∙ ap Ok (same (int_rem v (pos (power k))) (rest_of v (power k)) (zero_at k v))
