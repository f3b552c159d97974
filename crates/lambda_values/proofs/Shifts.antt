-- Shifts as products and quotients by powers of two.
use Rattle.std.proofs.Common.{◌≡◌, ℕ, ◌*◌, ◌/◌, ◌%◌, ◌<◌, ◌^◌, ap, sym, arith, ℤ, pos, ◌*ℤ◌, FitsSigned, to_z, of_z}
use Rattle.std.proofs.Common.{w64, ◌∙◌}
use Rattle.std.proofs.lemmas.Int.{int_wrap-mul_right, to_z-of_z, wrapping_mul-bits}
use Rattle.std.proofs.lemmas.Nat.{pow_below, shr_le}
use Rattle.lambda_values.proofs.Quotients.{wrap_small}
use Rattle.lambda_values.specs.Wrap.{wrap}

pub shift_left_wraps : (x : ℤ) (k : ℕ) → of_z w64 x < 2 ^ 64 → FitsSigned w64 x → k < 64
    → to_z w64 ((of_z w64 x * 2 ^ k) % 2 ^ 64) ≡ wrap (x *ℤ pos (2 ^ k))
shift_left_wraps x k small f low =
    let power : 2 ^ k < 2 ^ 64 = pow_below k 64 low in
    wrapping_mul-bits w64 (of_z w64 x) (2 ^ k) small power ∙ ap (λ v. wrap (v *ℤ to_z w64 (2 ^ k))) (to_z-of_z w64 x f)
    ∙ ap (λ v. wrap (x *ℤ v)) (sym (wrap_small (pos (2 ^ k)) power)) ∙ int_wrap-mul_right w64 x (pos (2 ^ k))

pub shift_right_wraps : (x : ℤ) (k : ℕ) → of_z w64 x < 2 ^ 64
    → to_z w64 (of_z w64 x / 2 ^ k) ≡ wrap (pos (of_z w64 x / 2 ^ k))
shift_right_wraps x k small = sym (wrap_small (pos (of_z w64 x / 2 ^ k)) (omega (arith, shr_le (of_z w64 x) k, small)))
