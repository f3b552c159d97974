-- What 64 bits keep of an integer differs from it by a multiple of 2^64.
use Rattle.std.proofs.Common.{◌≡◌, ℕ, suc, ◌+◌, ◌-◌, ◌*◌, ◌/◌, ◌%◌, ◌^◌, ◌<◌, ◌≤◌, ap, sym, ◌∙◌, arith, ℤ, pos, negsuc}
use Rattle.std.proofs.Common.{neg_ℤ, FitsSigned, w64, ⊎_elim}
use Rattle.std.specs.Prelude.{◌+ℤ◌, ◌*ℤ◌}
use Rattle.std.specs.Int.{int_wrap, cast_signed}
use Rattle.std.proofs.Math.Nat.{mod-lt, div-add-mod'}
use Rattle.std.proofs.Math.IntN.{+ℤ_idr}
use Rattle.std.proofs.Math.Facts.{to_z-neg}
use Rattle.std.proofs.lemmas.Bool.{cases_lt}
use Rattle.std.proofs.lemmas.Int.{to_z_pos, ints, int_wrap_fits, int_wrap-add_right, int_wrap-mul_right}
use Rattle.lambda_values.specs.Wrap.{wrap}

-- the difference of two multiples, as one
one_multiple : (w z : ℤ) (j k : ℕ) → w +ℤ pos (j * 2 ^ 64) ≡ z +ℤ pos (k * 2 ^ 64)
    → (i : ℤ) × (w ≡ z +ℤ i *ℤ pos (2 ^ 64))
one_multiple w z j k e = (pos k +ℤ neg_ℤ (pos j), omega (arith, ints))

-- the signed number that 64 bits encode
bits_differ : (n : ℕ) → n < 2 ^ 64 → (j : ℕ) × (cast_signed w64 n +ℤ pos (j * 2 ^ 64) ≡ pos n)
bits_differ n h = ⊎_elim
    (λ (low : n < 2 ^ 63). (0, let same = to_z_pos w64 n low in omega (arith, ints, same)))
    (λ (high : 2 ^ 63 ≤ n).
    let back : 2 ^ 64 - suc (2 ^ 64 - suc n) ≡ n = omega arith in
    let same : cast_signed w64 n ≡ negsuc (2 ^ 64 - suc n) =
    ap (cast_signed w64) (sym back) ∙ to_z-neg w64 (2 ^ 64 - suc n) (omega arith) in
    (1, ap (λ z. z +ℤ pos (1 * 2 ^ 64)) same ∙ omega (arith, ints)))
    (cases_lt n (2 ^ 63))

pub wrap_differs : (z : ℤ) → (k : ℤ) × (wrap z ≡ z +ℤ k *ℤ pos (2 ^ 64))
unfolding int_wrap
wrap_differs (pos a) =
    let r = bits_differ (a % 2 ^ 64) (mod-lt a (omega arith)) in
    one_multiple (wrap (pos a)) (pos a) (r.0 + a / 2 ^ 64) 0 (omega (arith, ints, r.1, div-add-mod' a (2 ^ 64)))
wrap_differs (negsuc a) =
    let small : a % 2 ^ 64 < 2 ^ 64 = mod-lt a (omega arith) in
    let r = bits_differ (2 ^ 64 - 1 - a % 2 ^ 64) (omega arith) in
    one_multiple (wrap (negsuc a)) (negsuc a) r.0 (a / 2 ^ 64 + 1) (omega (arith, ints, r.1, div-add-mod' a (2 ^ 64)))

-- a multiple of 2^64 is wrapped to 0
multiple_gone : (k : ℤ) → wrap (k *ℤ pos (2 ^ 64)) ≡ pos 0
unfolding int_wrap
multiple_gone k = sym (int_wrap-mul_right w64 k (pos (2 ^ 64))) ∙ ap wrap (zero_product k)
  where
    zero_product : (k : ℤ) → k *ℤ pos 0 ≡ pos 0
    zero_product (pos n) = omega (arith, ints)
    zero_product (negsuc n) = omega (arith, ints)

pub wrap_only : (z k : ℤ) → FitsSigned w64 (z +ℤ k *ℤ pos (2 ^ 64)) → wrap z ≡ z +ℤ k *ℤ pos (2 ^ 64)
unfolding int_wrap
wrap_only z k f =
    let m = k *ℤ pos (2 ^ 64) in
    ap wrap (sym (+ℤ_idr z)) ∙ ap (λ y. wrap (z +ℤ y)) (sym (multiple_gone k)) ∙ int_wrap-add_right w64 z m
    ∙ int_wrap_fits w64 (z +ℤ m) f
