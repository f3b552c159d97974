use Rattle.std.proofs.Common.{◌≡◌, ◌≤◌, ◌<◌, ◌+◌, ◌-◌, ◌*◌, ◌/◌, ◌%◌, ◌^◌, ◌∙◌, FitsSigned, ℕ, ℤ, ap, arith, of_z}
use Rattle.std.proofs.Common.{subst, sym, to_z, w64}
use Rattle.std.specs.Prelude.{unsigned_abs}
use Rattle.std.proofs.lemmas.Nat.{div-add-mod', one_shl, pow-add}
use Rattle.batch_eval.specs.Reciprocals.{Divides}
use Rattle.batch_eval.proofs.ReciprocalLemmas.{factor_of, factor_fits, magnitude_within, divides_bits}
use Rattle.batch_eval.proofs.reciprocal.reciprocal_from.Goals as goal

factor_is : (m s : ℕ) (n : ℕ) → s < 64 → n ≡ m → (1 * 2 ^ (64 + s) % 2 ^ 128 - 1) / n + 1 ≡ factor_of m (2 ^ 64 * 2 ^ s)
factor_is m s n bound is = ap (λ (a : ℕ). (a - 1) / n + 1)
    (one_shl (64 + s) 128 (omega (arith, bound)) ∙ pow-add 2 64 s) ∙ ap (λ (d : ℕ). (2 ^ 64 * 2 ^ s - 1) / d + 1) is

factor_within : (y : ℤ) (m s n : ℕ) → FitsSigned w64 y → m ≡ unsigned_abs y → 1 < m → 2 ^ s ≤ m - 1 → s < 64 → n ≡ m
    → (1 * 2 ^ (64 + s) % 2 ^ 128 - 1) / n + 1 < 2 ^ 64
factor_within y m s n fits size above low bound is =
    let within : m ≤ 2 ^ 63 = magnitude_within y m fits size in
    omega (arith, factor_is m s n bound is, factor_fits (2 ^ 64) m s (omega arith) above (omega (arith, within)) low)

pub overflow_cast-factor : goal.overflow_cast-factor
overflow_cast-factor c =
    let shift = c.ilog2-shift in
    record {
      fits = factor_within c.args.y c.args.magnitude shift.result c.from.result c.ranges.y c.requires.size
          c.requires.above shift.ensures.power_le shift.ensures.bound c.from.ensures;
    }

pub overflow_cast-result-2 : goal.overflow_cast-result-2
overflow_cast-result-2 c =
    let shift = c.ilog2-shift in
    record {
      fits = omega (
        arith,
        factor_within c.args.y c.args.magnitude shift.result c.from.result c.ranges.y
            c.requires.size c.requires.above shift.ensures.power_le shift.ensures.bound c.from.ensures,
      );
    }

pub returns-clause-is : goal.returns-clause-is
returns-clause-is c =
    let m = c.args.magnitude in
    let shift = c.ilog2-shift in
    let s = shift.result in
    let factor = (1 * 2 ^ (64 + s) % 2 ^ 128 - 1) / c.from.result + 1 in
    subst (λ f. Divides 64 (to_z w64 (of_z w64 c.args.y)) f s) (sym (div-add-mod' factor (2 ^ 32)))
    (divides_bits 64 c.args.y m s factor (omega arith) c.ranges.y c.requires.size c.requires.above
    shift.ensures.power_le shift.ensures.next_power_gt shift.ensures.bound
    (factor_is m s c.from.result shift.ensures.bound c.from.ensures))
