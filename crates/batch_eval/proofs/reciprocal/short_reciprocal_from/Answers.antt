use Rattle.std.proofs.Common.{◌≡◌, ◌<◌, ◌+◌, ◌-◌, ◌*◌, ◌/◌, ◌%◌, ◌^◌, ◌∙◌, ℕ, ap, arith}
use Rattle.std.proofs.lemmas.Nat.{one_shl, pow-add, pow_pos}
use Rattle.batch_eval.proofs.ReciprocalLemmas.{divides_bits, exponent_short, factor_of, factor_fits}
use Rattle.batch_eval.proofs.reciprocal.short_reciprocal_from.Goals as goal

power_is : (s : ℕ) → s < 31 → 1 * 2 ^ (32 + s) % 2 ^ 64 ≡ 2 ^ 32 * 2 ^ s
power_is s bound = one_shl (32 + s) 64 (omega (arith, bound)) ∙ pow-add 2 32 s

factor_is : (m s : ℕ) → s < 31 → (1 * 2 ^ (32 + s) % 2 ^ 64 - 1) / m + 1 ≡ factor_of m (2 ^ 32 * 2 ^ s)
factor_is m s bound = ap (λ (a : ℕ). (a - 1) / m + 1) (power_is s bound)

pub overflow_shl-below : goal.overflow_shl-below
overflow_shl-below c = omega (
  arith,
  exponent_short c.ilog2-shift.result c.args.magnitude c.ilog2-shift.ensures.power_le
      c.requires.short c.requires.above,
)

pub overflow_sub-below : goal.overflow_sub-below
overflow_sub-below c =
    let s = c.ilog2-shift.result in
    let bound = exponent_short s c.args.magnitude c.ilog2-shift.ensures.power_le c.requires.short c.requires.above in
    omega (arith, power_is s bound, pow_pos s)

pub overflow_cast-factor : goal.overflow_cast-factor
overflow_cast-factor c =
    let m = c.args.magnitude in
    let s = c.ilog2-shift.result in
    let low = c.ilog2-shift.ensures.power_le in
    let short = c.requires.short in
    let is = factor_is m s (exponent_short s m low short c.requires.above) in
    record {
      fits = omega (
        arith,
        is,
        factor_fits (2 ^ 32) m s (omega arith) c.requires.above (omega (arith, short))
            low,
      );
    }

pub returns-clause-is : goal.returns-clause-is
returns-clause-is c =
    let m = c.args.magnitude in
    let s = c.ilog2-shift.result in
    let low = c.ilog2-shift.ensures.power_le in
    let bound = exponent_short s m low c.requires.short c.requires.above in
    divides_bits 32 c.args.y m s ((1 * 2 ^ (32 + s) % 2 ^ 64 - 1) / m + 1) (omega arith) c.ranges.y c.requires.size
    c.requires.above low c.ilog2-shift.ensures.next_power_gt (omega (arith, bound)) (factor_is m s bound)
