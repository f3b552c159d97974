use Rattle.batch_eval.proofs.PowerLemmas.{exponent_by_zeros, power_by_zeros, powers_are_positive}
use Rattle.std.proofs.Common.{arith}
use Rattle.batch_eval.proofs.power.exponent_of.Goals as goal
use Rattle.batch_eval.proofs.power.exponent_of.Goals.{else-y-gt0-via-then-y-gt0+then-exponent-lt-POWERS+else-exponent-cast_unsigned}
use Rattle.batch_eval.proofs.power.exponent_of.Goals.{else-y-gt0-via-then-y-gt0+else-exponent-lt-POWERS}
use Rattle.batch_eval.proofs.power.exponent_of.Goals.{else-y-gt0-via-else-y-gt0}

pub returns-else-y-gt0 : goal.returns-else-y-gt0
returns-else-y-gt0 c = λ k below is.
    let y = c.args.y in
    let f = c.ranges.y in
    let e = c.trailing_zeros-exponent.result in
    let zeros = c.trailing_zeros-exponent.ensures in
    elim c.else-y-gt0.branch [
      | else-y-gt0-via-then-y-gt0+then-exponent-lt-POWERS+else-exponent-cast_unsigned w ↦
          w.if-exponent-cast_unsigned.false
          (power_by_zeros y k e w.cast_unsigned.result f below is zeros w.cast_unsigned.ensures)
      | else-y-gt0-via-then-y-gt0+else-exponent-lt-POWERS w ↦
          omega (arith, below, w.if-exponent-lt-POWERS.false, exponent_by_zeros y k e f below is zeros)
      | else-y-gt0-via-else-y-gt0 w ↦ powers_are_positive y k f is w.if-y-gt0.false
    ]
