use Rattle.std.proofs.Common.{◌≡◌, ◌+◌, ◌-◌, ◌++◌, ap, drop, arith, to_z-of_z}
use Rattle.std.proofs.lemmas.Fmt.{length-decimal-le}
use Rattle.std.proofs.lemmas.List.{drop-set}
use Rattle.report.proofs.NumberLemmas.{signed_minus}
use Rattle.report.proofs.numbers.put_number.Goals as goal

pub write_digits-start-requires : goal.write_digits-start-requires
write_digits-start-requires c = (
  omega (
    arith,
    length-decimal-le 19 c.unsigned_abs.result (omega arith) (omega arith) (omega arith),
    c.requires.room,
  ),
  c.requires.within,
)

pub returns-then-value-ge0-clause-short : goal.returns-then-value-ge0-clause-short
returns-then-value-ge0-clause-short c = omega
    (arith, length-decimal-le 19 c.unsigned_abs.result (omega arith) (omega arith) (omega arith))

pub overflow_sub-room : goal.overflow_sub-room
overflow_sub-room c = omega (
  arith,
  length-decimal-le 19 c.unsigned_abs.result (omega arith) (omega arith)
      (omega arith),
)

pub overflow_sub-result : goal.overflow_sub-result
overflow_sub-result c = omega (
  arith,
  length-decimal-le 19 c.unsigned_abs.result (omega arith) (omega arith)
      (omega arith),
)

pub returns-clause-short : goal.returns-clause-short
returns-clause-short c = omega (
  arith,
  length-decimal-le 19 c.unsigned_abs.result (omega arith) (omega arith)
      (omega arith),
)

pub returns-clause-put : goal.returns-clause-put
returns-clause-put c =
    let w = c.write_digits-start in
    let long = length-decimal-le 19 c.unsigned_abs.result (omega arith) (omega arith) (omega arith) in
    let next : w.result - 1 + 1 ≡ w.result = omega arith in
    let back = to_z-of_z c.ranges.value in
    rw (drop-set w.new.buf (w.result - 1) 45 (omega arith), next, w.ensures.written, c.unsigned_abs.ensures.value, back)
    (ap (λ t. t ++ drop c.args.end c.args.room.now) (signed_minus c.args.value (rw back at c.if-value-ge0.false)))
