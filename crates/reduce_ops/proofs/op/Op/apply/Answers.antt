use Rattle.std.proofs.Common.{rules, bit_and, bit_or, bit_xor}
use Rattle.std.specs.Int.Bits.{and_lt, or_lt, xor_lt}
use Rattle.std.proofs.lemmas.Int.{wraps}
use Rattle.reduce_ops.proofs.Bits.{from_bits}
use Rattle.reduce_ops.proofs.op.Op.apply.Goals as goal

pub returns-in-Sum : goal.returns-in-Sum
returns-in-Sum c = search (rules, wraps)

pub returns-in-And : goal.returns-in-And
returns-in-And c = rw c.in-And.is (from_bits bit_and (and_lt 64) c.args.left c.args.right c.ranges.left c.ranges.right)

pub returns-in-Or : goal.returns-in-Or
returns-in-Or c = rw c.in-Or.is (from_bits bit_or (or_lt 64) c.args.left c.args.right c.ranges.left c.ranges.right)

pub returns-in-Xor : goal.returns-in-Xor
returns-in-Xor c = rw c.in-Xor.is (from_bits bit_xor (xor_lt 64) c.args.left c.args.right c.ranges.left c.ranges.right)
