use Rattle.std.proofs.Common.{◌∙◌, ap, arith, sym, ◌*◌}
use Rattle.std.proofs.Math.Nat.{mul_comm}
use Rattle.columns.proofs.DecimalLemmas.{power_after, power_more}
use Rattle.columns.proofs.decimals.times_ten.Goals as goal

pub returns-then-value-ge-TOO_LARGE_FOR_MORE-clause-none :
    goal.returns-then-value-ge-TOO_LARGE_FOR_MORE-clause-none
returns-then-value-ge-TOO_LARGE_FOR_MORE-clause-none c =
    omega (
      arith,
      c.if-value-ge-TOO_LARGE_FOR_MORE.true,
      c.loop.invariant,
      power_after c.args.number c.loop.counter c.args.count c.loop-test.true,
    )

pub loop-preserved : goal.loop-preserved
loop-preserved c = ap (λ v. v * 10) c.loop.invariant ∙ mul_comm _ 10 ∙ sym (power_more c.args.number c.loop.counter)
