use Rattle.std.proofs.Common.{◌≡◌, ℕ, pos, Some, ◌-◌, ◌<◌, ◌^◌, true, false, length, sym, ap, ◌∙◌, arith, rules}
use Rattle.lambda_values.specs.Wrap.{wrap}
use Rattle.lambda_values.proofs.Quotients.{wrap_small}
use Rattle.reduce_ops.specs.Operators.{value_of}
use Rattle.reduce_ops.specs.declared.op.Op.TheVariants.{Sum}
use Rattle.batch_eval.specs.Lanes.{at}
use Rattle.batch_eval.specs.Batches.{flagged_values, holds}
use Rattle.batch_eval.specs.LaneValues.{value_at}
use Rattle.prefix_walks.specs.Batches.{folded_values}
use Rattle.prefix_walks.proofs.FlaggedFolds.{ones_folded, passed_set, values_unset}
use Rattle.prefix_walks.proofs.folding.count_flagged.Goals.{then-holds, else-holds}
use Rattle.prefix_walks.proofs.folding.count_flagged.Goals as goal

pub loop-lane-preserved : goal.loop-lane-preserved
loop-lane-preserved c =
    let values = value_at c.args.lanes.values in
    let flags = c.args.lanes.flags.now in
    let set = holds c.args.lanes.set in
    let n = c.loop-lane.lane in
    let so_far = c.loop-lane.invariant in
    let flag : c.holds.result ≡ set (at flags n) = search rules in
    record {
      missed = elim c.if-holds.branch [
        | then-holds w ↦
            let passed : set (at flags n) ≡ true = sym flag ∙ w.if-holds.true in
            omega (arith, w.missed-is, so_far.missed, passed_set set values flags n passed)
        | else-holds w ↦
            let unset : set (at flags n) ≡ false = sym flag ∙ w.if-holds.false in
            omega (arith, w.missed-is, so_far.missed, ap length (values_unset set values flags n unset))
      ];
      within = elim c.if-holds.branch [
        | then-holds w ↦ omega (arith, w.missed-is, so_far.within)
        | else-holds w ↦ omega (arith, w.missed-is, so_far.within)
      ];
    }

pub returns-else-missed-flags : goal.returns-else-missed-flags
returns-else-missed-flags c =
    let values = value_at c.args.lanes.values in
    let flags = c.args.lanes.flags.now in
    let set = holds c.args.lanes.set in
    let n = c.loop-lane.lane in
    let whole : n ≡ length flags = omega (arith, c.loop-lane-test.false, c.loop-lane.auto.lane-end) in
    let vs = flagged_values set values flags n in
    let passed : length flags - c.loop-lane.missed ≡ length vs = omega (arith, whole, c.loop-lane.invariant.missed) in
    let some : 0 < length vs = omega (arith, whole, c.loop-lane.invariant.missed, c.if-missed-flags.false) in
    let bound : length flags < 2 ^ 64 = search rules in
    let number = wrap_small (pos (length flags - c.loop-lane.missed)) (omega (arith, bound)) in
    ap Some (sym number ∙ ap (λ (m : ℕ). wrap (pos m)) passed) ∙ ones_folded vs some
    ∙ ap (λ (m : ℕ). folded_values (value_of Sum) true (flagged_values set values flags m)) whole
