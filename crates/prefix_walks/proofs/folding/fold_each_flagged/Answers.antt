use Rattle.std.proofs.Common.{◌≡◌, ℕ, ℤ, FitsSigned, w64, Some, ◌<◌, to_z, of_z, true, false, length, sym, ap, subst}
use Rattle.std.proofs.Common.{◌∙◌, arith, rules}
use Rattle.reduce_ops.specs.Operators.{value_of}
use Rattle.batch_eval.specs.Lanes.{at}
use Rattle.batch_eval.specs.Batches.{flagged_values, holds}
use Rattle.batch_eval.specs.LaneValues.{value_at}
use Rattle.prefix_walks.specs.Batches.{each_one, folded_values}
use Rattle.prefix_walks.proofs.FlaggedFolds.{AllFit, fit_set, flagged_folded, folded_from, folded_set, folded_unset}
use Rattle.prefix_walks.proofs.FlaggedFolds.{none_folded, passed_set, values_unset}
use Rattle.prefix_walks.proofs.folding.fold_each_flagged.Goals.{then-passes, else-passes, then-passes-2, else-passes-2}
use Rattle.prefix_walks.proofs.folding.fold_each_flagged.Goals as goal

pub loop-lane-preserved : goal.loop-lane-preserved
loop-lane-preserved c =
    let values = value_at c.args.lanes.values in
    let flags = c.args.lanes.flags.now in
    let set = holds c.args.lanes.set in
    let n = c.loop-lane.lane in
    let so_far = c.loop-lane.invariant in
    let op = c.args.op in
    let counts = c.args.counts in
    let identity = to_z w64 (of_z w64 c.args.identity) in
    let folded = c.loop-lane.folded in
    let flag : c.holds-passes.result ≡ set (at flags n) = search rules in
    let fits : to_z w64 (of_z w64 c.apply-folded.result) ≡ c.apply-folded.result = search rules in
    let identity_fits : to_z w64 (of_z w64 c.args.identity) ≡ c.args.identity = search rules in
    let is = c.requires ∙ ap Some (sym identity_fits) in
    let so_far_fits : FitsSigned w64 (to_z w64 c.loop-lane.folded-bits) = search rules in
    record {
      missed = elim c.if-passes.branch [
        | then-passes w ↦
            let passed : set (at flags n) ≡ true = sym flag ∙ w.if-passes.true in
            omega (arith, w.missed-is, so_far.missed, passed_set set values flags n passed)
        | else-passes w ↦
            let unset : set (at flags n) ≡ false = sym flag ∙ w.if-passes.false in
            omega (arith, w.missed-is, so_far.missed, ap length (values_unset set values flags n unset))
      ];
      within = elim c.if-passes.branch [
        | then-passes w ↦ omega (arith, w.missed-is, so_far.within)
        | else-passes w ↦ omega (arith, w.missed-is, so_far.within)
      ];
      fits = elim c.if-passes.branch [
        | then-passes w ↦
            let passed : set (at flags n) ≡ true = sym flag ∙ w.if-passes.true in
            let here : FitsSigned w64 (values n) = search rules in
            fit_set set values flags n passed here so_far.fits
        | else-passes w ↦
            let unset : set (at flags n) ≡ false = sym flag ∙ w.if-passes.false in
            subst AllFit (sym (values_unset set values flags n unset)) so_far.fits
      ];
      folded = fits ∙ c.apply-folded.ensures ∙ elim c.if-passes-2.branch [
        | then-passes-2 w ↦
            let passed : set (at flags n) ≡ true = sym flag ∙ w.if-passes-2.true in
            let counted_fits : to_z w64 (of_z w64 c.counted_value-taken.result) ≡ c.counted_value-taken.result =
            search rules in
            let value_fits : to_z w64 (of_z w64 c.at_lane.result) ≡ values n = search rules in
            let value : to_z w64 c.if-passes-2.value-bits ≡ each_one counts (values n) =
            w.value-is ∙ counted_fits ∙ c.counted_value-taken.ensures ∙ ap (each_one counts) value_fits in
            ap (λ (a : ℤ). value_of op a (to_z w64 c.if-passes-2.value-bits)) so_far.folded
            ∙ ap (value_of op (folded_from set values flags op counts identity n)) value
            ∙ sym (folded_set set values flags op counts identity n passed)
        | else-passes-2 w ↦
            let unset : set (at flags n) ≡ false = sym flag ∙ w.if-passes-2.false in
            let value : to_z w64 c.if-passes-2.value-bits ≡ identity = w.value-is in
            ap (value_of op (to_z w64 c.loop-lane.folded-bits)) value
            ∙ sym (folded_unset set values flags op counts identity n (to_z w64 c.loop-lane.folded-bits) is
            so_far_fits so_far.folded unset)
      ];
    }

pub returns-then-missed-flags : goal.returns-then-missed-flags
returns-then-missed-flags c =
    let values = value_at c.args.lanes.values in
    let flags = c.args.lanes.flags.now in
    let set = holds c.args.lanes.set in
    let n = c.loop-lane.lane in
    let whole : n ≡ length flags = omega (arith, c.loop-lane-test.false, c.loop-lane.auto.lane-end) in
    let none : 0 ≡ length (flagged_values set values flags n) =
    omega (arith, whole, c.loop-lane.invariant.missed, c.if-missed-flags.true) in
    none_folded set values flags c.args.op c.args.counts (to_z w64 (of_z w64 c.args.identity))
    (flagged_values set values flags n) none
    ∙ ap (λ (m : ℕ). folded_values (value_of c.args.op) c.args.counts (flagged_values set values flags m)) whole

pub returns-else-missed-flags : goal.returns-else-missed-flags
returns-else-missed-flags c =
    let values = value_at c.args.lanes.values in
    let flags = c.args.lanes.flags.now in
    let set = holds c.args.lanes.set in
    let n = c.loop-lane.lane in
    let op = c.args.op in
    let counts = c.args.counts in
    let identity = to_z w64 (of_z w64 c.args.identity) in
    let identity_fits : to_z w64 (of_z w64 c.args.identity) ≡ c.args.identity = search rules in
    let is = c.requires ∙ ap Some (sym identity_fits) in
    let whole : n ≡ length flags = omega (arith, c.loop-lane-test.false, c.loop-lane.auto.lane-end) in
    let some : 0 < length (flagged_values set values flags n) =
    omega (arith, whole, c.loop-lane.invariant.missed, c.if-missed-flags.false) in
    ap Some c.loop-lane.invariant.folded
    ∙ flagged_folded set values flags op counts identity is n c.loop-lane.invariant.fits some
    ∙ ap (λ (m : ℕ). folded_values (value_of op) counts (flagged_values set values flags m)) whole
