use Rattle.std.proofs.Common.{Bool, ◌≡◌, ℕ, ◌+◌, ◌<◌, ◌≤◌, ℤ, pos, length, slice_index, get_or, ◌∙◌, arith, rules, w64}
use Rattle.std.proofs.Common.{to_z, of_z, subst, sym}
use Rattle.batch_eval.specs.Lanes.{at, is_set}
use Rattle.batch_eval.specs.Batches.{origin_at, passing}
use Rattle.batch_eval.proofs.KeptLaneLemmas.{kept_set, kept_unset, front_more, none_picked, rest_more}
use Rattle.batch_eval.proofs.Items.{same_place}
use Rattle.batch_eval.proofs.keep.keep_lanes.Goals.{then-is_set, else-is_set}
use Rattle.batch_eval.proofs.keep.keep_lanes.Goals as goal

pub returns-then-none_set-clause-count : goal.returns-then-none_set-clause-count
returns-then-none_set-clause-count c =
    let flags = c.args.flags.now in
    sym (none_picked (λ k. is_set (at flags k)) c.args.live
    (λ k below. sym (c.is_set-set.ensures (at flags k)) ∙ c.none_set.ensures c.if-none_set.true k below))

pub loop-i-preserved : goal.loop-i-preserved
loop-i-preserved c =
    let flags = c.args.flags.now in
    let p : ℕ → Bool = λ k. is_set (at flags k) in
    let i = c.loop-i.i in
    let kept = c.loop-i.kept in
    let so_far = c.loop-i.invariant in
    let old = get_or c.loop-i.values i (pos 0) in
    let xs : ℕ → ℤ = λ k. at c.args.values.now k in
    let spots : ℕ → ℕ = origin_at c.args.start c.args.origins.now in
    let spot = c.origin_of-place.result in
    let flag : c.is_set.result ≡ is_set (at flags i) = search rules in
    let read : to_z w64 (of_z w64 old) ≡ old = search rules in
    let here : to_z w64 (of_z w64 old) ≡ xs i = read ∙ so_far.rest_values i (omega arith) in
    let there : spot ≡ spots i = c.origin_of-place.ensures
    ∙ same_place c.args.start c.loop-i.origins c.args.origins.now i (so_far.rest_origins i (omega arith)) in
    let values = front_more p xs c.loop-i.values kept i (to_z w64 (of_z w64 old)) (pos 0) c.is_set.result flag here
    (omega arith) so_far.count so_far.values in
    let values_rest = rest_more p (at c.args.values.now) c.loop-i.values kept i (to_z w64 (of_z w64 old)) (pos 0)
    so_far.within so_far.rest_values in
    let origins = front_more p spots c.loop-i.origins kept i spot 0 c.is_set.result flag there (omega arith)
    so_far.count so_far.origins in
    let origins_rest = rest_more p (slice_index c.args.origins.now) c.loop-i.origins kept i spot 0 so_far.within
    so_far.rest_origins in
    let count : c.if-is_set.kept ≡ length (passing flags (i + 1)) = elim c.if-is_set.branch [
      | then-is_set w ↦ w.kept-is ∙ kept_set p i kept c.is_set.result flag w.if-is_set.true so_far.count
      | else-is_set w ↦ w.kept-is ∙ kept_unset p i kept c.is_set.result flag w.if-is_set.false so_far.count
    ] in
    let within : c.if-is_set.kept ≤ i + 1 = elim c.if-is_set.branch [
      | then-is_set w ↦ let is = w.kept-is in omega arith
      | else-is_set w ↦ let is = w.kept-is in omega arith
    ] in
    record {
      count = count;
      within = within;
      values = λ j below. values j (subst (λ (n : ℕ). j < n) count below);
      origins = λ j below. origins j (subst (λ (n : ℕ). j < n) count below);
      rest_values = values_rest;
      rest_origins = origins_rest;
    }
