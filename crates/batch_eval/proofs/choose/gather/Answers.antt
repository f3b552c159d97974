use Rattle.std.proofs.Common.{Bool, ◌≡◌, ℕ, ◌+◌, ◌<◌, ◌≤◌, pos, length, get_or, ◌∙◌, arith, rules, w64, to_z, of_z}
use Rattle.std.proofs.Common.{subst}
use Rattle.batch_eval.specs.Lanes.{at}
use Rattle.batch_eval.specs.Batches.{wants, picked}
use Rattle.batch_eval.proofs.KeptLaneLemmas.{kept_set, kept_unset, front_more}
use Rattle.batch_eval.proofs.choose.gather.Goals.{then-is_wanted, else-is_wanted}
use Rattle.batch_eval.proofs.choose.gather.Goals as goal

pub loop-i-preserved : goal.loop-i-preserved
loop-i-preserved c =
    let i = c.loop-i.i in
    let kept = c.loop-i.kept in
    let p : ℕ → Bool = λ k. wants c.args.kind (at c.args.flags.now k) in
    let so_far = c.loop-i.invariant in
    let value = get_or c.args.xs.now i (pos 0) in
    let flag : c.is_wanted.result ≡ wants c.args.kind (at c.args.flags.now i) = search rules in
    let here : to_z w64 (of_z w64 value) ≡ value = search rules in
    let values = front_more p (at c.args.xs.now) c.loop-i.out kept i (to_z w64 (of_z w64 value)) (pos 0)
    c.is_wanted.result flag here (omega arith) so_far.count so_far.values in
    let count : c.if-is_wanted.kept ≡ length (picked p (i + 1)) = elim c.if-is_wanted.branch [
      | then-is_wanted w ↦ w.kept-is ∙ kept_set p i kept c.is_wanted.result flag w.if-is_wanted.true so_far.count
      | else-is_wanted w ↦ w.kept-is ∙ kept_unset p i kept c.is_wanted.result flag w.if-is_wanted.false so_far.count
    ] in
    let within : c.if-is_wanted.kept ≤ i + 1 = elim c.if-is_wanted.branch [
      | then-is_wanted w ↦ let is = w.kept-is in omega arith
      | else-is_wanted w ↦ let is = w.kept-is in omega arith
    ] in
    record {
      count = count;
      within = within;
      values = λ j below. values j (subst (λ (n : ℕ). j < n) count below);
    }
