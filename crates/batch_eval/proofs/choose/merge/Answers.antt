use Rattle.std.proofs.Common.{Bool, true, false, not, ◌≡◌, ℕ, ◌+◌, ◌<◌, ◌≤◌, ℤ, pos, List, Ok, length, get_or, refl}
use Rattle.std.proofs.Common.{sym, ap, subst, ◌∙◌, arith, rules, w64, to_z, of_z}
use Rattle.batch_eval.specs.Lanes.{at, is_set}
use Rattle.batch_eval.specs.Batches.{picked, wants}
use Rattle.batch_eval.proofs.KeptLaneLemmas.{kept_set, kept_unset}
use Rattle.batch_eval.proofs.ChoiceLemmas.{one_value, one_stop, one_more}
use Rattle.batch_eval.proofs.choose.merge.Goals.{then-is_set+else-y-ones, else-is_set+else-n-others}
use Rattle.batch_eval.proofs.choose.merge.Goals as goal

pub returns-then-y-ones : goal.returns-then-y-ones
returns-then-y-ones c = λ f yes no.
    let i = c.loop-i.i in
    let p : ℕ → Bool = λ k. wants true (at c.args.flags.now k) in
    let flag : c.is_set.result ≡ is_set (at c.args.flags.now i) = search rules in
    let set : is_set (at c.args.flags.now i) ≡ true = sym flag ∙ c.if-is_set.true in
    let at_end : length (picked p i) ≡ c.args.ones.reached.live = sym c.loop-i.invariant.yes_count ∙ c.if-y-ones.true in
    record {
      within = omega arith;
      values = c.loop-i.invariant.values f yes no;
      stop = one_stop p f (at c.args.ones.values.now) i c.args.live c.args.ones.reached c.loop-i-test.true set at_end
          yes;
    }

pub returns-then-n-others : goal.returns-then-n-others
returns-then-n-others c = λ f yes no.
    let i = c.loop-i.i in
    let p : ℕ → Bool = λ k. wants false (at c.args.flags.now k) in
    let flag : c.is_set.result ≡ is_set (at c.args.flags.now i) = search rules in
    let unset : not (is_set (at c.args.flags.now i)) ≡ true = ap not (sym flag ∙ c.if-is_set.false) in
    let at_end : length (picked p i) ≡ c.args.others.reached.live =
    sym c.loop-i.invariant.no_count ∙ c.if-n-others.true in
    record {
      within = omega arith;
      values = c.loop-i.invariant.values f yes no;
      stop = one_stop p f (at c.args.others.values.now) i c.args.live c.args.others.reached c.loop-i-test.true unset
          at_end no;
    }

pub returns : goal.returns
returns c = λ f yes no. rw c.all.ensures (record {
  within = omega arith;
  values = λ k below. c.loop-i.invariant.values f yes no k (omega arith);
  stop = refl;
})

pub loop-i-preserved : goal.loop-i-preserved
loop-i-preserved c =
    let flags = c.args.flags.now in
    let i = c.loop-i.i in
    let so_far = c.loop-i.invariant in
    let p : ℕ → Bool = λ k. wants true (at flags k) in
    let q : ℕ → Bool = λ k. wants false (at flags k) in
    let flag : c.is_set.result ≡ is_set (at flags i) = search rules in
    let value = get_or c.args.ones.values.now c.loop-i.y (pos 0) in
    let other = get_or c.args.others.values.now c.loop-i.n (pos 0) in
    let yes_count : c.if-is_set.y ≡ length (picked p (i + 1)) = elim c.if-is_set.branch [
      | then-is_set+else-y-ones w ↦ w.y-is
          ∙ kept_set p i c.loop-i.y c.is_set.result flag w.if-is_set.true so_far.yes_count
      | else-is_set+else-n-others w ↦ w.y-is
          ∙ kept_unset p i c.loop-i.y c.is_set.result flag w.if-is_set.false so_far.yes_count
    ] in
    let no_count : c.if-is_set.n ≡ length (picked q (i + 1)) = elim c.if-is_set.branch [
      | then-is_set+else-y-ones w ↦ w.n-is
          ∙ kept_unset q i c.loop-i.n false (ap not (sym w.if-is_set.true ∙ flag)) refl so_far.no_count
      | else-is_set+else-n-others w ↦ w.n-is
          ∙ kept_set q i c.loop-i.n true (ap not (sym w.if-is_set.false ∙ flag)) refl so_far.no_count
    ] in
    let yes_within : c.if-is_set.y ≤ c.args.ones.reached.live = elim c.if-is_set.branch [
      | then-is_set+else-y-ones w ↦ let is = w.y-is in let other = w.if-y-ones.false in omega arith
      | else-is_set+else-n-others w ↦ let is = w.y-is in omega arith
    ] in
    let no_within : c.if-is_set.n ≤ c.args.others.reached.live = elim c.if-is_set.branch [
      | then-is_set+else-y-ones w ↦ let is = w.n-is in omega arith
      | else-is_set+else-n-others w ↦ let is = w.n-is in let other = w.if-n-others.false in omega arith
    ] in
    record {
      yes_count = yes_count;
      no_count = no_count;
      yes_within = yes_within;
      no_within = no_within;
      values = λ f yes no. elim c.if-is_set.branch [
        | then-is_set+else-y-ones w ↦
            let same : to_z w64 (of_z w64 value) ≡ value = search rules in
            let set : is_set (at flags i) ≡ true = sym flag ∙ w.if-is_set.true in
            let apart = w.if-y-ones.false in
            let inside : length (picked p i) < c.args.ones.reached.live =
            omega (arith, so_far.yes_count, so_far.yes_within) in
            let place : length (picked p i) ≡ c.loop-i.y = sym so_far.yes_count in
            let here : f i ≡ Ok (to_z w64 (of_z w64 value)) =
            one_value p f (at c.args.ones.values.now) i c.args.live c.args.ones.reached c.loop-i-test.true set
            inside yes ∙ ap (λ (j : ℕ). Ok (at c.args.ones.values.now j)) place ∙ ap Ok (sym same) in
            λ k below. subst (λ (out : List ℤ). f k ≡ Ok (at out k)) (sym w.out-is)
            (one_more f c.loop-i.out i (to_z w64 (of_z w64 value)) (omega arith) (so_far.values f yes no) here k
            below)
        | else-is_set+else-n-others w ↦
            let same : to_z w64 (of_z w64 other) ≡ other = search rules in
            let unset : not (is_set (at flags i)) ≡ true = ap not (sym flag ∙ w.if-is_set.false) in
            let apart = w.if-n-others.false in
            let inside : length (picked q i) < c.args.others.reached.live =
            omega (arith, so_far.no_count, so_far.no_within) in
            let place : length (picked q i) ≡ c.loop-i.n = sym so_far.no_count in
            let here : f i ≡ Ok (to_z w64 (of_z w64 other)) =
            one_value q f (at c.args.others.values.now) i c.args.live c.args.others.reached c.loop-i-test.true unset
            inside no ∙ ap (λ (j : ℕ). Ok (at c.args.others.values.now j)) place ∙ ap Ok (sym same) in
            λ k below. subst (λ (out : List ℤ). f k ≡ Ok (at out k)) (sym w.out-is)
            (one_more f c.loop-i.out i (to_z w64 (of_z w64 other)) (omega arith) (so_far.values f yes no) here k
            below)
      ];
    }
