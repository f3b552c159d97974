use Rattle.std.proofs.Common.{◌≡◌, ◌<◌, List, ◌++◌, [], ◌∷◌, length, true, refl, sym, ap, subst, ◌∙◌, append_assoc}
use Rattle.std.proofs.Common.{rules}
use Rattle.std.proofs.lemmas.Result.{err_from_is_err_and}
use Rattle.lambda_values.specs.declared.item.Item.{Item}
use Rattle.batch_eval.specs.Batches.{holds}
use Rattle.batch_eval.specs.LaneValues.{value_at}
use Rattle.batch_eval.specs.Lanes.{at}
use Rattle.std.proofs.lemmas.List.{append-nil}
use Rattle.batch_eval.proofs.FlaggedLemmas.{flagged_enough, flagged_refused, front, front_none, front_set, front_unset}
use Rattle.batch_eval.proofs.FlaggedLemmas.{item}
use Rattle.batch_eval.proofs.flagged.accept_each_flagged.Goals.{then-holds+in_ok-accept+in-More, else-holds}
use Rattle.batch_eval.proofs.flagged.accept_each_flagged.Goals as goal

pub returns-then-none_set-clause-fed : goal.returns-then-none_set-clause-fed
returns-then-none_set-clause-fed g c = λ xs took.
    let l = c.args.lanes in
    let h = g.S.LongSink.has_taken c.args.sink.now in
    let none = front_none (holds l.set) l.start l.origins.now (value_at l.values) l.flags.now (length l.flags.now)
    (c.none_set.ensures c.if-none_set.true) in
    (subst h (sym (append-nil xs) ∙ ap (λ (ys : List Item). xs ++ ys) (sym none)) took, refl)

pub loop-lane-preserved : goal.loop-lane-preserved
loop-lane-preserved g c = record {
  wants = elim c.if-holds.branch [
    | then-holds+in_ok-accept+in-More w ↦ search rules
    | else-holds w ↦ search rules
  ];
  taken = λ xs took.
      let l = c.args.lanes in
      let n = c.loop-lane.lane in
      let h = g.S.LongSink.has_taken in
      let before : List Item = front (holds l.set) l.start l.origins.now (value_at l.values) l.flags.now n in
      let flag : c.holds.result ≡ holds l.set (at l.flags.now n) = search rules in
      let so_far = c.loop-lane.invariant.taken xs took in
      elim c.if-holds.branch [
        | then-holds+in_ok-accept+in-More w ↦
            let set : holds l.set (at l.flags.now n) ≡ true = sym flag ∙ w.if-holds.true in
            let more = w.in_ok-accept.ensures.ok (xs ++ before) so_far in
            let here = subst (λ (x : Item). h w.accept.new.self ((xs ++ before) ++ x ∷ [])) w.item.ensures more in
            let joined = append_assoc xs before
            (item (holds l.set) l.start l.origins.now (value_at l.values) l.flags.now n ∷ [])
            ∙ ap (λ (ys : List Item). xs ++ ys)
            (sym (front_set (holds l.set) l.start l.origins.now (value_at l.values) l.flags.now n set)) in
            rw w.sink-is (subst (h w.accept.new.self) joined here)
        | else-holds w ↦
            let unset = sym flag ∙ w.if-holds.false in
            let same = ap (λ (ys : List Item). xs ++ ys)
            (sym (front_unset (holds l.set) l.start l.origins.now (value_at l.values) l.flags.now n unset)) in
            rw w.sink-is (subst (h c.loop-lane.sink) same so_far)
      ];
}

pub returns-in-Enough-clause-fed : goal.returns-in-Enough-clause-fed
returns-in-Enough-clause-fed g c = λ xs took.
    let l = c.args.lanes in
    let n = c.loop-lane.lane in
    let h = g.S.LongSink.has_taken in
    let before : List Item = front (holds l.set) l.start l.origins.now (value_at l.values) l.flags.now n in
    let flag : c.holds.result ≡ holds l.set (at l.flags.now n) = search rules in
    let set : holds l.set (at l.flags.now n) ≡ true = sym flag ∙ c.if-holds.true in
    let within : n < length l.flags.now = c.loop-lane-test.true in
    let more = c.in_ok-accept.ensures.ok (xs ++ before) (c.loop-lane.invariant.taken xs took) in
    let here = subst (λ (x : Item). h c.accept.new.self ((xs ++ before) ++ x ∷ [])) c.item.ensures more in
    flagged_enough (holds l.set) l.start l.origins.now (value_at l.values) l.flags.now h xs n c.accept.new.self within
    set here

pub returns-in_err-accept-clause-fed : goal.returns-in_err-accept-clause-fed
returns-in_err-accept-clause-fed g c = λ xs took.
    let l = c.args.lanes in
    let n = c.loop-lane.lane in
    let h = g.S.LongSink.has_taken in
    let before : List Item = front (holds l.set) l.start l.origins.now (value_at l.values) l.flags.now n in
    let flag : c.holds.result ≡ holds l.set (at l.flags.now n) = search rules in
    let set : holds l.set (at l.flags.now n) ≡ true = sym flag ∙ c.if-holds.true in
    let within : n < length l.flags.now = c.loop-lane-test.true in
    let p = err_from_is_err_and c.from_residual.result c.from_residual.ensures.1 in
    let kept = c.in_err-accept.ensures.err (xs ++ before) (c.loop-lane.invariant.taken xs took) in
    rw p.1 (flagged_refused (holds l.set) l.start l.origins.now (value_at l.values) l.flags.now h xs n c.accept.new.self
    within
    set c.in_err-accept.field-0.0 kept)
