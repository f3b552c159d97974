use Rattle.std.proofs.Common.{◌≡◌, ◌+◌, ◌-◌, ◌++◌, ◌∷◌, ◌∙◌, ◌==◌, [], List, ℕ, None, Some, Vec, Global, ap}
use Rattle.std.proofs.Common.{append_assoc, arith, drop, false, get_or, map, refl, rules, sym, take, true}
use Rattle.std.proofs.lemmas.Bool.Decides.{nat_tests}
use Rattle.std.proofs.lemmas.List.{map_push}
use Rattle.job_names.specs.ColumnKeys.{key_of}
use Rattle.job_names.specs.JobNames.{names_after, places_after}
use Rattle.job_names.proofs.NameLemmas.{after_first, after_other, after_second, begun_in, later, rest_of}
use Rattle.job_names.proofs.names.add_names_in.Goals.{then-text-at-eq34+in-Some+in_ok-key_of-in-Some+in_ok-push-in-Some}
use Rattle.job_names.proofs.names.add_names_in.Goals.{then-text-at-eq34+in-None, else-text-at-eq34}
use Rattle.job_names.proofs.names.add_names_in.Goals as goal

pub loop-at-preserved : goal.loop-at-preserved
loop-at-preserved c =
    let text = c.args.text.now in
    let at = c.loop-at.at in
    let h = c.loop-at-test.true in
    let begun = c.loop-at.begun in
    let bytes : Vec ℕ Global → List ℕ = λ name. name.items in
    let before = map bytes c.loop-at.names.items in
    let (low, so_far) = c.loop-at.invariant in
    elim c.if-text-at-eq34.branch [
      | then-text-at-eq34+in-Some+in_ok-key_of-in-Some+in_ok-push-in-Some w ↦
          let from = w.in-Some.from in
          let piece : List ℕ = take (at - from) (drop from text) in
          let quote : (get_or text at 0 == 34) ≡ true = search (rules, nat_tests) in
          let rest = names_after None (drop (at + 1) text) in
          let key : List ℕ = key_of piece (places_after (drop (at + 1) text)) in
          let named : map bytes w.push.new.self.items ≡ before ++ key ∷ [] =
          rw (
            w.in_ok-push-in-Some.ensures.items,
            map_push bytes,
            w.in_ok-key_of-in-Some.ensures,
            w.places_after-places.ensures,
            rest_of text (at + 1),
          ) refl in
          let now : before ++ names_after (begun_in (Some from) text at) (drop at text)
          ≡ map bytes c.args.names.now.items ++ names_after None text = rw w.in-Some.is at so_far in
          rw (w.names-is, w.begun-is) (
            tt,
            ap (λ l. l ++ rest) named ∙ append_assoc before (key ∷ []) rest
                ∙ ap (λ l. before ++ l) (sym (after_second text from at h quote)) ∙ now,
          )
      | then-text-at-eq34+in-None w ↦
          let quote : (get_or text at 0 == 34) ≡ true = search (rules, nat_tests) in
          let now : before ++ names_after None (drop at text)
          ≡ map bytes c.args.names.now.items ++ names_after None text = rw w.in-None.is at so_far in
          rw (w.names-is, w.begun-is) (omega arith, ap (λ l. before ++ l) (sym (after_first text at h quote)) ∙ now)
      | else-text-at-eq34 w ↦
          let other : (get_or text at 0 == 34) ≡ false = search (rules, nat_tests) in
          rw (w.names-is, w.begun-is) (
            later begun at low,
            ap (λ l. before ++ l) (sym (after_other begun text at h other low)) ∙ so_far,
          )
    ]
