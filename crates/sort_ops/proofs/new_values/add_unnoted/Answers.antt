use Rattle.std.proofs.Common.{rules, ◌≡◌, ◌+◌, ◌∷◌, [], ◌++◌, List, append-nil, append_assoc, sym, ap, subst, ◌∙◌, take}
use Rattle.std.proofs.lemmas.Option.{slice_get_within, get_or_from_slice_get}
use Rattle.std.proofs.lemmas.List.{take_more}
use Rattle.lambda_values.specs.declared.item.Item.{Item}
use Rattle.sort_ops.specs.declared.noted.Noted.{Noted}
use Rattle.sort_ops.specs.Firsts.{firsts}
use Rattle.sort_ops.specs.NewValues.{AreKnown, AreNoted}
use Rattle.sort_ops.proofs.NotedLemmas.{item_among, kept_on, left_on, still_known, still_noted}
use Rattle.sort_ops.proofs.new_values.add_unnoted.Goals.{then-not-has, else-not-has}
use Rattle.sort_ops.proofs.new_values.add_unnoted.Goals as goal

pub loop-position-init : goal.loop-position-init
loop-position-init g c = record {
  noted = c.requires.noted;
  same = ap (firsts []) (sym (append-nil c.args.items.now.items));
  known = λ count m are. are;
  room = search rules;
}

pub loop-position-preserved : goal.loop-position-preserved
loop-position-preserved g c =
    let xs = g.I.SourceItems.items c.args.source.now in
    let i = c.loop-position.position in
    let x : Item = c.item_at-item.result in
    let old = c.args.items.now.items in
    let now = c.loop-position.items.items in
    let invariant = c.loop-position.invariant in
    let more : take (i + 1) xs ≡ take i xs ++ x ∷ [] =
    take_more xs i x (slice_get_within xs i x c.item_at-item.ensures)
    ∙ ap (λ (z : Item). take i xs ++ z ∷ []) (get_or_from_slice_get xs i x x c.item_at-item.ensures) in
    let all : old ++ take (i + 1) xs ≡ (old ++ take i xs) ++ x ∷ [] =
    ap (λ (l : List Item). old ++ l) more ∙ sym (append_assoc old (take i xs) (x ∷ [])) in
    elim c.if-not-has.branch [
      | then-not-has w ↦
          let new = c.if-not-has.items.items in
          let is : new ≡ now ++ x ∷ [] = ap (λ v. v.items) w.items-is ∙ w.push_reserved.ensures.items in
          record {
            noted = subst (λ (l : List Item). AreNoted c.if-not-has.noted l) (sym is)
                (subst (λ (n : Noted). AreNoted n (now ++ x ∷ [])) (sym w.noted-is)
                (w.note.ensures (now ++ x ∷ []) (item_among now x)
                (still_noted now (x ∷ []) c.loop-position.noted.values.items invariant.noted)));
            known = λ count l are. subst (λ (ys : List Item). AreKnown ys count l) (sym is)
                (still_known now (x ∷ []) count l (invariant.known count l are));
            same = ap (firsts []) is ∙ kept_on now (old ++ take i xs) x invariant.same ∙ ap (firsts []) (sym all);
            room = search rules;
          }
      | else-not-has w ↦
          let is : c.if-not-has.items.items ≡ now = ap (λ v. v.items) w.items-is in
          record {
            noted = subst (λ (l : List Item). AreNoted c.if-not-has.noted l) (sym is)
                (subst (λ (n : Noted). AreNoted n now) (sym w.noted-is) invariant.noted);
            known = λ count l are. subst (λ (ys : List Item). AreKnown ys count l) (sym is)
                (invariant.known count l are);
            same = ap (firsts []) is ∙ left_on now (old ++ take i xs) x invariant.same
                (c.has.ensures w.if-not-has.false now invariant.noted) ∙ ap (firsts []) (sym all);
            room = search rules;
          }
    ]
