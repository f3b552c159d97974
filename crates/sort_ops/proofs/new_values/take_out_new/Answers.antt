use Rattle.std.proofs.Common.{◌≡◌, true, false, None, Option, ℕ, [], Vec, Global, ◌<◌, length, take, sym, ap, subst}
use Rattle.std.proofs.Common.{◌∙◌}
use Rattle.sort_ops.specs.declared.lookup.Lookup.{Lookup}
use Rattle.lambda_values.specs.declared.item.Item.{Item}
use Rattle.sort_ops.specs.Firsts.{firsts}
use Rattle.sort_ops.specs.NewValues.{AreOnce}
use Rattle.sort_ops.proofs.NewLemmas.{own_firsts, some_before}
use Rattle.sort_ops.proofs.new_values.take_out_new.Goals.{then-len-known-ge-MANY, else-len-known-ge-MANY}
use Rattle.sort_ops.proofs.new_values.take_out_new.Goals.{then-not-lookup, else-not-lookup}
use Rattle.sort_ops.proofs.new_values.take_out_new.Goals as goal

pub returns-then-not-lookup-2-clause-new : goal.returns-then-not-lookup-2-clause-new
returns-then-not-lookup-2-clause-new c = λ whole.
    let before = take c.args.known.now c.args.items.now.items in
    let open_now : c.if-not-lookup.lookup.partial ≡ false = c.if-not-lookup-2.true in
    elim c.if-not-lookup.branch [
      | then-not-lookup w ↦
          let now = w.take_out.new.items.items in
          let going : w.take_out.new.lookup.partial ≡ false =
          sym (ap (λ (l : Lookup). l.partial) w.lookup-is) ∙ open_now in
          let was : c.if-len-known-ge-MANY.lookup.partial ≡ false = w.take_out.ensures.going going in
          elim c.if-len-known-ge-MANY.branch [
            | then-len-known-ge-MANY m ↦ absurd (let z : true ≡ false =
                sym (ap (λ (l : Lookup). l.partial) m.lookup-is ∙ m.without_set.ensures.partial) ∙ was in cc)
            | else-len-known-ge-MANY m ↦
                let class : c.if-len-known-ge-MANY.lookup.class ≡ None =
                ap (λ (l : Lookup). l.class) m.lookup-is ∙ c.requires.all in
                let firsts_now = own_firsts now (subst (λ (k : Option ℕ). AreOnce k now) class
                (w.take_out.ensures.once going (subst (λ (k : Option ℕ). AreOnce k before) (sym class)
                (c.requires.once (sym (ap (λ (l : Lookup). l.partial) m.lookup-is) ∙ was))))) in
                subst (λ (v : Vec Item Global). firsts [] v.items ≡ v.items) (sym w.items-is) firsts_now
          ]
      | else-not-lookup w ↦ absurd (let z : true ≡ false =
          sym w.if-not-lookup.false ∙ sym (ap (λ (l : Lookup). l.partial) w.lookup-is) ∙ open_now in cc)
    ]

pub returns-clause-some : goal.returns-clause-some
returns-clause-some c = λ failed none.
    let some_now : 0 < length c.if-not-lookup.items.items = c.take_out_all.ensures.some failed in
    elim c.if-not-lookup.branch [
      | then-not-lookup w ↦
          let is = w.items-is in
          some_before c.args.items.now.items w.take_out.new.items.items w.take_out.ensures.firsts
          (subst (λ (v : Vec Item Global). 0 < length v.items) is some_now)
      | else-not-lookup w ↦ subst (λ (v : Vec Item Global). 0 < length v.items) w.items-is some_now
    ]
