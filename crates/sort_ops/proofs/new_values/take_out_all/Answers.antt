use Rattle.std.proofs.Common.{◌≡◌, false, None, Option, ℕ, subst, ◌∙◌, rules}
use Rattle.sort_ops.specs.NewValues.{AreOnce}
use Rattle.sort_ops.proofs.NewLemmas.{own_firsts}
use Rattle.sort_ops.proofs.new_values.take_out_all.Goals as goal

pub returns-then-len-ge-MANY-clause-new : goal.returns-then-len-ge-MANY-clause-new
returns-then-len-ge-MANY-clause-new c = λ done.
    own_firsts c.take_out_by_classes-taken.new.items.items (search (rules, done))

pub returns-clause-new : goal.returns-clause-new
returns-clause-new c = λ whole.
    let now = c.take_out.new.items.items in
    let going : c.take_out.new.lookup.partial ≡ false = search (rules, whole) in
    own_firsts now (subst (λ (k : Option ℕ). AreOnce k now) (c.begin_set.ensures.class ∙ c.requires)
    (c.take_out.ensures.once going tt))

pub returns-then-rise_or_fall-clause-new : goal.returns-then-rise_or_fall-clause-new
returns-then-rise_or_fall-clause-new c = λ done.
    own_firsts c.args.items.now.items (subst (AreOnce None) c.deref.ensures.value
    (c.rise_or_fall.ensures.once c.if-rise_or_fall.true))
