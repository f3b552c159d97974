use Rattle.std.proofs.Common.{◌≡◌, ◌+◌, suc, length, ap, sym, ◌∙◌, ◌++◌, ◌∷◌, List, arith, rules, FitsSigned, w64, ℤ}
use Rattle.std.proofs.lemmas.Int.{to_z-of_z}
use Rattle.trace.specs.Cover.{placed}
use Rattle.spliterator.specs.Parts.{plain_values, all_values}
use Rattle.spliterator.proofs.PartLemmas.{nothing_left, advanced}
use Rattle.spliterator.proofs.concat_split.ConcatSplitLongSpliterator.try_advance.Goals as goal

pub returns-in_default : goal.returns-in_default
returns-in_default c =
    let s = c.skip_empty_parts.new.self in
    let left = nothing_left s.origin s.head (all_values s.tail.now) c.in_default.ensures.0
    c.skip_empty_parts.ensures.none in
    (sym c.skip_empty_parts.ensures.same ∙ left, left)

pub invariant_of-self : goal.invariant_of-self
invariant_of-self c =
    let s = c.skip_empty_parts.new.self in
    let values = advanced c.skip_empty_parts.new.self.head c.try_advance.new.self c.in-Some.first c.in-Some.ensures in
    let size : c.skip_empty_parts.new.self.size
    ≡ suc (length (plain_values c.try_advance.new.self ++ all_values c.skip_empty_parts.new.self.tail.now)) =
    s.sized ∙ ap (λ (vs : List ℤ). length (vs ++ all_values s.tail.now)) values in
    let short = c.skip_empty_parts.new.self.short in
    record { sized = omega arith; short = omega arith }

pub returns : goal.returns
returns c =
    let s = c.skip_empty_parts.new.self in
    let rest = plain_values c.try_advance.new.self ++ all_values c.skip_empty_parts.new.self.tail.now in
    let fits : FitsSigned w64 c.in-Some.first.value = search rules in
    let values = advanced s.head c.try_advance.new.self c.in-Some.first c.in-Some.ensures in
    let place : suc c.skip_empty_parts.new.self.origin ≡ c.skip_empty_parts.new.self.origin + 1 = omega arith in
    sym c.skip_empty_parts.ensures.same ∙ ap (λ (vs : List ℤ). placed s.origin (vs ++ all_values s.tail.now)) values
    ∙ (λ i. record { origin = s.origin; value = sym (to_z-of_z w64 c.in-Some.first.value fits) i } ∷ placed (place i)
    rest)
