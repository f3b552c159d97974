use Rattle.std.proofs.Common.{◌≡◌, ◌+◌, ℤ, pos, ◌+ℤ◌, FitsSigned, w64, to_z, of_z, length, take, drop, sym, ap, subst}
use Rattle.std.proofs.Common.{◌∙◌, arith, rules}
use Rattle.std.proofs.lemmas.Int.{ints}
use Rattle.trace.specs.Cover.{counted, placed}
use Rattle.trace.proofs.Sources.{length-counted, length-placed}
use Rattle.batch_eval.specs.BatchItems.{batch_items}
use Rattle.batch_eval.proofs.LaneLemmas.{length_laid}
use Rattle.batch_eval.proofs.RangeLemmas.{counted_piece, drop_placed, take_placed}
use Rattle.batch_eval.proofs.batch_items.BatchItems.part.Goals as goal

pub part-requires : goal.part-requires
part-requires c =
    let lanes = c.in-Lanes.lanes in
    let l = ap (λ s. length (batch_items s)) c.in-Lanes.is
    ∙ length_laid lanes.start lanes.places.now lanes.values.now in
    omega (arith, l, c.requires.within)

pub overflow_add-result : goal.overflow_add-result
overflow_add-result c =
    let r = c.in-Range.range in
    let l = ap (λ s. length (batch_items s)) c.in-Range.is ∙ length-placed r.origin (counted r.first r.count)
    ∙ length-counted r.first r.count in
    omega (arith, l, c.requires.within, r.few)

pub counted_from-requires-clause-few : goal.counted_from-requires-clause-few
counted_from-requires-clause-few c =
    let r = c.in-Range.range in
    let l = ap (λ s. length (batch_items s)) c.in-Range.is ∙ length-placed r.origin (counted r.first r.count)
    ∙ length-counted r.first r.count in
    omega (arith, l, c.requires.within, r.few)

pub counted_from-requires-clause-fits : goal.counted_from-requires-clause-fits
counted_from-requires-clause-fits c =
    let r = c.in-Range.range in
    let l = ap (λ s. length (batch_items s)) c.in-Range.is ∙ length-placed r.origin (counted r.first r.count)
    ∙ length-counted r.first r.count in
    let fits = r.in_range c.args.from (omega (arith, l, c.requires.within, c.requires.some)) in
    search (rules, fits)

pub invariant_of-result : goal.invariant_of-result
invariant_of-result c =
    let r = c.in-Range.range in
    let l = ap (λ s. length (batch_items s)) c.in-Range.is ∙ length-placed r.origin (counted r.first r.count)
    ∙ length-counted r.first r.count in
    let here : to_z w64 (of_z w64 c.counted_from.result) ≡ c.counted_from.result = search rules in
    let first : to_z w64 (of_z w64 r.first) ≡ r.first = search rules in
    let sum = here ∙ c.counted_from.ensures ∙ ap (λ (z : ℤ). z +ℤ pos c.args.from) first in
    record {
      few = omega (arith, l, c.requires.within, r.few);
      in_range = λ i below.
          let on : r.first +ℤ pos (c.args.from + i) ≡ (r.first +ℤ pos c.args.from) +ℤ pos i = omega (arith, ints) in
          subst (λ (z : ℤ). FitsSigned w64 (z +ℤ pos i)) (sym sum)
          (subst (FitsSigned w64) on (r.in_range (c.args.from + i) (omega (arith, l, below, c.requires.within))));
    }

pub returns-in-Range : goal.returns-in-Range
returns-in-Range c =
    let r = c.in-Range.range in
    let n = c.args.count in
    let p = c.args.from in
    let l = ap (λ s. length (batch_items s)) c.in-Range.is ∙ length-placed r.origin (counted r.first r.count)
    ∙ length-counted r.first r.count in
    let here : to_z w64 (of_z w64 c.counted_from.result) ≡ c.counted_from.result = search rules in
    let first : to_z w64 (of_z w64 r.first) ≡ r.first = search rules in
    let sum = here ∙ c.counted_from.ensures ∙ ap (λ (z : ℤ). z +ℤ pos p) first in
    ap (λ (z : ℤ). placed (r.origin + p) (counted z n)) sum
    ∙ sym (ap (λ s. take n (drop p (batch_items s))) c.in-Range.is
    ∙ ap (take n) (drop_placed p r.origin (counted r.first r.count))
    ∙ take_placed n (r.origin + p) (drop p (counted r.first r.count))
    ∙ ap (placed (r.origin + p)) (counted_piece r.first r.count p n (omega (arith, l, c.requires.within))))

pub returns-in-Lanes : goal.returns-in-Lanes
returns-in-Lanes c = c.part.ensures.items
    ∙ sym (ap (λ s. take c.args.count (drop c.args.from (batch_items s))) c.in-Lanes.is)
