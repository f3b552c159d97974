use Rattle.std.proofs.Common.{◌≡◌, ◌+◌, ◌≤◌, ◌<◌, ℤ, pos, ◌+ℤ◌, ◌-ℤ◌, ℕ, length, take, drop, sym, ap, subst, ◌∙◌, arith}
use Rattle.std.proofs.Common.{rules, FitsSigned, w64, to_z, of_z}
use Rattle.std.proofs.lemmas.Int.{ints, to_z-of_z}
use Rattle.trace.specs.Cover.{counted, distance, placed}
use Rattle.trace.proofs.Sources.{length-counted}
use Rattle.job_language.specs.Jobs.{source_of}
use Rattle.job_meaning.specs.Walks.{plain_values}
use Rattle.batch_eval.proofs.RangeLemmas.{counted_piece}
use Rattle.prefix_walks.proofs.Elements.{less_one_fits, take_none}
use Rattle.job_plan.proofs.sources.items_of.Goals as goal

pub returns-then-portion-eq0 : goal.returns-then-portion-eq0
returns-then-portion-eq0 c =
    let values = drop c.args.portion.start (plain_values (source_of c.args.source.now)) in
    let z : c.args.portion.count ≡ 0 = omega (arith, c.if-portion-eq0.true) in
    c.placed.ensures ∙ sym (ap (λ n. placed c.args.origin (take n values)) z
    ∙ ap (placed c.args.origin) (take_none values))

pub range_items-requires-clause-within : goal.range_items-requires-clause-within
range_items-requires-clause-within c =
    let a = c.in-Range.from in
    let b = c.in-Range.to in
    let fa : FitsSigned w64 c.in-Range.from = search rules in
    let fb : FitsSigned w64 c.in-Range.to = search rules in
    let l = ap (λ s. length (plain_values (source_of s))) c.in-Range.is ∙ length-counted a (distance a b) in
    let some : 0 < distance a b = omega (arith, c.requires.within, l, c.if-portion-eq0.false) in
    let e1 = to_z-of_z w64 b fb in
    let e2 = ap (λ (z : ℤ). to_z w64 (of_z w64 (z -ℤ pos 1))) e1
    ∙ to_z-of_z w64 (b -ℤ pos 1) (less_one_fits a b fa fb some) in
    let e3 : (b -ℤ pos 1) +ℤ pos 1 ≡ b = omega (arith, ints) in
    let ends = ap (λ (z : ℤ). z +ℤ pos 1) e2 ∙ e3 in
    subst (λ (m : ℕ). c.args.portion.start + c.args.portion.count ≤ m)
    (l ∙ sym (λ i. distance (to_z-of_z w64 a fa i) (ends i))) c.requires.within

pub range_items-requires-in-RangeClosed-clause-within : goal.range_items-requires-in-RangeClosed-clause-within
range_items-requires-in-RangeClosed-clause-within c =
    let a = c.in-RangeClosed.from in
    let b = c.in-RangeClosed.to in
    let fa : FitsSigned w64 c.in-RangeClosed.from = search rules in
    let fb : FitsSigned w64 c.in-RangeClosed.to = search rules in
    let l = ap (λ s. length (plain_values (source_of s))) c.in-RangeClosed.is
    ∙ length-counted a (distance a (b +ℤ pos 1)) in
    subst (λ (m : ℕ). c.args.portion.start + c.args.portion.count ≤ m)
    (l ∙ sym (λ i. distance (to_z-of_z w64 a fa i) (to_z-of_z w64 b fb i +ℤ pos 1))) c.requires.within

pub returns-in-Range : goal.returns-in-Range
returns-in-Range c =
    let a = c.in-Range.from in
    let n = distance a c.in-Range.to in
    let o = c.args.origin in
    let fa : FitsSigned w64 c.in-Range.from = search rules in
    let l = ap (λ s. length (plain_values (source_of s))) c.in-Range.is ∙ length-counted a n in
    let few : c.args.portion.start + c.args.portion.count ≤ n =
    subst (λ (m : ℕ). c.args.portion.start + c.args.portion.count ≤ m) l c.requires.within in
    c.range_items.ensures ∙ sym (ap (λ s. placed o
    (take c.args.portion.count (drop c.args.portion.start (plain_values (source_of s))))) c.in-Range.is
    ∙ ap (placed o) (counted_piece a n c.args.portion.start c.args.portion.count few)
    ∙ ap (λ (z : ℤ). placed o (counted (z +ℤ pos c.args.portion.start) c.args.portion.count))
    (sym (to_z-of_z w64 a fa)))

pub returns-in-RangeClosed : goal.returns-in-RangeClosed
returns-in-RangeClosed c =
    let a = c.in-RangeClosed.from in
    let n = distance a (c.in-RangeClosed.to +ℤ pos 1) in
    let o = c.args.origin in
    let fa : FitsSigned w64 c.in-RangeClosed.from = search rules in
    let l = ap (λ s. length (plain_values (source_of s))) c.in-RangeClosed.is ∙ length-counted a n in
    let few : c.args.portion.start + c.args.portion.count ≤ n =
    subst (λ (m : ℕ). c.args.portion.start + c.args.portion.count ≤ m) l c.requires.within in
    c.range_items-in-RangeClosed.ensures
    ∙ sym (ap (λ s. placed o (take c.args.portion.count (drop c.args.portion.start (plain_values (source_of s)))))
    c.in-RangeClosed.is ∙ ap (placed o) (counted_piece a n c.args.portion.start c.args.portion.count few)
    ∙ ap (λ (z : ℤ). placed o (counted (z +ℤ pos c.args.portion.start) c.args.portion.count))
    (sym (to_z-of_z w64 a fa)))
