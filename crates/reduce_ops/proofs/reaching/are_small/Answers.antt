use Rattle.std.proofs.Common.{◌≤ℤ◌, pos, get_or, rules, arith, subst, FitsSigned, w64, to_z, of_z, List, ℤ, take}
use Rattle.std.specs.List.{All}
use Rattle.std.proofs.lemmas.Int.{ints, clamps}
use Rattle.std.proofs.lemmas.List.Elements.{All-more, All-weaker}
use Rattle.std.proofs.lemmas.List.{take_all}
use Rattle.reduce_ops.specs.Reaches.{IsSmall}
use Rattle.reduce_ops.proofs.reaching.are_small.Goals as goal

pub loop-value-preserved : goal.loop-value-preserved
loop-value-preserved c =
    let vs = c.args.values.now in
    let i = c.loop-value.value-index in
    let here = get_or vs i (pos 0) in
    let fits : FitsSigned w64 here = search rules in
    let low = c.min-least.ensures.value in
    let high = c.max-greatest.ensures.value in
    let Wider : ℤ → Type 0 = λ v. (to_z w64 (of_z w64 c.min-least.result) ≤ℤ v)
    × (v ≤ℤ to_z w64 (of_z w64 c.max-greatest.result)) in
    let Narrower : ℤ → Type 0 = λ v. (to_z w64 c.loop-value.least-bits ≤ℤ v)
    × (v ≤ℤ to_z w64 c.loop-value.greatest-bits) in
    let wider = All-weaker Narrower Wider (λ v b. (omega (arith, ints, clamps), omega (arith, ints, clamps)))
    (take i vs) c.loop-value.invariant in
    All-more Wider vs i (pos 0) c.loop-value-test.true wider (omega (arith, ints, clamps), omega (arith, ints, clamps))

pub returns-then-least : goal.returns-then-least
returns-then-least c = λ yes.
    let vs = c.args.values.now in
    let low = c.if-least.true in
    let Between : ℤ → Type 0 = λ v. (to_z w64 c.loop-value.least-bits ≤ℤ v)
    × (v ≤ℤ to_z w64 c.loop-value.greatest-bits) in
    let all = subst (λ (xs : List ℤ). All Between xs) (take_all c.loop-value.value-index vs c.loop-value-test.false)
    c.loop-value.invariant in
    All-weaker Between IsSmall (λ v b. (omega (arith, ints), omega (arith, ints))) vs all
