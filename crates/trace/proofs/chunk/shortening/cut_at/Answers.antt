use Rattle.std.proofs.Common.{◌≡◌, ◌≤◌, ◌-◌, ◌+◌, length, subst, rules, Vec, Global, ℕ}
use Rattle.lambda_values.specs.declared.item.Item.{Item}
use Rattle.trace.proofs.CutLemmas.{Passed, passed_one}
use Rattle.trace.proofs.chunk.shortening.cut_at.Goals as goal

pub loop-whole-preserved : goal.loop-whole-preserved
loop-whole-preserved c =
    let ps = c.args.pieces.now in
    let size : length c.index-pieces-whole.result.items ≡ c.len-in-loop-whole.result = search rules in
    let few : length c.index-pieces-whole.result.items ≤ c.loop-whole.left = search rules in
    subst (λ (m : ℕ). Passed (λ (piece : Vec Item Global). piece.items) ps c.args.n (c.loop-whole.whole + 1)
    (c.loop-whole.left - m)) size
    (passed_one (λ (piece : Vec Item Global). piece.items) ps c.args.n c.loop-whole.whole c.loop-whole.left
    c.index-pieces-whole.result c.loop-whole-test.true c.index-pieces-whole.is few c.loop-whole.invariant)
