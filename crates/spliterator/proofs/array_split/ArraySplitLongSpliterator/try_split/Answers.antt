use Rattle.std.proofs.Common.{◌≡◌, ◌+◌, ◌/◌, ◌<◌, length, subst, arith, ℕ}
use Rattle.trace.specs.Cover.{placed}
use Rattle.spliterator.specs.Splits.{IsSplit}
use Rattle.spliterator.proofs.SplitLemmas.{is_cut, length-placed}
use Rattle.spliterator.proofs.array_split.ArraySplitLongSpliterator.try_split.Goals as goal

pub returns-clause-some : goal.returns-clause-some
returns-clause-some c =
    let front = c.split_at.result.0.now in
    let back = c.split_at.result.1.now in
    let whole = c.args.self.now.values.now in
    let o = c.args.self.now.origin in
    let many = c.if-half-eq0.false in
    let h : 0 < length c.split_at.result.0.now = omega arith in
    let k : 0 < length c.split_at.result.1.now = omega arith in
    let at : c.args.self.now.origin + length c.split_at.result.0.now
    ≡ c.args.self.now.origin + length c.args.self.now.values.now / 2 = omega arith in
    subst (λ (n : ℕ). IsSplit (placed o front) (placed n back) (placed o whole)) at
    (is_cut o front back whole c.split_at.ensures.by_index.0 h k)

pub returns-then-half-eq0-clause-few : goal.returns-then-half-eq0-clause-few
returns-then-half-eq0-clause-few c =
    let few = c.if-half-eq0.true in
    let size = length-placed c.args.self.now.origin c.args.self.now.values.now in
    omega arith
