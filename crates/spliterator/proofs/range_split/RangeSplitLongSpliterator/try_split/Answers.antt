use Rattle.std.proofs.Common.{◌+◌, ◌-◌, ◌/◌, ◌<◌, subst, sym, arith, rules, ℤ, FitsSigned, w64}
use Rattle.std.proofs.lemmas.Int.{to_z-of_z}
use Rattle.spliterator.specs.Splits.{IsSplit, split_items}
use Rattle.spliterator.proofs.SplitLemmas.{is_split}
use Rattle.spliterator.proofs.range_split.RangeSplitLongSpliterator.try_split.Goals as goal

pub returns-clause-some : goal.returns-clause-some
returns-clause-some c =
    let s = c.args.self.now in
    let fits : FitsSigned w64 c.args.self.now.start = search rules in
    let many = c.if-half-eq0.false in
    let from = c.args.self.now.from in
    let to = c.args.self.now.to in
    let middle = c.args.self.now.from + (c.args.self.now.to - c.args.self.now.from) / 2 in
    let h : c.args.self.now.from < c.args.self.now.from + (c.args.self.now.to - c.args.self.now.from) / 2 =
    omega arith in
    let k : c.args.self.now.from + (c.args.self.now.to - c.args.self.now.from) / 2 < c.args.self.now.to = omega arith in
    subst (λ (a : ℤ). IsSplit (split_items a from middle) (split_items s.start middle to) (split_items s.start from to))
    (sym (to_z-of_z w64 s.start fits)) (is_split s.start from middle to h k)
