use Rattle.std.proofs.Common.{◌<◌, ◌^◌, ◌+ℤ◌, arith, rules, to_z, of_z, FitsSigned, w64}
use Rattle.spliterator.proofs.SplitLemmas.{first_item, value_at}
use Rattle.spliterator.proofs.range_split.RangeSplitLongSpliterator.try_advance.Goals as goal

pub returns : goal.returns
returns c =
    let s = c.args.self.now in
    let start : FitsSigned w64 c.args.self.now.start = search rules in
    let some : c.args.self.now.from < c.args.self.now.to = search rules in
    let short : c.args.self.now.from < 2 ^ 63 = let few = c.args.self.now.short in omega arith in
    let value = to_z w64 (of_z w64 (to_z w64 (of_z w64 c.args.self.now.start) +ℤ to_z w64 c.args.self.now.from)) in
    first_item s.start value s.from s.to some (value_at s.start s.from start short (s.in_range s.from some))
