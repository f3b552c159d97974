use Rattle.std.proofs.Common.{◌≡◌, ◌<◌, ◌≤◌, ◌^◌, rules, sym, ap, ◌∙◌, w64, ℤ, arith}
use Rattle.std.proofs.lemmas.Int.{to_z-of_z}
use Rattle.trace.specs.Cover.{counted, distance, placed}
use Rattle.trace.specs.Trace.{trace}
use Rattle.trace.specs.declared.item.End.TheVariants as end
use Rattle.trace.proofs.CoverLemmas.{range_long, range_short}
use Rattle.trace.proofs.source.RangeItems.between.Goals as goal

pub returns-then-count-gt-MAX_SOURCE_SIZE-clause-none : goal.returns-then-count-gt-MAX_SOURCE_SIZE-clause-none
returns-then-count-gt-MAX_SOURCE_SIZE-clause-none c =
    let many : 2 ^ 62 < distance c.args.from c.args.to = search rules in
    range_long c.args.from c.args.to many

pub returns-clause-some : goal.returns-clause-some
returns-clause-some c =
    let n = c.if-from-to.count in
    let same : n ≡ distance c.args.from c.args.to = search rules in
    let few : n ≤ 2 ^ 62 = omega (arith, c.if-count-gt-MAX_SOURCE_SIZE.false) in
    range_short c.args.from c.args.to n same few
    ∙ ap (λ (a : ℤ). trace (placed 0 (counted a n)) end.Done) (sym (to_z-of_z w64 c.args.from c.ranges.from))
