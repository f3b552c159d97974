use Rattle.std.proofs.Common.{◌≡◌, ℤ, List, length, ap, sym, ◌∙◌, ◌++◌, [], arith}
use Rattle.spliterator.specs.Parts.{plain_values, plain_items, all_values, front_before, front_of}
use Rattle.spliterator.proofs.PartLemmas.{empty_plain}
use Rattle.spliterator.proofs.concat_split.ConcatSplit.skip_empty_parts.Goals as goal

pub invariant_of-self : goal.invariant_of-self
invariant_of-self c =
    let no_items : length (plain_items c.loop-next.self.head) ≡ 0 = let size = c.exact_size.ensures in
    let none = c.loop-next-test.true in omega arith in
    let head : plain_values c.loop-next.self.head ≡ [] = empty_plain c.loop-next.self.head no_items in
    record {
      sized = c.loop-next.self.sized ∙ (λ i. length (head i ++ all_values (c.in-Some.ensures.cases.0 i)));
      short = c.loop-next.self.short;
    }

pub loop-next-preserved : goal.loop-next-preserved
loop-next-preserved c =
    let tail = c.loop-next.self.tail.now in
    let no_items : length (plain_items c.loop-next.self.head) ≡ 0 = let size = c.exact_size.ensures in
    let none = c.loop-next-test.true in omega arith in
    let head : plain_values c.loop-next.self.head ≡ [] = empty_plain c.loop-next.self.head no_items in (
      c.loop-next.invariant.0,
      sym (λ i. head i ++ all_values (c.in-Some.ensures.cases.0 i)) ∙ c.loop-next.invariant.1,
      ap front_of (sym c.in-Some.ensures.cases.0)
          ∙ sym (ap (λ (us : List ℤ). front_before us (front_of tail) (all_values tail)) head)
          ∙ c.loop-next.invariant.2,
    )
