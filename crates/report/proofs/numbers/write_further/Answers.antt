use Rattle.std.proofs.Common.{rules}
use Rattle.report.specs.Numbers.{separator_bytes}
use Rattle.report.proofs.NumberLemmas.{further_next}
use Rattle.report.proofs.numbers.write_further.Goals as goal

pub loop-at-preserved : goal.loop-at-preserved
loop-at-preserved c = (
  search rules,
  search rules,
  further_next (separator_bytes c.args.separator) c.args.text.now.items c.loop-at.text.items
      c.extend_from_slice.new.self.items c.args.values.now c.loop-at.at c.min-count.result c.put_further-start.new.room
      c.put_further-start.result
      c.loop-at.invariant.2 c.put_further-start.ensures.put (search rules),
)
