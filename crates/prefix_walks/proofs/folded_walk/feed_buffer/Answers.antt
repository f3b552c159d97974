use Rattle.std.proofs.Common.{◌≡◌, ◌+◌, ◌≤◌, ℕ, min, Option, Some, None, arith}
use Rattle.batch_eval.proofs.LaneLemmas.{length_laid}
use Rattle.prefix_walks.specs.Pieces.{span}
use Rattle.prefix_walks.proofs.folded_walk.feed_buffer.Goals as goal

within : (from : ℕ) (to : Option ℕ) (n start count : ℕ) → start ≡ min from n → count ≡ span from to n
    → start + count ≤ n
within from None n start count s c = omega (arith, s, c)
within from (Some to) n start count s c = omega (arith, s, c)

pub part-part-requires : goal.part-part-requires
part-part-requires g c =
    let l = c.lanes-lanes.result in
    let fits = within c.args.window.from c.args.window.to c.count.result c.within-from.result.0 c.within-from.result.1
    c.within-from.ensures.start c.within-from.ensures.count in
    omega (arith, fits, c.count.ensures, length_laid l.start l.places.now l.values.now)
