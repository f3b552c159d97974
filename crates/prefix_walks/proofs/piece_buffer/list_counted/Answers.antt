use Rattle.std.proofs.Common.{length, sym, ap, ◌∙◌, arith}
use Rattle.std.proofs.lemmas.List.{ext_get_or}
use Rattle.std.proofs.lemmas.List.FromFn.{get_or-range_with_len, length-range_with_len}
use Rattle.std.specs.List.{range_with_len}
use Rattle.prefix_walks.specs.Placing.{places_from}
use Rattle.prefix_walks.proofs.piece_buffer.list_counted.Goals as goal

pub returns-after-loop-i : goal.returns-after-loop-i
returns-after-loop-i c =
    let n = length c.args.places.now in
    let first = c.in-Some.first in
    let size = c.loop-i.invariant.0 in
    ext_get_or 0 c.loop-i.places (range_with_len first n) (size ∙ sym (length-range_with_len first n))
    (λ k below. c.loop-i.invariant.1 k (omega (arith, below, size, c.loop-i-test.false))
    ∙ sym (get_or-range_with_len first n k 0 (omega (arith, below, size))))
    ∙ sym (ap (λ s. places_from s c.args.places.now) c.in-Some.is)
