use Rattle.std.proofs.Common.{refl, sym, ◌∙◌, subst}
use Rattle.trace.specs.Trace.{Trace}
use Rattle.slice_ops.specs.declared.slice_part.SlicePart.{SlicePart}
use Rattle.slice_ops.specs.Slices.{slice_of}
use Rattle.slice_ops.specs.Parts.{IsJoined}
use Rattle.slice_ops.proofs.JoinLemmas.{stays, joined}
use Rattle.slice_ops.proofs.slice_part.SlicePart.join.Goals as goal

pub returns-then-self-clause-ok : goal.returns-then-self-clause-ok
returns-then-self-clause-ok c d n env a b p q = stays n env a b d c.args.self c.if-self.true p

pub returns-clause-ok : goal.returns-clause-ok
returns-clause-ok c d n env a b p q =
    let left = c.args.self in
    let right = c.args.right in
    let part : SlicePart = record {
      slice = left.slice;
      stage = left.stage;
      chunk = c.shorten_joined.new.chunk;
      stopped = c.shorten_joined.result;
    } in
    let kept = subst (λ (t : Trace). IsJoined (slice_of left.slice.now) t right.stopped c.shorten_joined.new.chunk
    c.shorten_joined.result) c.in_default-append.ensures.ok c.shorten_joined.ensures in
    joined n env a b left right part c.if-self.false (sym c.end.ensures ∙ c.in-Done.is) d p q refl refl kept
