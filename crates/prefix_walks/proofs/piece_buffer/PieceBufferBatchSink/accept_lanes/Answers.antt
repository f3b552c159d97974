use Rattle.std.proofs.Common.{length, refl, sym, ap, ◌∙◌, arith}
use Rattle.batch_eval.specs.Batches.{laid_items}
use Rattle.batch_eval.proofs.LaneLemmas.{length_laid}
use Rattle.prefix_walks.proofs.PlacingLemmas.{first_taken, laid_at, length_front}
use Rattle.prefix_walks.proofs.piece_buffer.PieceBufferBatchSink.accept_lanes.Goals as goal

pub returns-then-self-eq0-clause-fed : goal.returns-then-self-eq0-clause-fed
returns-then-self-eq0-clause-fed c = λ xs took.
    let b = c.self.inside in
    let l = c.args.lanes in
    let none = ap length (sym c.self.view_is) ∙ length_front b.start b.places b.values b.count c.self.invariant in
    let size = length_laid l.start l.places.now l.values.now in (
      λ few. first_taken xs (laid_items l.start l.places.now l.values.now) c.args.self.now c.hold.new.self took
          (omega (arith, none, c.if-self-eq0.true))
          (λ h. c.hold.ensures (omega (arith, h, size)) ∙ laid_at l.start l.places.now l.values.now l.listed) few,
      refl,
    )
