use Rattle.std.proofs.Common.{◌+◌, length, take, flat_map, sym, ap, ◌∙◌, Vec, Global}
use Rattle.lambda_values.specs.declared.item.Item.{Item}
use Rattle.trace.specs.Stops.{stop_at}
use Rattle.trace.proofs.StopLemmas.{pieces_stop, pieces_pass, stop_within, cut_here}
use Rattle.trace.proofs.chunk.searching.first_stop.Goals as goal

pub returns-in-Some-clause-some : goal.returns-in-Some-clause-some
returns-in-Some-clause-some g c =
    let h = g.S.EndTest.stops c.args.stop.now in
    let ps = c.args.pieces.now in
    let w = c.loop-whole.whole in
    let k = c.in-Some.within in
    let piece = c.index-pieces-whole.result in
    let here = ap (stop_at h) (sym c.deref.ensures.value) ∙ sym c.stop_in.ensures ∙ c.in-Some.is in (
      length (flat_map (λ (p : Vec Item Global). p.items) (take w ps)) + k,
      pieces_stop h (λ (p : Vec Item Global). p.items) ps w k piece c.in-Some.end c.loop-whole-test.true
          c.index-pieces-whole.is here c.loop-whole.invariant,
      cut_here (λ (p : Vec Item Global). p.items) ps w k piece c.loop-whole-test.true c.index-pieces-whole.is
          (stop_within h piece.items k c.in-Some.end here),
    )

pub loop-whole-preserved : goal.loop-whole-preserved
loop-whole-preserved g c =
    let h = g.S.EndTest.stops c.args.stop.now in
    let none = ap (stop_at h) (sym c.deref.ensures.value) ∙ sym c.stop_in.ensures ∙ c.in_default.is in
    pieces_pass h (λ (p : Vec Item Global). p.items) c.args.pieces.now c.loop-whole.whole c.index-pieces-whole.result
    c.loop-whole-test.true c.index-pieces-whole.is none c.loop-whole.invariant
