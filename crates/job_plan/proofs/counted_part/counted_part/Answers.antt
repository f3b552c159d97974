use Rattle.std.proofs.Common.{◌≡◌, true, length, ap, ◌∙◌, arith}
use Rattle.trace.specs.Stages.{stages_of}
use Rattle.batch_eval.specs.Faultless.{AreFaultless, AreMaps}
use Rattle.job_plan.specs.Parts.{walk_in}
use Rattle.prefix_walks.specs.Pieces.{span}
use Rattle.job_plan.proofs.CountLemmas.{counted_stands}
use Rattle.job_plan.proofs.counted_part.counted_part.Goals as goal

pub returns : goal.returns
returns c = λ env.
    let walk = walk_in c.args.source.now in
    let gs = stages_of c.args.segment.now.stages.list.items in
    let maps : AreMaps gs = rw c.deref-stages.ensures.value at (c.are_maps.ensures c.if-not-are_maps.false) in
    let calm : AreFaultless true gs = rw c.deref-stages.ensures.value at
    (c.are_faultless.ensures c.if-not-are_faultless.false) in
    let size : c.size-size.result ≡ length walk.items =
    omega (arith, c.size-size.ensures, c.if-size-gt-MAX_SOURCE_SIZE.false) in
    counted_stands c.args.segment.now c.in-Fold.fold c.of_count-part.result c.args.window.from c.args.window.to walk
    c.within-count.result.1 c.piece_end.result env c.in-Fold.is maps calm
    (c.within-count.ensures.count ∙ ap (span c.args.window.from c.args.window.to) size) c.piece_end.ensures
    c.of_count-part.ensures
