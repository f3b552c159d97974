use Rattle.std.proofs.Common.{◌++◌, sym, ap, ◌∙◌, arith}
use Rattle.std.proofs.lemmas.List.{append-nil}
use Rattle.trace.specs.Stages.{stages_of}
use Rattle.batch_eval.specs.Faultless.{left_by}
use Rattle.batch_eval.specs.BatchItems.{batch_items}
use Rattle.prefix_walks.specs.Scans.{all_items}
use Rattle.batch_eval.proofs.FaultlessLemmas.{left_none}
use Rattle.prefix_walks.proofs.PieceLemmas.{lent_next}
use Rattle.prefix_walks.proofs.prefix_pieces.add_lent.Goals as goal

pub loop-taken-init : goal.loop-taken-init
loop-taken-init c =
    let all = all_items c.args.pieces.now.items in (
      sym (ap (λ xs. all ++ xs) (left_none (stages_of c.args.cheap.stages.now)) ∙ append-nil all),
      c.requires.folds,
      omega arith,
    )

pub loop-taken-preserved : goal.loop-taken-preserved
loop-taken-preserved c =
    let gs = stages_of c.args.cheap.stages.now in
    let taken = c.loop-taken.taken in
    let count = c.min-count.result in (
      lent_next gs c.args.cheap.cheap (batch_items c.args.lent.now) (all_items c.args.pieces.now.items)
          (all_items c.loop-taken.pieces.items) c.put.new.buffer (all_items c.add_left.new.pieces.items) taken count
          c.in_ok-add_left.ensures.ok (c.put.ensures ∙ ap (left_by gs) c.part-part.ensures) c.loop-taken.invariant.0,
      c.add_left.ensures.folds,
      omega (arith, c.min-count.ensures, c.loop-taken.invariant.2),
    )
