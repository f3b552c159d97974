use Rattle.std.proofs.Common.{rules, ◌∙◌, refl, sym, pos, length, Some, w64, to_z, of_z}
use Rattle.reduce_ops.specs.Operators.{value_of}
use Rattle.prefix_scan.proofs.LoopLemmas.{fold_none, fold_first, fold_next, fold_left}
use Rattle.prefix_scan.proofs.scan.fold_by.Goals as goal

pub returns-then-from-to : goal.returns-then-from-to
returns-then-from-to c = search (rules, fold_none)

pub loop-i-init : goal.loop-i-init
loop-i-init c =
    fold_first (value_of c.args.op) c.args.range (length c.args.items.now) c.positions_within-from.result.0
    c.positions_within-from.result.1
    c.args.start c.args.items.now (record { origin = 0; value = pos 0 }) (to_z w64 (of_z w64 c.put_on-folded.result))
    c.positions_within-from.ensures refl c.if-from-to.false (search rules)

pub loop-i-preserved : goal.loop-i-preserved
loop-i-preserved c =
    fold_next (value_of c.args.op) c.args.range (length c.args.items.now) c.positions_within-from.result.0
    c.positions_within-from.result.1 c.loop-i.i
    (to_z w64 c.loop-i.folded-bits) c.args.items.now (record { origin = 0; value = pos 0 })
    (to_z w64 (of_z w64 c.apply-folded.result)) c.positions_within-from.ensures refl c.loop-i.auto.i
    c.loop-i-test.true (search rules)
    ∙ c.loop-i.invariant

pub returns : goal.returns
returns c =
    sym (fold_left (value_of c.args.op) c.args.range (length c.args.items.now) c.positions_within-from.result.0
    c.positions_within-from.result.1 c.loop-i.i
    (Some (to_z w64 c.loop-i.folded-bits)) c.args.items.now c.positions_within-from.ensures refl c.loop-i-test.false)
    ∙ c.loop-i.invariant
