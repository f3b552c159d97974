use Rattle.std.proofs.Common.{rules, ◌∙◌, refl, sym, pos, length, Some, w64, to_z, of_z}
use Rattle.reduce_ops.specs.Operators.{value_of}
use Rattle.prefix_scan.specs.Scans.{fold_values_at, scan_values_at}
use Rattle.prefix_scan.proofs.ValueLemmas.{fold_none, fold_left, scan_none, scan_left, begun, gone_on}
use Rattle.prefix_scan.proofs.scan.scan_values_by.Goals as goal

pub returns-then-from-to-clause-values : goal.returns-then-from-to-clause-values
returns-then-from-to-clause-values c = search (rules, scan_none)

pub returns-then-from-to-clause-fold : goal.returns-then-from-to-clause-fold
returns-then-from-to-clause-fold c = search (rules, fold_none)

pub loop-i-init : goal.loop-i-init
loop-i-init c =
    begun (value_of c.args.op) c.args.range (length c.args.values.now) c.positions_within-from.result.0
    c.positions_within-from.result.1
    c.args.start c.args.values.now (pos 0) (to_z w64 (of_z w64 c.put_on-running.result))
    (to_z w64 (of_z w64 c.put_on-running.result)) c.positions_within-from.ensures refl c.if-from-to.false
    (search rules) refl

pub loop-i-preserved : goal.loop-i-preserved
loop-i-preserved c =
    gone_on (value_of c.args.op) c.args.range (length c.args.values.now) c.positions_within-from.result.0
    c.positions_within-from.result.1 c.loop-i.i
    (to_z w64 c.loop-i.running-bits) c.args.values.now c.loop-i.values (pos 0)
    (to_z w64 (of_z w64 c.apply-running.result)) (to_z w64 (of_z w64 c.apply-running.result))
    (fold_values_at (value_of c.args.op) c.args.range 0 c.args.start c.args.values.now)
    (scan_values_at (value_of c.args.op) c.args.range 0 c.args.start c.args.values.now)
    c.positions_within-from.ensures refl c.loop-i.auto.i c.loop-i-test.true (search rules) refl c.loop-i.invariant.0
    c.loop-i.invariant.1 c.loop-i.invariant.2

pub returns-clause-values : goal.returns-clause-values
returns-clause-values c =
    sym (scan_left (value_of c.args.op) c.args.range (length c.args.values.now) c.positions_within-from.result.0
    c.positions_within-from.result.1 c.loop-i.i
    (Some (to_z w64 c.loop-i.running-bits)) c.loop-i.values c.positions_within-from.ensures (sym c.loop-i.invariant.0)
    c.loop-i-test.false)
    ∙ c.loop-i.invariant.2

pub returns-clause-fold : goal.returns-clause-fold
returns-clause-fold c =
    sym (fold_left (value_of c.args.op) c.args.range (length c.args.values.now) c.positions_within-from.result.0
    c.positions_within-from.result.1 c.loop-i.i
    (Some (to_z w64 c.loop-i.running-bits)) c.loop-i.values c.positions_within-from.ensures (sym c.loop-i.invariant.0)
    c.loop-i-test.false)
    ∙ c.loop-i.invariant.1
