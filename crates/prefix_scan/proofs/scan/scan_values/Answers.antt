use Rattle.std.proofs.Common.{◌∙◌, sym, ap}
use Rattle.reduce_ops.specs.Operators.{value_of}
use Rattle.prefix_scan.specs.Scans.{fold_values_at, scan_values_at}
use Rattle.prefix_scan.proofs.ValueLemmas.{values_folded, values_scanned}
use Rattle.prefix_scan.proofs.scan.scan_values.Goals as goal

pub returns-clause-values : goal.returns-clause-values
returns-clause-values c = λ xs e.
    sym (values_scanned (value_of c.args.op) c.args.range 0 c.args.start xs)
    ∙ ap (scan_values_at (value_of c.args.op) c.args.range 0 c.args.start) e ∙ sym c.scan_each_value.ensures.values

pub returns-clause-fold : goal.returns-clause-fold
returns-clause-fold c = λ xs e.
    c.scan_each_value.ensures.fold ∙ sym (ap (fold_values_at (value_of c.args.op) c.args.range 0 c.args.start) e)
    ∙ values_folded (value_of c.args.op) c.args.range 0 c.args.start xs
