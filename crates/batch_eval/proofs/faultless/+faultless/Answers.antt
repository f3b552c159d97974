use Rattle.std.proofs.Common.{◌∙◌, refl, sym}
use Rattle.lambda_values.specs.Term.{long_of, truth_of}
use Rattle.batch_eval.proofs.FaultlessLemmas.{binary_values, cell_values, choose_truths, choose_values, compare_truths}
use Rattle.batch_eval.proofs.FaultlessLemmas.{connect_truths, opposite_truths, reference_values, row_values}
use Rattle.batch_eval.proofs.FaultlessLemmas.{unary_there, unary_values, when_some}
use Rattle.batch_eval.proofs.faultless.+faultless.Goals as goal

pub after_long-returns-in-Parameter : goal.after_long-returns-in-Parameter
after_long-returns-in-Parameter t c = rw c.in-Parameter.is (λ env x. (x.value, λ other same. refl))

pub after_long-returns-in-Reference : goal.after_long-returns-in-Reference
after_long-returns-in-Reference t c = rw c.in-Reference.is (reference_values c.args.names _ c.if-names.true)

pub after_long-returns-in-Cell : goal.after_long-returns-in-Cell
after_long-returns-in-Cell t c = rw c.in-Cell.is (cell_values c.args.names _ c.if-names-2.true)

pub after_long-returns-in-Row : goal.after_long-returns-in-Row
after_long-returns-in-Row t c = rw c.in-Row.is (row_values c.args.names)

pub after_operator-returns-in_ok-checked_sub-in-Never : goal.after_operator-returns-in_ok-checked_sub-in-Never
after_operator-returns-in_ok-checked_sub-in-Never t c =
    rw c.in-Unary.is (when_some c.after_long.result
    (unary_values c.args.names c.in-Unary.operator (long_of c.in-Unary.operand.value)
    (unary_there c.in-Unary.operator (sym c.faults.ensures ∙ c.in-Never.is)))
    (rw c.deref.ensures at c.after_long.ensures))

pub after_operator-returns-in_ok-left-in-Binary : goal.after_operator-returns-in_ok-left-in-Binary
after_operator-returns-in_ok-left-in-Binary t c =
    let pair = c.in-Binary.pair.value in
    let total = rw c.deref-in-Binary.ensures at c.in_ok-own-in-Binary.ensures in
    let left = rw c.deref-in-Binary-2.ensures at c.in_ok-left-in-Binary.ensures in
    rw c.in-Binary.is (when_some c.after_long-in-Binary-2.result
    (binary_values c.args.names c.in-Binary.operator (long_of pair.left) (long_of pair.right) total left)
    (rw c.deref-in-Binary-3.ensures at c.after_long-in-Binary-2.ensures))

pub after_operator-returns-in_ok-left-in-Choose-2 : goal.after_operator-returns-in_ok-left-in-Choose-2
after_operator-returns-in_ok-left-in-Choose-2 t c =
    let choice = c.in-Choose.choice.value in
    let test = rw c.deref-in-Choose.ensures at c.in_ok-left-in-Choose.ensures in
    let chosen = rw c.deref-in-Choose-2.ensures at c.in_ok-left-in-Choose-2.ensures in
    rw c.in-Choose.is (when_some c.after_long-in-Choose-2.result
    (choose_values c.args.names (truth_of choice.condition) (long_of choice.chosen) (long_of choice.other) test
    chosen) (rw c.deref-in-Choose-3.ensures at c.after_long-in-Choose-2.ensures))

pub after_test-returns-in_ok-left-in-Compare : goal.after_test-returns-in_ok-left-in-Compare
after_test-returns-in_ok-left-in-Compare t c =
    let pair = c.in-Compare.pair.value in
    let left = rw c.deref.ensures at c.in_ok-left-in-Compare.ensures in
    rw c.in-Compare.is (when_some c.after_long-in-Compare.result
    (compare_truths c.args.names c.in-Compare.field-0 (long_of pair.left) (long_of pair.right) left)
    (rw c.deref-in-Compare.ensures at c.after_long-in-Compare.ensures))

pub after_test-returns-in_ok-checked_sub-in-Not : goal.after_test-returns-in_ok-checked_sub-in-Not
after_test-returns-in_ok-checked_sub-in-Not t c =
    rw c.in-Not.is (when_some c.after_test.result (opposite_truths c.args.names (truth_of c.in-Not.operand.value))
    (rw c.deref-in-Not.ensures at c.after_test.ensures))

pub after_test-returns-in_ok-left-in-Connect : goal.after_test-returns-in_ok-left-in-Connect
after_test-returns-in_ok-left-in-Connect t c =
    let pair = c.in-Connect.pair.value in
    let left = rw c.deref-in-Connect.ensures at c.in_ok-left-in-Connect.ensures in
    rw c.in-Connect.is (when_some c.after_test-in-Connect-2.result
    (connect_truths c.args.names c.in-Connect.field-0 (truth_of pair.left) (truth_of pair.right) left)
    (rw c.deref-in-Connect-2.ensures at c.after_test-in-Connect-2.ensures))

pub after_test-returns-in_ok-left-in-Choose-2 : goal.after_test-returns-in_ok-left-in-Choose-2
after_test-returns-in_ok-left-in-Choose-2 t c =
    let choice = c.in-Choose.choice.value in
    let test = rw c.deref-in-Choose.ensures at c.in_ok-left-in-Choose.ensures in
    let chosen = rw c.deref-in-Choose-2.ensures at c.in_ok-left-in-Choose-2.ensures in
    rw c.in-Choose.is (when_some c.after_test-in-Choose-3.result
    (choose_truths c.args.names (truth_of choice.condition) (truth_of choice.chosen) (truth_of choice.other) test
    chosen) (rw c.deref-in-Choose-3.ensures at c.after_test-in-Choose-3.ensures))
