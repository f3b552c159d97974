use Rattle.std.proofs.Common.{◌≡◌, ℕ, Bool, Some, sym, ap, ◌∙◌, arith, rules, w64, to_z, of_z}
use Rattle.lambda_values.specs.Streams.{counted, run_values}
use Rattle.reduce_ops.specs.Operators.{value_of}
use Rattle.prefix_walks.specs.Batches.{folded_values}
use Rattle.prefix_walks.proofs.BatchLemmas.{batch_stands}
use Rattle.prefix_walks.proofs.folding.folded_run.Goals.{then-counts+in_ok-value, else-counts+in_ok-value-2}
use Rattle.prefix_walks.proofs.folding.folded_run.Goals as goal

pub returns-then-run-eq0-clause-stands : goal.returns-then-run-eq0-clause-stands
returns-then-run-eq0-clause-stands c = λ xs same.
    let run = c.args.run in
    let none_left : run.count ≡ 0 = omega (arith, c.if-run-eq0.true) in
    let value = c.none.ensures.stands.value
    ∙ sym (ap (λ (n : ℕ). folded_values (value_of c.none.result.op) c.args.counts (counted run.first n)) none_left) in
    batch_stands c.none.result c.args.counts (run_values run) xs value c.none.ensures.stands.ending same

pub returns-clause-stands : goal.returns-clause-stands
returns-clause-stands c = λ xs same.
    let vs = run_values c.args.run in
    let found : Some (to_z w64 c.if-counts.value-bits) ≡ folded_values (value_of c.args.op) c.args.counts vs =
    elim c.if-counts.branch [
      | then-counts+in_ok-value w ↦
          let fits : to_z w64 (of_z w64 w.in_ok-value.value) ≡ w.in_ok-value.value = search rules in
          ap Some (w.value-is ∙ fits) ∙ w.in_ok-value.ensures
          ∙ ap (λ (b : Bool). folded_values (value_of c.args.op) b vs) (sym w.if-counts.true)
      | else-counts+in_ok-value-2 w ↦
          let fits : to_z w64 (of_z w64 w.in_ok-value-2.value) ≡ w.in_ok-value-2.value = search rules in
          ap Some (w.value-is ∙ fits) ∙ w.in_ok-value-2.ensures
          ∙ ap (λ (b : Bool). folded_values (value_of c.args.op) b vs) (sym w.if-counts.false)
    ] in
    let value = c.of.ensures.stands.value ∙ found
    ∙ ap (λ o. folded_values (value_of o) c.args.counts vs) (sym c.of.ensures.op) in
    batch_stands c.of.result c.args.counts vs xs value c.of.ensures.stands.ending same
