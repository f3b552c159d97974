use Rattle.std.proofs.Common.{◌≡◌, Some, length, sym, ap, ◌∙◌, rules, w64, to_z, of_z}
use Rattle.reduce_ops.specs.Operators.{value_of}
use Rattle.batch_eval.specs.Batches.{flagged_values, holds}
use Rattle.batch_eval.specs.LaneValues.{value_at}
use Rattle.prefix_walks.specs.Batches.{folded_values}
use Rattle.prefix_walks.proofs.BatchLemmas.{batch_stands}
use Rattle.prefix_walks.proofs.folding.folded_flagged.Goals as goal

pub returns-in-Some-clause-stands : goal.returns-in-Some-clause-stands
returns-in-Some-clause-stands c = λ xs same.
    let vs = flagged_values (holds c.args.lanes.set) (value_at c.args.lanes.values) c.args.lanes.flags.now
    (length c.args.lanes.flags.now) in
    let fits : to_z w64 (of_z w64 c.in-Some.value) ≡ c.in-Some.value = search rules in
    let value = c.of.ensures.stands.value ∙ ap Some fits ∙ c.in-Some.ensures
    ∙ ap (λ o. folded_values (value_of o) c.args.counts vs) (sym c.of.ensures.op) in
    batch_stands c.of.result c.args.counts vs xs value c.of.ensures.stands.ending same

pub returns-in-None-clause-stands : goal.returns-in-None-clause-stands
returns-in-None-clause-stands c = λ xs same.
    let vs = flagged_values (holds c.args.lanes.set) (value_at c.args.lanes.values) c.args.lanes.flags.now
    (length c.args.lanes.flags.now) in
    let value = c.none.ensures.stands.value ∙ c.in-None.ensures
    ∙ ap (λ o. folded_values (value_of o) c.args.counts vs) (sym c.none.ensures.op) in
    batch_stands c.none.result c.args.counts vs xs value c.none.ensures.stands.ending same
