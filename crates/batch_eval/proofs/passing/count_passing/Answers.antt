use Rattle.std.proofs.Common.{◌≡◌, Ok, length, refl, subst, arith}
use Rattle.lambda_values.specs.Term.{truth_of}
use Rattle.lambda_values.specs.Value.{truth_value}
use Rattle.lambda_values.specs.declared.item.Item.{Item}
use Rattle.batch_eval.proofs.RowLemmas.{counts_of, lane_is}
use Rattle.batch_eval.proofs.passing.count_passing.Goals as goal

pub count_in_registers-requires-clause-rows : goal.count_in_registers-requires-clause-rows
count_in_registers-requires-clause-rows c =
    let l = c.args.lanes in
    c.of.ensures.has (length l.values.now) (counts_of l.start (length l.values.now) l.counts)
    (λ is. let same = l.listed is in omega arith)

pub returns-clause-passed : goal.returns-clause-passed
returns-clause-passed c = λ k below.
    let l = c.args.lanes in
    subst (λ (x : Item). truth_value (truth_of c.args.test.now) x c.args.env.now ≡ Ok c.args.wanted)
    (lane_is l.start l.places.now l.places.now l.values.now l.values.now c.of.result c.of.ensures.place refl refl k)
    (c.count_in_registers.ensures.passed k below)

pub returns-clause-stop : goal.returns-clause-stop
returns-clause-stop c = λ below is.
    let l = c.args.lanes in
    let k = c.count_in_registers.result in
    let same = lane_is l.start l.places.now l.places.now l.values.now l.values.now c.of.result c.of.ensures.place refl
    refl k in
    c.count_in_registers.ensures.stop below (rw same is)
