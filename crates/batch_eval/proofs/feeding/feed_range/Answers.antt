use Rattle.std.proofs.Common.{◌≡◌, ◌∙◌, [], add-one, sym}
use Rattle.lambda_values.specs.Term.{truth_of}
use Rattle.batch_eval.proofs.SetItemLemmas.{none_left}
use Rattle.batch_eval.proofs.feeding.feed_range.Goals as goal

pub returns-then-map_counted-clause-fed : goal.returns-then-map_counted-clause-fed
returns-then-map_counted-clause-fed g c = λ xs took.
    let split = c.in-Some-Map-default.ensures in
    let later = rw (c.map_counted.ensures c.if-map_counted.true, split.first, split.env, add-one) at
    (c.feed_space.ensures.fed xs took) in
    rw (split.stages, c.in-Some-Map-default.field-0-0-is) later

pub returns-in-Some-clause-fed : goal.returns-in-Some-clause-fed
returns-in-Some-clause-fed g c = λ xs took.
    let split = c.in-Some-Filter-default.ensures in
    let later = c.in-Some-Filter-default.later in
    let last : later.stages.now ≡ [] = none_left later.stages.now (sym c.is_empty.ensures ∙ c.if-is_empty.true) in
    let fed = c.give_counted.ensures.fed (truth_of c.in-Some-Filter-default.test) c.in-Some.ensures xs took in
    rw (split.stages, c.in-Some-Filter-default.field-0-0-is, last) fed

pub returns-clause-fed : goal.returns-clause-fed
returns-clause-fed g c = λ xs took. rw c.count_up.ensures at (c.feed_space-2.ensures.fed xs took)
