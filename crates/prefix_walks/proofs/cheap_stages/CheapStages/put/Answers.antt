use Rattle.std.proofs.Common.{◌≡◌, ◌≤◌, List, [], length, subst, arith}
use Rattle.lambda_values.specs.Earlier.{Numbers, nothing_named}
use Rattle.lambda_values.specs.declared.item.Item.{Item}
use Rattle.trace.specs.declared.item.End.TheVariants as end
use Rattle.trace.specs.Sinks.{IsFed}
use Rattle.trace.specs.Stages.{stages_of}
use Rattle.trace.specs.Trace.{Trace}
use Rattle.batch_eval.specs.BatchItems.{batch_items}
use Rattle.batch_eval.specs.Faultless.{left_by}
use Rattle.batch_eval.proofs.FaultlessLemmas.{all_taken}
use Rattle.prefix_walks.proofs.cheap_stages.CheapStages.put.Goals as goal

pub returns : goal.returns
returns c =
    let none : List Item = [] in
    let numbers : Numbers = nothing_named in
    let gs = stages_of c.args.self.now.stages.now in
    let xs = batch_items c.args.lent.now in
    let taken = λ (b : List Item) (ys : List Item). length ys ≤ 1024 → b ≡ ys in
    all_taken taken (left_by gs xs) c.feed_at_once.new.sink c.feed_at_once.result c.feed_at_once.ensures.flow
    c.feed_at_once.ensures.refused
    (subst (λ (t : Trace). IsFed taken none t c.feed_at_once.result c.feed_at_once.new.sink)
    ((c.args.self.now.cheap numbers).0 0 c.empty-env.result tt xs end.Done)
    (c.feed_at_once.ensures.fed none (λ few. c.clear.ensures)))
    (let few = (c.args.self.now.cheap numbers).1 xs in omega (arith, few, c.requires))
