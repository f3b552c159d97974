use Rattle.std.proofs.Common.{List, [], sym, ap, ◌∙◌}
use Rattle.lambda_values.specs.declared.item.Item.{Item}
use Rattle.job_plan.specs.Passages.{line_in}
use Rattle.job_plan.specs.Parts.{flow_of, walk_in}
use Rattle.job_plan.proofs.PassageLemmas.{more_fed, fault_fed, enough_fed, none_fed, if_ok_map}
use Rattle.job_plan.proofs.nest.feed_source.Goals as goal

pub returns-then-has_enough : goal.returns-then-has_enough
returns-then-has_enough g c =
    let enough = sym c.has_enough.ensures ∙ ap flow_of c.if-has_enough.true in
    let no_items : List Item = [] in
    if_ok_map _ _ c.close.result
    (λ made closed. none_fed (g.S.Closing.stands made) (line_in c.args.line) c.args.line.env.now
    (walk_in c.args.source.now) (λ u. closed enough no_items u c.requires.begun))
    c.close.ensures.enough

pub returns-in-More : goal.returns-in-More
returns-in-More g c =
    let no_items : List Item = [] in
    let fed = c.in_ok-feed.ensures.fed no_items c.requires.begun in
    let given = rw c.in-More.is at fed in
    if_ok_map _ _ c.close-in-More.result
    (λ made closed. more_fed (g.S.Closing.stands made) (line_in c.args.line) c.args.line.env.now
    (walk_in c.args.source.now) c.end.result c.end.ensures given.1 (closed _ given.0))
    c.close-in-More.ensures.closed

pub returns-in-Fault : goal.returns-in-Fault
returns-in-Fault g c =
    let no_items : List Item = [] in
    let fed = c.in_ok-feed.ensures.fed no_items c.requires.begun in
    let given = rw c.in-Fault.is at fed in
    if_ok_map _ _ c.close-in-Fault.result
    (λ made closed. fault_fed (g.S.Closing.stands made) (line_in c.args.line) c.args.line.env.now
    (walk_in c.args.source.now) c.in-Fault.fault given.1 (closed _ given.0))
    c.close-in-Fault.ensures.closed

pub returns-in-Enough : goal.returns-in-Enough
returns-in-Enough g c =
    let no_items : List Item = [] in
    let fed = c.in_ok-feed.ensures.fed no_items c.requires.begun in
    let given = rw c.in-Enough.is at fed in
    let flow = rw c.in-Enough.is at c.in_ok-feed.ensures.flow in
    if_ok_map _ _ c.close-in-Enough.result
    (λ made closed. enough_fed (g.S.Closing.stands made) (line_in c.args.line) c.args.line.env.now
    (walk_in c.args.source.now) given.0 (λ u. closed flow _ u given.2))
    c.close-in-Enough.ensures.enough
