use Rattle.std.proofs.Common.{inl}
use Rattle.completion_core.specs.Graph.{start}
use Rattle.completion_core.proofs.HistoryLemmas.{runs_after_all}
use Rattle.completion_core.proofs.NamedArrivalLemmas.{makes_once}
use Rattle.completion_core.proofs.PlayLemmas.{plays_on, first_refused, played_legal, played_once, illegal_list}
use Rattle.completion_core.specs.Runs.{after_all}
use Rattle.std.proofs.Common.{take}
use Rattle.completion_core.proofs.replay.play.Goals as goal

pub loop-index-preserved : goal.loop-index-preserved
loop-index-preserved c =
    let i = c.loop-index.invariant in
    let e = c.in_default-replay.ensures in
    let g = start c.args.nodes c.args.ends in
    let taken = e.taken (after_all (take c.loop-index.index c.args.actions.now) g) i.stands in
    plays_on c.args.actions.now g c.loop-index.index c.loop-index.graph c.loop-index.runs.items i
    c.index-actions-index.result c.replay.new.graph c.replay.new.runs.items c.loop-index-test.true
    c.index-actions-index.is taken.0 taken.1 e.logged

pub returns-in-Err-clause-refused : goal.returns-in-Err-clause-refused
returns-in-Err-clause-refused c =
    let i = c.loop-index.invariant in
    let g = start c.args.nodes c.args.ends in
    inl (first_refused c.args.actions.now g c.loop-index.index c.loop-index.graph c.loop-index.runs.items i
    c.index-actions-index.result c.in-Err.reason c.loop-index-test.true c.index-actions-index.is
    (c.in-Err.ensures.refused (after_all (take c.loop-index.index c.args.actions.now) g) i.stands))

pub returns-in-Err-clause-illegal : goal.returns-in-Err-clause-illegal
returns-in-Err-clause-illegal c lt l =
    let i = c.loop-index.invariant in
    let g = start c.args.nodes c.args.ends in
    illegal_list c.loop-index.index c.in-Err.reason c.args.actions.now g
    (first_refused c.args.actions.now g c.loop-index.index c.loop-index.graph c.loop-index.runs.items i
    c.index-actions-index.result c.in-Err.reason c.loop-index-test.true c.index-actions-index.is
    (c.in-Err.ensures.refused (after_all (take c.loop-index.index c.args.actions.now) g) i.stands)) lt l

pub returns-clause-once : goal.returns-clause-once
returns-clause-once c = played_once c.args.actions.now (start c.args.nodes c.args.ends) c.loop-index.index
    c.loop-index.graph c.loop-index.runs.items c.loop-index.invariant

pub returns-clause-after_all : goal.returns-clause-after_all
returns-clause-after_all c =
    runs_after_all c.args.actions.now c.args.nodes c.args.ends
    (played_legal c.args.actions.now (start c.args.nodes c.args.ends) c.loop-index.index c.loop-index.graph
    c.loop-index.runs.items c.loop-index.invariant c.loop-index-test.false c.loop-index.auto.index-end)

pub returns-clause-made_once : goal.returns-clause-made_once
returns-clause-made_once c = makes_once c.args.actions.now (start c.args.nodes c.args.ends)
