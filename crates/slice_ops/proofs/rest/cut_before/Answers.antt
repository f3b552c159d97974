use Rattle.std.proofs.Common.{◌≤◌, length, Some, ap, ◌∙◌, arith}
use Rattle.lambda_values.specs.Term.{truth_of}
use Rattle.slice_ops.specs.Rests.{stop_after}
use Rattle.slice_ops.specs.Slices.{front_ends}
use Rattle.slice_ops.proofs.CutLemmas.{drop_cut, drop_faulted, drop_whole}
use Rattle.slice_ops.proofs.FrontLemmas.{front_within}
use Rattle.slice_ops.proofs.rest.cut_before.Goals as goal

pub returns-in-Some-Done-clause-ordered : goal.returns-in-Some-Done-clause-ordered
returns-in-Some-Done-clause-ordered g c =
    let within : c.args.front ≤ length (g.I.SourceItems.items c.args.source.now) =
    front_within (front_ends (truth_of c.args.test.now) c.args.stage c.args.env.now)
    (g.I.SourceItems.items c.args.source.now) c.args.front c.requires.front in
    omega (arith, within, c.count-count.ensures)

pub returns-in-Some-Done-clause-passes : goal.returns-in-Some-Done-clause-passes
returns-in-Some-Done-clause-passes g c later =
    drop_cut (g.I.SourceItems.items c.args.source.now) later (truth_of c.args.test.now) c.args.stage c.args.env.now
    c.args.front c.count-count.result c.count-count.ensures
    (c.stop_in.ensures ∙ ap (stop_after c.args.front) (c.in-Some-Done.is ∙ ap Some c.in-Some-Done.field-0-is))

pub returns-in-Some-Fault-clause-within : goal.returns-in-Some-Fault-clause-within
returns-in-Some-Fault-clause-within g c =
    front_within (front_ends (truth_of c.args.test.now) c.args.stage c.args.env.now)
    (g.I.SourceItems.items c.args.source.now) c.args.front c.requires.front

pub returns-in-Some-Fault-clause-passes : goal.returns-in-Some-Fault-clause-passes
returns-in-Some-Fault-clause-passes g c later =
    drop_faulted (g.I.SourceItems.items c.args.source.now) later (truth_of c.args.test.now) c.args.stage c.args.env.now
    c.args.front c.in-Some-Fault.fault
    (c.stop_in.ensures ∙ ap (stop_after c.args.front) (c.in-Some-Fault.is ∙ ap Some c.in-Some-Fault.field-0-is))

pub returns-in-None-clause-passes : goal.returns-in-None-clause-passes
returns-in-None-clause-passes g c later =
    drop_whole (g.I.SourceItems.items c.args.source.now) later (truth_of c.args.test.now) c.args.stage c.args.env.now
    c.count-count.result (c.stop_in.ensures ∙ ap (stop_after c.args.front) c.in-None.is)
