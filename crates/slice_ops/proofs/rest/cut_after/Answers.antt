use Rattle.std.proofs.Common.{ap, ◌∙◌}
use Rattle.lambda_values.specs.Term.{truth_of}
use Rattle.slice_ops.specs.Rests.{stop_after}
use Rattle.slice_ops.specs.Slices.{front_ends}
use Rattle.slice_ops.proofs.CutLemmas.{take_cut, take_whole}
use Rattle.slice_ops.proofs.FrontLemmas.{front_within}
use Rattle.slice_ops.proofs.rest.cut_after.Goals as goal

pub returns-in-Some-clause-within : goal.returns-in-Some-clause-within
returns-in-Some-clause-within g c =
    front_within (front_ends (truth_of c.args.test.now) c.args.stage c.args.env.now)
    (g.I.SourceItems.items c.args.source.now) c.args.front c.requires.front

pub returns-in-Some-clause-passes : goal.returns-in-Some-clause-passes
returns-in-Some-clause-passes g c later =
    take_cut (g.I.SourceItems.items c.args.source.now) later (truth_of c.args.test.now) c.args.stage c.args.env.now
    c.args.front c.in-Some.end (c.stop_in.ensures ∙ ap (stop_after c.args.front) c.in-Some.is)

pub returns-in-None-clause-passes : goal.returns-in-None-clause-passes
returns-in-None-clause-passes g c later =
    take_whole (g.I.SourceItems.items c.args.source.now) later (truth_of c.args.test.now) c.args.stage c.args.env.now
    c.count.result c.count.ensures (c.stop_in.ensures ∙ ap (stop_after c.args.front) c.in-None.is)
