use Rattle.std.proofs.Common.{◌≤◌, length, sym, ap, ◌∙◌, arith}
use Rattle.lambda_values.specs.Term.{truth_of}
use Rattle.slice_ops.specs.Rests.{stop_after}
use Rattle.slice_ops.specs.Slices.{front_ends}
use Rattle.slice_ops.proofs.FrontLemmas.{front_within, whole_front, stopped_there}
use Rattle.slice_ops.proofs.rest.stop_in.Goals as goal

pub returns-then-front-count : goal.returns-then-front-count
returns-then-front-count g c =
    whole_front (front_ends (truth_of c.args.test.now) c.args.stage c.args.env.now)
    (g.I.SourceItems.items c.args.source.now) c.args.front c.requires.front
    (c.if-front-count.true ∙ c.count.ensures)

pub item_at-requires : goal.item_at-requires
item_at-requires g c =
    let xs = g.I.SourceItems.items c.args.source.now in
    let within : c.args.front ≤ length xs =
    front_within (front_ends (truth_of c.args.test.now) c.args.stage c.args.env.now) xs c.args.front
    c.requires.front in
    omega (arith, within, c.count.ensures, c.if-front-count.false)

pub returns : goal.returns
returns g c =
    let there = stopped_there (front_ends (truth_of c.args.test.now) c.args.stage c.args.env.now)
    (g.I.SourceItems.items c.args.source.now) c.args.front c.requires.front c.item_at.result c.item_at.ensures in
    there.2 ∙ ap (stop_after c.args.front) (sym (c.end_before.ensures ∙ there.1))
