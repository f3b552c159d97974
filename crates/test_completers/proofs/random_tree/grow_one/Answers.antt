use Rattle.std.proofs.Common.{◌≡◌, Some, rules, sym, ap, ◌∙◌}
use Rattle.pending_count.specs.Seats.{view_of}
use Rattle.pending_count.specs.Steps.{drawn_node}
use Rattle.test_completers.proofs.RandomTreeLemmas.{grown_knows, grown_has}
use Rattle.test_completers.proofs.random_tree.grow_one.Goals as goal

pub returns : goal.returns
returns c =
    let d = c.claim-seat.ensures.claimed (search rules) in
    let drew : drawn_node c.args.counts.now.nodes d.0 ≡ Some c.args.node =
    sym d.1 ∙ c.in_ok-drawn.was ∙ ap Some c.if-branch-node.false in
    let v0 = view_of c.args.seat in
    let v1 = view_of c.in-Ok.seat in
    let v2 = view_of c.claim-seat.result.0 in
    let v3 = view_of c.arm.result in (
      search rules,
      grown_knows c.args.node c.parent_of-parent.result d.0 c.parent_of-parent.ensures v0 v1 v2 v3
          c.in-Ok.ensures.added.1 d.2 drew c.arm.ensures.armed c.requires.knows,
      grown_has c.args.node c.parent_of-parent.result d.0 c.parent_of-parent.ensures v0 v1 v2 v3 c.in-Ok.ensures.added.1
          d.2 drew c.arm.ensures.armed c.requires.knows c.requires.has,
    )
