use Rattle.std.proofs.Common.{rules, true, false, sym, ap, ◌∙◌, arith}
use Rattle.pending_count.specs.Seats.{view_of}
use Rattle.completer_tree.specs.Trees.{table_id_of}
use Rattle.completer_tree.proofs.ForkLemmas.{rest_held, rest_left, rest_right, rest_tag, part_held, part_left}
use Rattle.completer_tree.proofs.ForkLemmas.{part_right, part_tag, can_fork}
use Rattle.completer_tree.proofs.RootLemmas.{at_some, fork_leads, fork_rooted, fork_knows, knows_top, paired_as}
use Rattle.completer_tree.proofs.RootLemmas.{led, unchanged_fork, few_left, few_right}
use Rattle.completer_tree.specs.Trees.{IsUnchanged}
use Rattle.std.proofs.lemmas.Option.{IfSome_then}
use Rattle.completer_tree.proofs.tree.Tree+Handed+T+Completer+T+C.fork.Goals as goal

pub returns-clause-split : goal.returns-clause-split
returns-clause-split g c =
    let d = c.claim-seat.ensures.claimed (search rules) in
    let drew = sym d.1 ∙ c.in-Some.is in
    let w = c.arm_pair-seat.ensures.paired.view in
    let s = c.split_side-left.ensures.parts in
    let node = c.in-Some.node in
    let v0 = view_of c.args.seat in
    let v1 = view_of c.claim-seat.result.0 in
    let v2 = view_of c.arm_pair-seat.result in
    let v3 = view_of c.split_side-left.result.0 in
    let v4 = view_of c.split_side-left.result.1 in
    let onward = c.kept_by-onward.result.now in
    let l1 = rest_left node onward _ _ v0 v1 v2 d.2 drew w _ v3 v4 s.0 s.1 in
    let l2 = rest_right node onward _ _ v0 v1 v2 d.2 drew w _ v3 v4 s.0 s.1 in
    let r1 = part_left node onward _ _ v0 v1 v2 d.2 drew w _ v3 v4 s.0 s.1 in
    let r2 = part_right node onward _ _ v0 v1 v2 d.2 drew w _ v3 v4 s.0 s.1 in
    let told = at_some _ c.args.at c.requires.at in
    let is = paired_as c.args.at (g.C.Continuation.goes_to c.args.run) node c.above-parent.result c.above-parent.ensures
    (λ e. (c.requires.top e).0) (λ p e. sym e ∙ (told p e).1) onward _ v1 v2 w in
    let leads = led (table_id_of c.args.self.now.counts.now) c.args.seat c.args.at (λ p e. (told p e).0) d.2 in
    let a = ap (λ p. p.node) c.place_at.ensures in
    let b = ap (λ p. p.node) c.place_at-2.ensures in
    let ar = ap (λ p. p.root) c.place_at.ensures ∙ c.above-parent.ensures.1 in
    let br = ap (λ p. p.root) c.place_at-2.ensures ∙ c.above-parent.ensures.1 in (
      can_fork (table_id_of c.args.self.now.counts.now) c.split_side-left.result.0 c.place_at.result node _ _ _ true
          c.place_at.ensures c.tag-tag.ensures
          (search rules) (rest_held node onward _ _ v0 v1 v2 d.2 drew w _ v3 v4 s.0 s.1) l1 (omega arith)
          (rest_tag node onward _ _ v0 v1 v2 d.2 drew w _ v3 v4 s.0 s.1)
          (fork_leads node onward _ c.args.at v0 v1 v2 d.2 drew is c.requires.rooted leads v3 c.place_at.result a ar
          (ap (λ u. u.places) s.0) (ap (λ u. u.noted) s.0) (ap (λ u. u.noted_sides) s.0)
          (few_left node _ v2 (view_of c.split_side-left.result.0) s.0))
          (fork_rooted node onward _ c.args.at v0 v1 v2 d.2 drew is c.requires.rooted leads v3 c.place_at.result a ar
          (ap (λ u. u.places) s.0) (ap (λ u. u.noted) s.0) (ap (λ u. u.noted_sides) s.0)
          (few_left node _ v2 (view_of c.split_side-left.result.0) s.0)),
      can_fork (table_id_of c.args.self.now.counts.now) c.split_side-left.result.1 c.place_at-2.result node _ _ _ false
          c.place_at-2.ensures c.tag-tag.ensures
          (search rules) (part_held node onward _ _ v0 v1 v2 d.2 drew w _ v3 v4 s.0 s.1) r2 (omega arith)
          (part_tag node onward _ _ v0 v1 v2 d.2 drew w _ v3 v4 s.0 s.1)
          (fork_leads node onward _ c.args.at v0 v1 v2 d.2 drew is c.requires.rooted leads v4 c.place_at-2.result b br
          (ap (λ u. u.places) s.1) (ap (λ u. u.noted) s.1) (ap (λ u. u.noted_sides) s.1)
          (few_right node _ onward _ _ v1 v2 (view_of c.split_side-left.result.1) w s.1))
          (fork_rooted node onward _ c.args.at v0 v1 v2 d.2 drew is c.requires.rooted leads v4 c.place_at-2.result b br
          (ap (λ u. u.places) s.1) (ap (λ u. u.noted) s.1) (ap (λ u. u.noted_sides) s.1)
          (few_right node _ onward _ _ v1 v2 (view_of c.split_side-left.result.1) w s.1)),
    )

pub returns-clause-tops : goal.returns-clause-tops
returns-clause-tops g c =
    let d = c.claim-seat.ensures.claimed (search rules) in
    let drew = sym d.1 ∙ c.in-Some.is in
    let w = c.arm_pair-seat.ensures.paired.view in
    let s = c.split_side-left.ensures.parts in
    let node = c.in-Some.node in
    let v0 = view_of c.args.seat in
    let v1 = view_of c.claim-seat.result.0 in
    let v2 = view_of c.arm_pair-seat.result in
    let onward = c.kept_by-onward.result.now in
    let told = at_some _ c.args.at c.requires.at in
    let is = paired_as c.args.at (g.C.Continuation.goes_to c.args.run) node c.above-parent.result c.above-parent.ensures
    (λ e. (c.requires.top e).0) (λ p e. sym e ∙ (told p e).1) onward _ v1 v2 w in
    let leads = led (table_id_of c.args.self.now.counts.now) c.args.seat c.args.at (λ p e. (told p e).0) d.2 in
    let a = ap (λ p. p.node) c.place_at.ensures in
    let b = ap (λ p. p.node) c.place_at-2.ensures in
    let ar = ap (λ p. p.root) c.place_at.ensures ∙ c.above-parent.ensures.1 in
    let br = ap (λ p. p.root) c.place_at-2.ensures ∙ c.above-parent.ensures.1 in (
      knows_top c.args.at onward c.args.self.now.onward.now _ _ _ c.kept_by-onward.ensures.top
          (fork_knows node onward _ c.args.at v0 v1 v2 d.2 drew is c.requires.rooted leads
          (view_of c.split_side-left.result.0) c.place_at.result a ar (ap (λ u. u.places) s.0) (ap (λ u. u.noted) s.0)
          (ap (λ u. u.noted_sides) s.0) (few_left node _ v2 (view_of c.split_side-left.result.0) s.0)),
      knows_top c.args.at onward c.args.self.now.onward.now _ _ _ c.kept_by-onward.ensures.top
          (fork_knows node onward _ c.args.at v0 v1 v2 d.2 drew is c.requires.rooted leads
          (view_of c.split_side-left.result.1) c.place_at-2.result b br (ap (λ u. u.places) s.1) (ap (λ u. u.noted) s.1)
          (ap (λ u. u.noted_sides) s.1) (few_right node _ onward _ _ v1 v2 (view_of c.split_side-left.result.1) w s.1)),
    )

pub returns-in_default-clause-still : goal.returns-in_default-clause-still
returns-in_default-clause-still g c =
    let same : IsUnchanged c.args.seat c.claim-seat.result.0 = search rules in
    IfSome_then c.args.at c.requires.at (λ p h. unchanged_fork h.0 (c.claim-seat.ensures.seat.0 ∙ c.requires.table)
    same)
