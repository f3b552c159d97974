use Rattle.std.proofs.Common.{◌≡◌, ◌≢◌, ℕ, ◌≤◌, arith, rules, ap, ◌∙◌}
use mathlib.Core.Logic.{dite}
use native.Mathlib.Decide.{ℕ_discrete}
use Rattle.completion_core.specs.Legal.{count, only_at}
use Rattle.pending_count.specs.declared.view.View.{View}
use Rattle.pending_count.specs.Seats.{view_of}
use Rattle.pending_count.proofs.RecordLemmas.{fresh_here, fresh_else}
use Rattle.test_completers.proofs.RandomTreeLemmas.{rest_knows, part_knows, part_held, rest_held, joined_held}
use Rattle.test_completers.proofs.RandomTreeLemmas.{joined_knows}
use Rattle.test_completers.proofs.random_tree.hand_over.Goals as goal

pub loop-node-init : goal.loop-node-init
loop-node-init c =
    let v = view_of c.args.seat in
    let rest = view_of c.split-rest.result.0 in
    let part = view_of c.split-rest.result.1 in
    let s = c.split-rest.ensures.parts in
    let same : (i : ℕ) → count i rest.held ≡ count i v.held = λ i. ap (λ (u : View _). count i u.held) s.0 in
    let has = c.requires.seat.1 in
    let n = c.requires.nodes in (
      (
        (search rules, rest_knows 0 0 0 v rest part s.0 s.1 _ c.requires.seat.0.1),
        λ i l h. let e = same i in
            let q = has i l (omega arith) in omega arith,
      ),
      (λ i l h. let e = same i in let q = has i (omega arith) h in omega arith),
      ((search rules, part_knows 0 0 0 v rest part s.0 s.1 _ c.requires.seat.0.1), λ i l h. absurd (omega arith)),
    )

pub loop-node-preserved : goal.loop-node-preserved
loop-node-preserved c =
    let node = c.loop-node.node in
    let rest = view_of c.loop-node.rest in
    let part = view_of c.loop-node.part in
    let fewer = view_of c.split-fewer.result.0 in
    let one = view_of c.split-fewer.result.1 in
    let both = view_of c.join-part.result in
    let s = c.split-fewer.ensures.parts in
    let inv = c.loop-node.invariant in
    let low : c.args.middle ≤ node = c.loop-node.auto.node in
    let some : 1 ≤ count node rest.held = inv.1 node (omega arith) c.loop-node-test.true in
    let stays : (i : ℕ) → i ≢ node → count i fewer.held ≡ count i rest.held = λ i n. let e =
    rest_held node 1 0 rest fewer one s.0 s.1 some i in let z = fresh_else node 1 i n in omega arith in
    let know_one = part_knows node 1 0 rest fewer one s.0 s.1 _ inv.0.0.1 in (
      (
        (search rules, rest_knows node 1 0 rest fewer one s.0 s.1 _ inv.0.0.1),
        λ i l h. let e = stays i (λ q. absurd (omega arith)) in let b = inv.0.1 i l h in omega arith,
      ),
      (λ i l h. let e = stays i (λ q. absurd (omega arith)) in let b = inv.1 i (omega arith) h in omega arith),
      (
        (search rules, joined_knows part one both c.join-part.ensures.both _ inv.2.0.1 know_one),
        λ i l h.
            let e = joined_held part one both c.join-part.ensures.both i in
            dite (ℕ_discrete i node)
            (λ q. let o : count i one.held ≡ 1 =
            part_held node 1 0 rest fewer one s.0 s.1 i ∙ ap (only_at node 1) q ∙ fresh_here node 1 in omega arith)
            (λ n. let b = inv.2.1 i l (omega arith) in omega arith),
      ),
    )
