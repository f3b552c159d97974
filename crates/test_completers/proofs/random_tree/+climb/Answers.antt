use Rattle.std.proofs.Common.{◌≡◌, ℕ, ◌+◌, ◌<◌, ◌≤◌, [], ◌∷◌, arith, rules, sym, ap, ◌∙◌, subst}
use Rattle.std.proofs.lemmas.Result.{IfOk-weaker}
use Rattle.completion_core.specs.Legal.{count}
use Rattle.pending_count.specs.Seats.{view_of}
use Rattle.test_completers.specs.RandomTrees.{parent}
use Rattle.test_completers.proofs.RandomTreeLemmas.{only_one_fewer, parent_low, last_knows, last_gives, parent_is_back}
use Rattle.test_completers.proofs.RandomTreeLemmas.{settled_knows, settled_fewer}
use Rattle.test_completers.proofs.random_tree.+climb.Goals as goal

pub returns-in-Pending-clause-held : goal.returns-in-Pending-clause-held
returns-in-Pending-clause-held t c =
    let p = c.in-Pending.ensures.arrived in
    only_one_fewer c.args.node p.0 c.in-Pending._pending p.2 c.requires.have p.1

pub settle-requires-clause-have : goal.settle-requires-clause-have
settle-requires-clause-have t c =
    let l = c.in-Last.ensures.arrived in
    let top : parent c.args.node ≡ 0 = sym c.parent_of-parent.ensures ∙ c.if-parent-eq0.true in
    subst (λ k. 0 < count k (view_of c.in-Last.seat).held) top
    (parent_is_back c.args.node l.0 l.2 c.requires.have l.1 c.requires.seat.1 c.requires.node.0 c.requires.node.1)

pub returns-then-parent-eq0-clause-seat : goal.returns-then-parent-eq0-clause-seat
returns-then-parent-eq0-clause-seat t c =
    let l = c.in-Last.ensures.arrived in
    let top : parent c.args.node ≡ 0 = sym c.parent_of-parent.ensures ∙ c.if-parent-eq0.true in (
      search rules,
      settled_knows c.args.node l.0 l.2 c.requires.have l.1 c.requires.seat.1 c.requires.node.0
          c.requires.node.1 (view_of c.settle.result) c.settle.ensures.settled top,
    )

pub returns-then-parent-eq0-clause-held : goal.returns-then-parent-eq0-clause-held
returns-then-parent-eq0-clause-held t c =
    let l = c.in-Last.ensures.arrived in
    let top : parent c.args.node ≡ 0 = sym c.parent_of-parent.ensures ∙ c.if-parent-eq0.true in
    settled_fewer c.args.node l.0 l.2 c.requires.have l.1 c.requires.seat.1 c.requires.node.0 c.requires.node.1
    (view_of c.settle.result) c.settle.ensures.settled top

pub climb-requires : goal.climb-requires
climb-requires t c =
    let l = c.in-Last.ensures.arrived in
    let p = c.parent_of-parent.ensures in
    let low = parent_low c.args.node c.requires.node.0 in
    let some = c.if-parent-eq0.false in
    let d = c.decreases in
    let h = c.requires.node in
    let back = parent_is_back c.args.node l.0 l.2 c.requires.have l.1 c.requires.seat.1 h.0 h.1 in (
      omega arith,
      (
        (search rules, last_knows c.args.node l.0 l.2 c.requires.have l.1 c.requires.seat.1 h.0 h.1),
        ((omega arith, omega arith), subst (λ k. 0 < count k (view_of c.in-Last.seat).held) (sym p) back),
      ),
    )

pub returns-clause-held : goal.returns-clause-held
returns-clause-held t c =
    let l = c.in-Last.ensures.arrived in
    let h = c.requires.node in
    IfOk-weaker c.climb.result
    (λ later. (j : ℕ) → count j (view_of c.in-Last.seat).held ≤ count j (view_of later).held
    + count j (c.parent_of-parent.result ∷ []))
    (λ later. (j : ℕ) → count j (view_of c.args.seat).held ≤ count j (view_of later).held + count j (c.args.node ∷ []))
    (λ later fewer j.
    let f = fewer j in
    let g = last_gives c.args.node l.0 l.2 c.requires.have l.1 c.requires.seat.1 h.0 h.1 j in
    let p : count j (c.parent_of-parent.result ∷ []) ≡ count j (parent c.args.node ∷ []) =
    ap (λ k. count j (k ∷ [])) c.parent_of-parent.ensures in
    omega arith)
    c.climb.ensures.held
