use Rattle.std.proofs.Common.{◌≡◌, ℕ, ◌+◌, eqb, cond, get_or, ap, ◌∙◌, sym, true≢false, eq-eqb, ne_eqb}
use Rattle.completion_core.specs.Book.{held_in}
use Rattle.completion_core.proofs.BagLemmas.{walks_on, too_few}
use Rattle.completion_core.proofs.graph.Graph.holds_all.Goals as goal
use Rattle.completion_core.proofs.graph.Graph.holds_all.Goals.{then-node-before, else-node-before}

pub returns-then-held-alike : goal.returns-then-held-alike
returns-then-held-alike c =
    let l = c.loop-node in
    let s = c.as_slice-node-items in
    let x : ℕ = get_or s.result.now l.node-index 0 in
    let is : c.if-node-before.alike ≡ cond (eqb x l.before) (l.alike + 1) 1 = elim c.if-node-before.branch [
      | then-node-before w ↦ w.alike-is ∙ ap (λ b. cond b (l.alike + 1) 1)
          (sym (eq-eqb x l.before w.if-node-before.true))
      | else-node-before w ↦ w.alike-is ∙ ap (λ b. cond b (l.alike + 1) 1)
          (sym (ne_eqb x l.before w.if-node-before.false))
    ] in (
      λ e. absurd (true≢false (sym e)),
      λ all. absurd (too_few c.args.nodes.now s.result.now s.ensures.same
          (λ i. held_in c.args.self.now.holdings c.args.actor i) l.node-index l.alike l.before c.if-node-before.alike
          c.held.result s.ensures.ordered c.loop-node-test.true l.invariant is c.held.ensures c.if-held-alike.true all),
    )

pub loop-node-preserved : goal.loop-node-preserved
loop-node-preserved c =
    let l = c.loop-node in
    let s = c.as_slice-node-items in
    let x : ℕ = get_or s.result.now l.node-index 0 in
    let is : c.if-node-before.alike ≡ cond (eqb x l.before) (l.alike + 1) 1 = elim c.if-node-before.branch [
      | then-node-before w ↦ w.alike-is ∙ ap (λ b. cond b (l.alike + 1) 1)
          (sym (eq-eqb x l.before w.if-node-before.true))
      | else-node-before w ↦ w.alike-is ∙ ap (λ b. cond b (l.alike + 1) 1)
          (sym (ne_eqb x l.before w.if-node-before.false))
    ] in
    walks_on c.args.nodes.now s.result.now s.ensures.same (λ i. held_in c.args.self.now.holdings c.args.actor i)
    l.node-index l.alike l.before c.if-node-before.alike c.held.result s.ensures.ordered c.loop-node-test.true
    l.invariant is c.held.ensures c.if-held-alike.false
