use Rattle.std.proofs.Common.{◌≡◌, ℕ, [], ◌∷◌, ◌++◌, ap, ◌∙◌, sym, subst, arith}
use Rattle.completion_core.specs.declared.node_state.NodeState.{NodeState}
use Rattle.completion_core.specs.Graph.{start}
use Rattle.completion_core.specs.Book.{StandsFor, held_in}
use Rattle.completion_core.specs.Holdings.{place}
use Rattle.completion_core.proofs.StartLemmas.{starts, first_state}
use Rattle.completion_core.proofs.graph.Graph.new.Goals as goal

stands : (c : goal.After-put) → StandsFor
    (record { nodes = c.args.nodes; states = c.push.new.self.items; holdings = c.put.new.self.entries.entries })
    (start c.args.nodes c.args.ends)
stands c =
    let states : c.push.new.self.items ≡ first_state c.args.ends ∷ [] =
    c.in_ok-push.ensures.items ∙ ap (λ l. l ++ c.new.result ∷ []) c.new-states.ensures.items
    ∙ ap (λ (s : NodeState). s ∷ []) c.new.ensures in
    let numbers : (a i : ℕ) → held_in c.put.new.self.entries.entries a i ≡ place 0 0 c.args.ends a i =
    (λ a i. let p = c.put.ensures.held a i in let q = c.in_ok-reserve.ensures.held a i in
    let n = c.new-holdings.ensures a i in omega arith) in
    subst (λ l. StandsFor (record { nodes = c.args.nodes; states = l; holdings = c.put.new.self.entries.entries })
    (start c.args.nodes c.args.ends)) (sym states)
    (starts c.args.nodes c.args.ends c.ranges.ends.fits c.put.new.self.entries.entries numbers)

pub invariant_of-result : goal.invariant_of-result
invariant_of-result c = (start c.args.nodes c.args.ends, stands c)

pub returns : goal.returns
returns c = stands c
