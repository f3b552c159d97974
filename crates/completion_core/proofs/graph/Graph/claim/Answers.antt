use Rattle.std.proofs.Common.{List, length, [], ◌∷◌, ◌++◌, cond, lt-ltb, ◌≡◌, ◌+◌, ◌<◌, sym, subst, refl, ap, ◌∙◌}
use Rattle.std.proofs.Common.{arith}
use Rattle.completion_core.specs.declared.node_state.NodeState.{NodeState}
use Rattle.completion_core.specs.Graph.{Graph}
use Rattle.completion_core.specs.declared.action.Reply.TheVariants.{Node, NoNode}
use Rattle.completion_core.specs.Legal.{upd}
use Rattle.completion_core.specs.Book.{Book, StandsFor}
use Rattle.completion_core.proofs.EffectLemmas.{drawn_after, fresh_state}
use Rattle.completion_core.proofs.graph.Graph.claim.Goals as goal

-- where a node is left
room : (c : goal.In_ok-push) (b : Book) (g : Graph) → StandsFor b g → b.nodes ≡ c.self.inside.nodes
    → b.states ≡ c.self.inside.states.items → g.drawn < g.nodes
room c b g r nodes_is states_is =
    let n = r.nodes in
    let d = r.drawn in
    let l = ap (λ (s : List NodeState). length s) states_is in
    let e = c.len-node.ensures in
    let t = c.if-node-self.false in
    omega arith

grown : (c : goal.In_ok-push) → c.push.new.self.items ≡ c.self.inside.states.items ++ fresh_state c.args.actor ∷ []
grown c = c.in_ok-push.ensures.items ∙ ap (λ (s : NodeState). c.self.inside.states.items ++ s ∷ []) c.new.ensures

pub invariant_of-self-2 : goal.invariant_of-self-2
invariant_of-self-2 c =
    let b : Book = record {
      nodes = c.self.inside.nodes;
      states = c.self.inside.states.items;
      holdings = c.self.inside.holdings.entries.entries;
    } in
    let g : Graph = c.self.invariant.0 in
    let r : StandsFor b g = c.self.invariant.1 in
    let left_one = room c b g r refl refl in (
      record {
        nodes = g.nodes;
        drawn = g.drawn + 1;
        claimer = upd g.claimer (g.drawn + 1) c.args.actor;
        arrivals = g.arrivals;
        armed = g.armed;
        ran = g.ran;
        last = g.last;
      },
      subst (λ (l : List NodeState). StandsFor (record { nodes = b.nodes; states = l; holdings = b.holdings })
          (record {
            nodes = g.nodes;
            drawn = g.drawn + 1;
            claimer = upd g.claimer (g.drawn + 1) c.args.actor;
            arrivals = g.arrivals;
            armed = g.armed;
            ran = g.ran;
            last = g.last;
          })) (sym (grown c))
          (drawn_after b g r c.args.actor left_one),
    )

pub returns : goal.returns
returns c g given =
    let b : Book = record {
      nodes = c.self.inside.nodes;
      states = c.self.inside.states.items;
      holdings = c.self.inside.holdings.entries.entries;
    } in
    let r : StandsFor b g = subst (λ b. StandsFor b g) (sym c.self.view_is) given in
    let left_one = room c b g r refl refl in
    let test = lt-ltb g.drawn g.nodes left_one in
    let d = r.drawn in
    let e : c.len-node.result ≡ g.drawn + 1 = (let e = c.len-node.ensures in omega arith) in (
      ap Node e ∙ ap (λ t. cond t (Node (g.drawn + 1)) NoNode) (sym test),
      subst (λ (h : Graph). StandsFor (record {
        nodes = c.self.inside.nodes;
        states = c.push.new.self.items;
        holdings = c.self.inside.holdings.entries.entries;
      }) h)
          (ap (λ t. cond t (record {
            nodes = g.nodes;
            drawn = g.drawn + 1;
            claimer = upd g.claimer (g.drawn + 1) c.args.actor;
            arrivals = g.arrivals;
            armed = g.armed;
            ran = g.ran;
            last = g.last;
          }) g) (sym test))
          (subst (λ (l : List NodeState). StandsFor (record { nodes = b.nodes; states = l; holdings = b.holdings })
          (record {
            nodes = g.nodes;
            drawn = g.drawn + 1;
            claimer = upd g.claimer (g.drawn + 1) c.args.actor;
            arrivals = g.arrivals;
            armed = g.armed;
            ran = g.ran;
            last = g.last;
          })) (sym (grown c))
          (drawn_after b g r c.args.actor left_one)),
    )
