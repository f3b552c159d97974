use Rattle.std.proofs.Common.{sym, subst, refl, ap, arith}
use Rattle.completion_core.specs.declared.node_state.NodeState.{NodeState}
use Rattle.completion_core.specs.declared.action.Action.TheVariants.{Add}
use Rattle.completion_core.specs.Graph.{Graph}
use Rattle.completion_core.specs.Legal.{after}
use Rattle.completion_core.specs.Book.{Book, StandsFor}
use Rattle.completion_core.proofs.TotalLemmas.{held_left, left_length}
use Rattle.completion_core.proofs.WriteLemmas.{in_range, read_is, added_written}
use Rattle.completion_core.proofs.graph.Graph.add.Goals as goal

pub put-requires-clause-fits : goal.put-requires-clause-fits
put-requires-clause-fits c =
    let b : Book = record {
      nodes = c.self.inside.nodes;
      states = c.self.inside.states.items;
      holdings = c.self.inside.holdings.entries.entries;
    } in
    let g : Graph = c.self.invariant.0 in
    let r : StandsFor b g = c.self.invariant.1 in
    let may = c.requires g (subst (λ b. StandsFor b g) c.self.view_is r) in
    let few = may.1 in
    let a = r.held c.args.actor c.args.node in
    let h = held_left c.args.actor (g.arrivals c.args.node) in
    let d = left_length (g.arrivals c.args.node) in
    omega arith

pub overflow_add-state-2 : goal.overflow_add-state-2
overflow_add-state-2 c =
    let b : Book = record {
      nodes = c.self.inside.nodes;
      states = c.self.inside.states.items;
      holdings = c.self.inside.holdings.entries.entries;
    } in
    let g : Graph = c.self.invariant.0 in
    let r : StandsFor b g = c.self.invariant.1 in
    let may = c.requires g (subst (λ b. StandsFor b g) c.self.view_is r) in
    let few = may.1 in
    let m : NodeState = c.index_mut-state.result.now in
    let l = r.left c.args.node in
    let is = ap (λ (m : NodeState). m.left)
    (read_is b.states c.args.node m (in_range b g r c.args.node may.0.0.1) c.index_mut-state.ensures.value) in
    let d = left_length (g.arrivals c.args.node) in
    omega arith

pub invariant_of-self : goal.invariant_of-self
invariant_of-self c =
    let b : Book = record {
      nodes = c.self.inside.nodes;
      states = c.self.inside.states.items;
      holdings = c.self.inside.holdings.entries.entries;
    } in
    let g : Graph = c.self.invariant.0 in
    let r : StandsFor b g = c.self.invariant.1 in
    let may = c.requires g (subst (λ b. StandsFor b g) c.self.view_is r) in (
      after (Add c.args.actor c.args.node c.args.d) g,
      added_written b g r c.args.node may.0.0.1 c.index_mut-state.result.now c.index_mut-state.ensures.value
          c.put.new.self.entries.entries c.args.actor c.args.d may.0 may.1 c.put.ensures.held,
    )

pub returns : goal.returns
returns c g given =
    let b : Book = record {
      nodes = c.self.inside.nodes;
      states = c.self.inside.states.items;
      holdings = c.self.inside.holdings.entries.entries;
    } in
    let r : StandsFor b g = subst (λ b. StandsFor b g) (sym c.self.view_is) given in
    let may = c.requires g given in (
      refl,
      added_written b g r c.args.node may.0.0.1 c.index_mut-state.result.now c.index_mut-state.ensures.value
          c.put.new.self.entries.entries c.args.actor c.args.d may.0 may.1 c.put.ensures.held,
    )
