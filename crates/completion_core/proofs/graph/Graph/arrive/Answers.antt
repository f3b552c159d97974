use Rattle.std.proofs.Common.{sym, subst, ◌∙◌}
use Rattle.completion_core.specs.declared.action.Action.TheVariants.{Arrive}
use Rattle.completion_core.specs.Graph.{Graph}
use Rattle.completion_core.specs.Legal.{after}
use Rattle.completion_core.specs.Book.{Book, StandsFor}
use Rattle.completion_core.proofs.WriteLemmas.{some_left, arrived_reply, arrived_written}
use Rattle.completion_core.proofs.graph.Graph.arrive.Goals as goal

pub arrive-requires : goal.arrive-requires
arrive-requires c =
    let b : Book = record {
      nodes = c.self.inside.nodes;
      states = c.self.inside.states.items;
      holdings = c.self.inside.holdings.entries.entries;
    } in
    let g : Graph = c.self.invariant.0 in
    let r : StandsFor b g = c.self.invariant.1 in
    let may = c.requires g (subst (λ b. StandsFor b g) c.self.view_is r) in
    some_left b g r c.args.node may.0.0.1 c.index_mut.result.now c.index_mut.ensures.value
    c.take.new.self.entries.entries c.args.actor may.0.1

pub invariant_of-self : goal.invariant_of-self
invariant_of-self c =
    let b : Book = record {
      nodes = c.self.inside.nodes;
      states = c.self.inside.states.items;
      holdings = c.self.inside.holdings.entries.entries;
    } in
    let g : Graph = c.self.invariant.0 in
    let r : StandsFor b g = c.self.invariant.1 in
    let may = c.requires g (subst (λ b. StandsFor b g) c.self.view_is r) in (
      after (Arrive c.args.actor c.args.node) g,
      arrived_written b g r c.args.node may.0.0.1 c.index_mut.result.now c.index_mut.ensures.value
          c.take.new.self.entries.entries c.args.actor may.0.1 c.arrive.new.self c.take.ensures c.arrive.ensures.state,
    )

pub returns : goal.returns
returns c g given =
    let b : Book = record {
      nodes = c.self.inside.nodes;
      states = c.self.inside.states.items;
      holdings = c.self.inside.holdings.entries.entries;
    } in
    let r : StandsFor b g = subst (λ b. StandsFor b g) (sym c.self.view_is) given in
    let may = c.requires g given in (
      c.arrive.ensures.reply ∙ arrived_reply b g r c.args.node may.0.0.1 c.index_mut.result.now
          c.index_mut.ensures.value c.take.new.self.entries.entries c.args.actor may.0.1,
      arrived_written b g r c.args.node may.0.0.1 c.index_mut.result.now c.index_mut.ensures.value
          c.take.new.self.entries.entries c.args.actor may.0.1 c.arrive.new.self c.take.ensures c.arrive.ensures.state,
    )
