use Rattle.std.proofs.Common.{sym, subst, refl, arith}
use Rattle.completion_core.specs.declared.action.Action.TheVariants.{Settle}
use Rattle.completion_core.specs.Graph.{Graph}
use Rattle.completion_core.specs.Legal.{after}
use Rattle.completion_core.specs.Book.{Book, StandsFor}
use Rattle.completion_core.proofs.WriteLemmas.{some_left, settled_written}
use Rattle.completion_core.proofs.graph.Graph.settle.Goals as goal

pub overflow_sub-index_mut : goal.overflow_sub-index_mut
overflow_sub-index_mut c =
    let b : Book = record {
      nodes = c.self.inside.nodes;
      states = c.self.inside.states.items;
      holdings = c.self.inside.holdings.entries.entries;
    } in
    let g : Graph = c.self.invariant.0 in
    let r : StandsFor b g = c.self.invariant.1 in
    let may = c.requires g (subst (λ b. StandsFor b g) c.self.view_is r) in
    some_left b g r 0 (omega arith) c.index_mut.result.now c.index_mut.ensures.value c.take.new.self.entries.entries
    c.args.actor may.0

pub invariant_of-self : goal.invariant_of-self
invariant_of-self c =
    let b : Book = record {
      nodes = c.self.inside.nodes;
      states = c.self.inside.states.items;
      holdings = c.self.inside.holdings.entries.entries;
    } in
    let g : Graph = c.self.invariant.0 in
    let r : StandsFor b g = c.self.invariant.1 in
    let may = c.requires g (subst (λ b. StandsFor b g) c.self.view_is r) in (
      after (Settle c.args.actor) g,
      settled_written b g r 0 (omega arith) c.index_mut.result.now
          c.index_mut.ensures.value c.take.new.self.entries.entries c.args.actor may.0 c.take.ensures,
    )

pub returns : goal.returns
returns c g given =
    let b : Book = record {
      nodes = c.self.inside.nodes;
      states = c.self.inside.states.items;
      holdings = c.self.inside.holdings.entries.entries;
    } in
    let r : StandsFor b g = subst (λ b. StandsFor b g) (sym c.self.view_is) given in
    let may = c.requires g given in (
      refl,
      settled_written b g r 0 (omega arith) c.index_mut.result.now c.index_mut.ensures.value
          c.take.new.self.entries.entries c.args.actor may.0 c.take.ensures,
    )
