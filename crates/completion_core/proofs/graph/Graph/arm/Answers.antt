use Rattle.std.proofs.Common.{◌≡◌, ℕ, ◌+◌, sym, subst, refl, arith}
use Rattle.completion_core.specs.declared.action.Action.TheVariants.{Arm}
use Rattle.completion_core.specs.Graph.{Graph}
use Rattle.completion_core.specs.Legal.{after}
use Rattle.completion_core.specs.Book.{Book, StandsFor}
use Rattle.completion_core.proofs.WriteLemmas.{armed_written}
use Rattle.completion_core.specs.Holdings.{held, place, each_place}
use Rattle.completion_core.proofs.graph.Graph.arm.Goals as goal

numbers : (c : goal.After-drop-state) (x i : ℕ)
    → held c.take_all.new.self x i + each_place c.args.actor c.args.onward x i
    ≡ held c.self.inside.holdings x i + place c.args.actor c.args.node (c.args.pending + 1) x i
numbers c x i = let t = c.take_all.ensures x i in let p = c.put.ensures.held x i in
    let s = c.in_ok-reserve.ensures.held x i in omega arith

pub invariant_of-self-2 : goal.invariant_of-self-2
invariant_of-self-2 c =
    let b : Book = record {
      nodes = c.self.inside.nodes;
      states = c.self.inside.states.items;
      holdings = c.self.inside.holdings.entries.entries;
    } in
    let g : Graph = c.self.invariant.0 in
    let r : StandsFor b g = c.self.invariant.1 in
    let may = c.requires g (subst (λ b. StandsFor b g) c.self.view_is r) in (
      after (Arm c.args.actor c.args.node c.args.pending c.args.onward) g,
      armed_written b g r c.args.node may.0.0.1 c.index_mut-state.result.now c.index_mut-state.ensures.value
          c.take_all.new.self.entries.entries c.args.actor c.args.pending c.args.onward may.0 may.1 (numbers c),
    )

pub returns : goal.returns
returns c g given =
    let b : Book = record {
      nodes = c.self.inside.nodes;
      states = c.self.inside.states.items;
      holdings = c.self.inside.holdings.entries.entries;
    } in
    let r : StandsFor b g = subst (λ b. StandsFor b g) (sym c.self.view_is) given in
    let may = c.requires g given in (
      refl,
      armed_written b g r c.args.node may.0.0.1 c.index_mut-state.result.now c.index_mut-state.ensures.value
          c.take_all.new.self.entries.entries c.args.actor c.args.pending c.args.onward may.0 may.1 (numbers c),
    )
