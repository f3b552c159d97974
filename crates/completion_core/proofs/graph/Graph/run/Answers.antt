use Rattle.std.proofs.Common.{rules, length, ◌≡◌, ℕ, ◌+◌, sym, subst, refl, ap, ◌∙◌, arith}
use Rattle.completion_core.specs.declared.node_state.NodeState.{NodeState}
use Rattle.completion_core.specs.declared.action.Action.TheVariants.{Run}
use Rattle.completion_core.specs.Graph.{Graph}
use Rattle.completion_core.specs.Legal.{after}
use Rattle.completion_core.specs.Book.{Book, StandsFor}
use Rattle.completion_core.proofs.TotalLemmas.{left_length}
use Rattle.completion_core.proofs.WriteLemmas.{in_range, read_is, freed_written}
use Rattle.std.proofs.Common.{[], true, set}
use Rattle.completion_core.specs.Legal.{count}
use Rattle.completion_core.specs.Holdings.{held, each_place}
use Rattle.completion_core.proofs.TotalLemmas.{held_kept_left}
use Rattle.std.proofs.lemmas.Result.{err_from_is_err_and}
use Rattle.completion_core.specs.Book.{state_of}
use Rattle.completion_core.proofs.DemandLemmas.{some_kept}
use Rattle.completion_core.proofs.graph.Graph.run.Goals as goal

pub put_all-requires-clause-fits : goal.put_all-requires-clause-fits
put_all-requires-clause-fits c i =
    let b : Book = record {
      nodes = c.self.inside.nodes;
      states = c.self.inside.states.items;
      holdings = c.self.inside.holdings.entries.entries;
    } in
    let g : Graph = c.self.invariant.0 in
    let r : StandsFor b g = c.self.invariant.1 in
    let may = c.requires g (subst (λ b. StandsFor b g) c.self.view_is r) in
    let is = read_is b.states c.args.node c.index_mut-state.result.now (in_range b g r c.args.node may.0.0.1)
    c.index_mut-state.ensures.value in
    let kept = ap (λ (m : NodeState). count i m.kept) is in
    let taken = ap (count i) c.replace-kept.ensures.value in
    let k = r.kept c.args.node i in
    let a = r.held c.args.actor i in
    let h = held_kept_left c.args.actor c.args.node (g.arrivals i) in
    let d = left_length (g.arrivals i) in
    let f = r.fits i in
    let same = c.in_ok-reserve.ensures.held c.args.actor i in
    omega arith

abbrev m : goal.After-drop-kept-inside → NodeState
m c = c.index_mut-state.result.now

emptied : (c : goal.After-drop-kept-inside) → [] ≡ c.replace-kept.new.dest
emptied c = sym (c.replace-kept.ensures.after ∙ c.none.ensures)

numbers : (c : goal.After-drop-kept-inside) (x i : ℕ)
    → held c.put_all.new.self x i ≡ held c.self.inside.holdings x i
    + each_place c.args.actor c.index_mut-state.result.now.kept x i
numbers c x i = let p = c.put_all.ensures x i in let s = c.in_ok-reserve.ensures.held x i in
    let k = ap (λ l. each_place c.args.actor l x i) c.replace-kept.ensures.value in omega arith

pub invariant_of-self-2 : goal.invariant_of-self-2
invariant_of-self-2 c =
    let b : Book = record {
      nodes = c.self.inside.nodes;
      states = c.self.inside.states.items;
      holdings = c.self.inside.holdings.entries.entries;
    } in
    let g : Graph = c.self.invariant.0 in
    let r : StandsFor b g = c.self.invariant.1 in
    let may = c.requires g (subst (λ b. StandsFor b g) c.self.view_is r) in (
      after (Run c.args.actor c.args.node) g,
      subst (λ k. StandsFor (record {
        nodes = b.nodes;
        states = set b.states c.args.node (record (m c) { ran = true; kept = k });
        holdings = c.put_all.new.self.entries.entries;
      }) (after (Run c.args.actor c.args.node) g)) (emptied c)
          (freed_written b g r c.args.node may.0.0.1 c.index_mut-state.result.now c.index_mut-state.ensures.value
          c.put_all.new.self.entries.entries c.args.actor may.0 (numbers c)),
    )

pub returns : goal.returns
returns c g given =
    let b : Book = record {
      nodes = c.self.inside.nodes;
      states = c.self.inside.states.items;
      holdings = c.self.inside.holdings.entries.entries;
    } in
    let r : StandsFor b g = subst (λ b. StandsFor b g) (sym c.self.view_is) given in
    let may = c.requires g given in (
      refl,
      subst (λ k. StandsFor (record {
        nodes = b.nodes;
        states = set b.states c.args.node (record (m c) { ran = true; kept = k });
        holdings = c.put_all.new.self.entries.entries;
      }) (after (Run c.args.actor c.args.node) g)) (emptied c)
          (freed_written b g r c.args.node may.0.0.1 c.index_mut-state.result.now c.index_mut-state.ensures.value
          c.put_all.new.self.entries.entries c.args.actor may.0 (numbers c)),
    )

pub returns-in_err-reserve : goal.returns-in_err-reserve
returns-in_err-reserve c =
    let p = err_from_is_err_and c.from_residual.result c.from_residual.ensures.1 in
    rw p.1 (
      search rules,
      λ g given nothing.
          let b : Book = record {
            nodes = c.self.inside.nodes;
            states = c.self.inside.states.items;
            holdings = c.self.inside.holdings.entries.entries;
          } in
          let r : StandsFor b g = subst (λ b. StandsFor b g) (sym c.self.view_is) given in
          let may = c.requires g given in
          let is = read_is b.states c.args.node c.index.result.now (in_range b g r c.args.node may.0.0.1)
          c.index.ensures in
          let same = ap (λ (m : NodeState). length m.kept) is in
          let entries = c.len-entries.ensures in
          let short = c.in_err-reserve.ensures.short in
          some_kept (state_of b.states c.args.node).kept (omega arith) (λ i. sym (r.kept c.args.node i) ∙ nothing i),
    )
