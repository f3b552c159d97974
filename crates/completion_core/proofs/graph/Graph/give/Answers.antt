use Rattle.std.proofs.Common.{◌≡◌, ℕ, ◌+◌, sym, subst, refl, ap, ◌∙◌, arith}
use Rattle.completion_core.specs.declared.action.Action.TheVariants.{Give}
use Rattle.completion_core.specs.Graph.{Graph}
use Rattle.completion_core.specs.Legal.{after}
use Rattle.completion_core.specs.Book.{Book, StandsFor}
use Rattle.completion_core.proofs.TotalLemmas.{two_held_left, left_length}
use Rattle.completion_core.specs.Book.{held_in}
use Rattle.completion_core.specs.Holdings.{held, place}
use Rattle.completion_core.proofs.EffectLemmas.{given_after}
use Rattle.completion_core.proofs.HeldArrivalLemmas.{place-none}
use Rattle.completion_core.proofs.graph.Graph.give.Goals.{else-from-to-via-then-from-to+else-k-ne0}
use Rattle.completion_core.proofs.graph.Graph.give.Goals.{else-from-to-via-else-from-to}
use Rattle.completion_core.proofs.graph.Graph.give.Goals as goal

pub put-requires-clause-fits : goal.put-requires-clause-fits
put-requires-clause-fits c =
    let b : Book = record {
      nodes = c.self.inside.nodes;
      states = c.self.inside.states.items;
      holdings = c.self.inside.holdings.entries.entries;
    } in
    let g : Graph = c.self.invariant.0 in
    let r : StandsFor b g = c.self.invariant.1 in
    let may = c.requires g (subst (λ b. StandsFor b g) c.self.view_is r) in
    let have = may.0.1 in
    let a = r.held c.args.from c.args.node in
    let t = r.held c.args.to c.args.node in
    let h = two_held_left c.args.from c.args.to c.if-from-to.true (g.arrivals c.args.node) in
    let d = left_length (g.arrivals c.args.node) in
    let f = r.fits c.args.node in
    let same = c.in_ok-reserve.ensures.held c.args.to c.args.node in
    omega arith

numbers : (c : goal.After-take) (x i : ℕ)
    → held c.take.new.self x i + place c.args.from c.args.node c.args.k x i
    ≡ held c.self.inside.holdings x i + place c.args.to c.args.node c.args.k x i
numbers c x i = let t = c.take.ensures x i in let p = c.put.ensures.held x i in
    let s = c.in_ok-reserve.ensures.held x i in omega arith

pub invariant_of-self-then-k-ne0 : goal.invariant_of-self-then-k-ne0
invariant_of-self-then-k-ne0 c =
    let b : Book = record {
      nodes = c.self.inside.nodes;
      states = c.self.inside.states.items;
      holdings = c.self.inside.holdings.entries.entries;
    } in
    let g : Graph = c.self.invariant.0 in
    let r : StandsFor b g = c.self.invariant.1 in
    let may = c.requires g (subst (λ b. StandsFor b g) c.self.view_is r) in (
      after (Give c.args.from c.args.to c.args.node c.args.k) g,
      given_after b g r c.args.from c.args.to c.args.node c.args.k may.0.1 c.take.new.self.entries.entries
          (numbers c),
    )

pub returns-in_ok-reserve : goal.returns-in_ok-reserve
returns-in_ok-reserve c g given =
    let b : Book = record {
      nodes = c.self.inside.nodes;
      states = c.self.inside.states.items;
      holdings = c.self.inside.holdings.entries.entries;
    } in
    let r : StandsFor b g = subst (λ b. StandsFor b g) (sym c.self.view_is) given in
    let may = c.requires g given in (
      refl,
      given_after b g r c.args.from c.args.to c.args.node c.args.k may.0.1 c.take.new.self.entries.entries
          (numbers c),
    )

pub returns-else-from-to : goal.returns-else-from-to
returns-else-from-to c g given =
    let b : Book = c.args.self.now in
    let may = c.requires g given in
    let same : (x i : ℕ) → place c.args.from c.args.node c.args.k x i ≡ place c.args.to c.args.node c.args.k x i =
    elim c.else-from-to.branch [
      | else-from-to-via-then-from-to+else-k-ne0 w ↦
          (λ x i. ap (λ k. place c.args.from c.args.node k x i) w.if-k-ne0.false
          ∙ place-none c.args.from c.args.node x i
          ∙ sym (ap (λ k. place c.args.to c.args.node k x i) w.if-k-ne0.false ∙ place-none c.args.to c.args.node x i))
      | else-from-to-via-else-from-to w ↦ (λ x i. ap (λ a. place a c.args.node c.args.k x i) w.if-from-to.false)
    ] in (
      refl,
      given_after b g given c.args.from c.args.to c.args.node c.args.k may.0.1 b.holdings
          (λ x i. ap (λ n. held_in b.holdings x i + n) (same x i)),
    )
