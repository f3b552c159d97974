-- The states as the code writes them: what was read at the node's place is changed and put back.
use Rattle.std.proofs.Common.{◌≡◌, ◌≢◌, ℕ, ◌+◌, ◌-◌, ◌<◌, ◌≤◌, ◌^◌, eqb, cond, Bool, true, false, List, [], length, set}
use Rattle.std.proofs.Common.{get_or, length-set, Option, Some, sym, refl, ap, ◌∙◌, arith}
use Rattle.std.proofs.lemmas.List.{get_or_read}
use Rattle.completion_core.specs.declared.node_state.NodeState.{NodeState}
use Rattle.completion_core.specs.declared.action.Action.TheVariants.{Arm, Add, Arrive, Run}
use Rattle.completion_core.specs.Graph.{Made, Held, amount, left, Graph}
use Rattle.completion_core.specs.Legal.{renamed, only_at, upd, Legal, after, reply, reply_of_arrival}
use Rattle.completion_core.specs.Book.{Book, StandsFor, state_of, blank, held_in}
use Rattle.completion_core.specs.Holdings.{place, each_place}
use Rattle.completion_core.proofs.TotalLemmas.{at_here, upd_here, upd_else, held_left}
use Rattle.completion_core.proofs.EffectLemmas.{written, unwritten, armed_after, added_after, made_left, made_after}
use Rattle.completion_core.proofs.EffectLemmas.{freed_after}

abbrev Entries : Type 0
Entries = List ((ℕ × ℕ) × ℕ)

pub in_range : (b : Book) (g : Graph) → StandsFor b g → (node : ℕ) → node ≤ g.drawn → node < length b.states
in_range b g r node h = let d = r.drawn in omega arith

pub read_is : (states : List NodeState) (node : ℕ) (m : NodeState) → node < length states → m ≡ get_or states node m
    → m ≡ state_of states node
read_is states node m h e = get_or_read states node m h e blank

module _ (b : Book) (g : Graph) (r : StandsFor b g) (node : ℕ) (drawn : node ≤ g.drawn) (m : NodeState)
    (read : m ≡ get_or b.states node m) (holdings : Entries) where
  inside : node < length b.states
  inside = in_range b g r node drawn

  is : m ≡ state_of b.states node
  is = read_is b.states node m inside read

  pub armed_written : (a pending : ℕ) (onward : List ℕ) → Legal (Arm a node pending onward) g
      → length (g.arrivals node) + (pending + 1) ≤ 2 ^ 62
      → ((x i : ℕ) → held_in holdings x i + each_place a onward x i
      ≡ held_in b.holdings x i + place a node (pending + 1) x i)
      → StandsFor (record {
        nodes = b.nodes;
        states = set b.states node (record m
            { armed = true; owed = m.owed + (pending + 1); left = m.left + (pending + 1); kept = onward });
        holdings = holdings;
      }) (after (Arm a node pending onward) g)
  armed_written a pending onward legal few numbers =
      let s : NodeState = record m {
        armed = true;
        owed = m.owed + (pending + 1);
        left = m.left + (pending + 1);
        kept = onward;
      } in
      armed_after b g r a node pending onward legal few s (set b.states node s) (written b.states node s inside)
      (unwritten b.states node s) (length-set b.states node s) holdings numbers
      (ap (λ (m : NodeState). record m {
        armed = true;
        owed = m.owed + (pending + 1);
        left = m.left + (pending + 1);
        kept = onward;
      }) is)

  pub added_written : (a d : ℕ) → Legal (Add a node d) g → length (g.arrivals node) + d ≤ 2 ^ 62
      → ((x i : ℕ) → held_in holdings x i ≡ held_in b.holdings x i + place a node d x i)
      → StandsFor (record {
        nodes = b.nodes;
        states = set b.states node (record m { owed = m.owed + d; left = m.left + d });
        holdings = holdings;
      })
      (after (Add a node d) g)
  added_written a d legal few numbers =
      let s : NodeState = record m { owed = m.owed + d; left = m.left + d } in
      added_after b g r a node d legal few s (set b.states node s) (written b.states node s inside)
      (unwritten b.states node s) (length-set b.states node s) holdings numbers
      (ap (λ (m : NodeState). record m { owed = m.owed + d; left = m.left + d }) is)

  pub freed_written : (a : ℕ) → Legal (Run a node) g
      → ((x i : ℕ) → held_in holdings x i ≡ held_in b.holdings x i + each_place a m.kept x i)
      → StandsFor (record {
        nodes = b.nodes;
        states = set b.states node (record m { ran = true; kept = [] });
        holdings = holdings;
      }) (after (Run a node) g)
  freed_written a legal numbers =
      let s : NodeState = record m { ran = true; kept = [] } in
      freed_after b g r a node legal s (set b.states node s) (written b.states node s inside)
      (unwritten b.states node s) (length-set b.states node s) holdings
      (λ x i. numbers x i ∙ ap (λ (m : NodeState). held_in b.holdings x i + each_place a m.kept x i) is)
      (ap (λ (m : NodeState). record m { ran = true; kept = [] }) is)

  -- an arrival that is held is left, and the node's number says so
  pub some_left : (a : ℕ) → 0 < amount (Held a) (g.arrivals node) → 0 < m.left
  some_left a have = let e = held_left a (g.arrivals node) in let l = r.left node in
      let k = ap (λ (m : NodeState). m.left) is in omega arith

  -- an arrival at END
  pub settled_written : (a : ℕ) (have : 0 < amount (Held a) (g.arrivals node))
      → ((x i : ℕ) → held_in holdings x i + place a node 1 x i ≡ held_in b.holdings x i)
      → StandsFor (record {
        nodes = b.nodes;
        states = set b.states node (record m { left = m.left - 1 });
        holdings = holdings;
      }) (record g { arrivals = renamed (Held a) Made (only_at node 1) g.arrivals })
  settled_written a have numbers =
      let s : NodeState = record m { left = m.left - 1 } in
      made_after b g r a node have s (set b.states node s) (written b.states node s inside) (unwritten b.states node s)
      (length-set b.states node s) holdings g.last numbers
      (ap (λ (m : NodeState). record m { left = m.left - 1 }) is
      ∙ ap (λ (o : Option ℕ). record (state_of b.states node)
      { left = (state_of b.states node).left - 1; last = o }) (sym (r.last node)))
      (λ i n. refl)

  after_arrive_left : (a : ℕ) (have : 0 < amount (Held a) (g.arrivals node))
      → left ((after (Arrive a node) g).arrivals node) ≡ m.left - 1
  after_arrive_left a have =
      let s : NodeState = record m { left = m.left - 1 } in
      let e = made_left b g r a node have s (set b.states node s) (written b.states node s inside)
      (unwritten b.states node s) (length-set b.states node s) node in
      let h = at_here node 1 in let l = r.left node in let k = ap (λ (m : NodeState). m.left) is in omega arith

  pub arrived_reply : (a : ℕ) (have : 0 < amount (Held a) (g.arrivals node))
      → reply_of_arrival (m.left - 1) ≡ reply (Arrive a node) g
  arrived_reply a have = ap reply_of_arrival (sym (after_arrive_left a have))

  pub arrived_written : (a : ℕ) (have : 0 < amount (Held a) (g.arrivals node)) (s : NodeState)
      → ((x i : ℕ) → held_in holdings x i + place a node 1 x i ≡ held_in b.holdings x i)
      → s ≡ record m { left = m.left - 1; last = cond (eqb (m.left - 1) 0) (Some a) m.last }
      → StandsFor (record { nodes = b.nodes; states = set b.states node s; holdings = holdings })
      (after (Arrive a node) g)
  arrived_written a have s numbers e =
      let now_left : ℕ = left ((after (Arrive a node) g).arrivals node) in
      let same : now_left ≡ m.left - 1 = after_arrive_left a have in
      let last_is : cond (eqb (m.left - 1) 0) (Some a) m.last ≡ (after (Arrive a node) g).last node =
      ap (λ (k : ℕ). cond (eqb k 0) (Some a) m.last) (sym same)
      ∙ ap (λ (o : Option ℕ). cond (eqb now_left 0) (Some a) o)
      (ap (λ (m : NodeState). m.last) is ∙ sym (r.last node))
      ∙ by_bool (eqb now_left 0) in
      made_after b g r a node have s (set b.states node s) (written b.states node s inside) (unwritten b.states node s)
      (length-set b.states node s) holdings ((after (Arrive a node) g).last) numbers
      (e ∙ ap (λ (o : Option ℕ). record m { left = m.left - 1; last = o }) last_is
      ∙ ap (λ (m : NodeState). record m { left = m.left - 1; last = (after (Arrive a node) g).last node }) is)
      (λ i n. elsewhere (eqb now_left 0) i n)
    where
      by_bool : (t : Bool) → cond t (Some a) (g.last node) ≡ (cond t (upd g.last node (Some a)) g.last) node
      by_bool true = sym (upd_here g.last node (Some a))
      by_bool false = refl

      elsewhere : (t : Bool) (i : ℕ) → i ≢ node → (cond t (upd g.last node (Some a)) g.last) i ≡ g.last i
      elsewhere true i n = upd_else g.last node (Some a) i n
      elsewhere false i n = refl
