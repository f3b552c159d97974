-- What a legal action does to a book: the new book means the graph after it.
use Rattle.std.proofs.Common.{◌≡◌, ◌≢◌, ℕ, zero, suc, ◌+◌, ◌-◌, ◌<◌, ◌≤◌, ◌^◌, eqb, cond, Bool, true, false, List, []}
use Rattle.std.proofs.Common.{◌∷◌, ◌++◌, length, Option, None, sym, refl, ap, ◌∙◌, subst, arith, eq-eqb, ne_eqb}
use Rattle.std.proofs.Common.{true≢false, length-append, set, get_or-set_same, get_or-set_other, append-nil}
use mathlib.Core.Logic.{dite}
use native.Mathlib.Decide.{ℕ_discrete}
use Rattle.completion_core.specs.declared.node_state.NodeState.{NodeState}
use Rattle.completion_core.specs.declared.action.Action.TheVariants.{Arm, Add, Give, Run}
use Rattle.completion_core.specs.Graph.{Arrival, Made, Held, Kept, one_same, not_made, total, copies, amount, left}
use Rattle.completion_core.specs.Graph.{Graph}
use Rattle.completion_core.specs.Legal.{rename, renamed, with_fresh, only_at, count, upd, Legal, after}
use Rattle.completion_core.specs.Book.{Book, StandsFor, state_of, blank, held_in}
use Rattle.completion_core.specs.Holdings.{place, each_place}
use Rattle.completion_core.proofs.TotalLemmas.{total-append, total-ones, total-zeros, total-fresh, length-fresh}
use Rattle.completion_core.proofs.TotalLemmas.{at_here, at_else, upd_here, upd_else, one_kept, self_kept, total-rename}
use Rattle.completion_core.proofs.TotalLemmas.{length-rename, rename-none, same_after, fewer_after, more_after}
use Rattle.completion_core.proofs.HeldArrivalLemmas.{place_is, each_place_is}

abbrev Entries : Type 0
Entries = List ((ℕ × ℕ) × ℕ)

-- a change of one node's state, and of who holds what
module _ (b : Book) (g : Graph) (r : StandsFor b g) (node : ℕ) (s : NodeState) (states : List NodeState)
    (at : state_of states node ≡ s) (apart : (i : ℕ) → i ≢ node → state_of states i ≡ state_of b.states i)
    (long : length states ≡ length b.states) where
  field : {A : Type 0} (p : NodeState → A) (old new : ℕ → A) → new node ≡ p s → ((i : ℕ) → i ≢ node → new i ≡ old i)
      → ((i : ℕ) → old i ≡ p (state_of b.states i)) → (i : ℕ) → new i ≡ p (state_of states i)
  field p old new here elsewhere was i = dite (ℕ_discrete i node)
      (λ e. ap new e ∙ here ∙ ap p (sym at) ∙ ap (λ k. p (state_of states k)) (sym e))
      (λ n. elsewhere i n ∙ was i ∙ ap p (sym (apart i n)))

  pub rebuilt : (holdings : Entries) (arrivals : ℕ → List Arrival) (armed ran : ℕ → Bool) (last : ℕ → Option ℕ)
      → s.claimer ≡ (state_of b.states node).claimer
      → armed node ≡ s.armed → ((i : ℕ) → i ≢ node → armed i ≡ g.armed i)
      → ran node ≡ s.ran → ((i : ℕ) → i ≢ node → ran i ≡ g.ran i)
      → last node ≡ s.last → ((i : ℕ) → i ≢ node → last i ≡ g.last i)
      → length (arrivals node) ≡ s.owed → ((i : ℕ) → i ≢ node → length (arrivals i) ≡ length (g.arrivals i))
      → left (arrivals node) ≡ s.left → ((i : ℕ) → i ≢ node → left (arrivals i) ≡ left (g.arrivals i))
      → ((a i : ℕ) → amount (Held a) (arrivals i) ≡ held_in holdings a i)
      → ((i : ℕ) → amount (Kept node) (arrivals i) ≡ count i s.kept)
      → ((k i : ℕ) → k ≢ node → amount (Kept k) (arrivals i) ≡ amount (Kept k) (g.arrivals i))
      → (armed node ≡ false → (i : ℕ) → amount (Kept node) (arrivals i) ≡ 0)
      → ((i : ℕ) → 0 < i → armed i ≡ false → arrivals i ≡ [])
      → (0 < node → length (arrivals node) ≤ 2 ^ 62) → length (arrivals node) < 2 ^ 64
      → StandsFor (record { nodes = b.nodes; states = states; holdings = holdings })
      (record {
        nodes = g.nodes;
        drawn = g.drawn;
        claimer = g.claimer;
        arrivals = arrivals;
        armed = armed;
        ran = ran;
        last = last;
      })
  rebuilt holdings arrivals armed ran last claimer_at armed_at armed_else ran_at ran_else last_at last_else owed_at
      owed_else left_at left_else held kept_at kept_else idle_at bare few fits = record {
        nodes = r.nodes;
        drawn = r.drawn ∙ sym long;
        within = r.within;
        claimer = field (λ (s : NodeState). s.claimer) g.claimer g.claimer (r.claimer node ∙ sym claimer_at)
            (λ i n. refl)
            r.claimer;
        armed = field (λ (s : NodeState). s.armed) g.armed armed armed_at armed_else r.armed;
        ran = field (λ (s : NodeState). s.ran) g.ran ran ran_at ran_else r.ran;
        last = field (λ (s : NodeState). s.last) g.last last last_at last_else r.last;
        owed = field (λ (s : NodeState). s.owed) (λ i. length (g.arrivals i)) (λ i. length (arrivals i)) owed_at
            owed_else
            r.owed;
        left = field (λ (s : NodeState). s.left) (λ i. left (g.arrivals i)) (λ i. left (arrivals i)) left_at left_else
            r.left;
        held = held;
        kept = λ k i. field (λ (s : NodeState). count i s.kept) (λ k. amount (Kept k) (g.arrivals i))
            (λ k. amount (Kept k) (arrivals i)) (kept_at i) (λ k n. kept_else k i n) (λ k. r.kept k i) k;
        idle = λ k i u. dite (ℕ_discrete k node)
            (λ e. ap (λ j. amount (Kept j) (arrivals i)) e ∙ idle_at (ap armed (sym e) ∙ u) i)
            (λ n. kept_else k i n ∙ r.idle k i (sym (armed_else k n) ∙ u));
        bare = bare;
        few = λ i p. dite (ℕ_discrete i node)
            (λ e. subst (λ j. length (arrivals j) ≤ 2 ^ 62) (sym e) (few (subst (λ j. 0 < j) e p)))
            (λ n. let e = owed_else i n in let f = r.few i p in omega arith);
        fits = λ i. dite (ℕ_discrete i node)
            (λ e. subst (λ j. length (arrivals j) < 2 ^ 64) (sym e) fits)
            (λ n. let e = owed_else i n in let f = r.fits i in omega arith);
      }

-- the state of a node that was written
pub written : (states : List NodeState) (node : ℕ) (s : NodeState) → node < length states
    → state_of (set states node s) node ≡ s
written states node s h = get_or-set_same states node s blank h

pub unwritten : (states : List NodeState) (node : ℕ) (s : NodeState) (i : ℕ) → i ≢ node
    → state_of (set states node s) i ≡ state_of states i
unwritten states node s i n = get_or-set_other states node i s blank n

-- an arming
module _ (b : Book) (g : Graph) (r : StandsFor b g) (a node pending : ℕ) (onward : List ℕ)
    (legal : Legal (Arm a node pending onward) g) (few : length (g.arrivals node) + (pending + 1) ≤ 2 ^ 62)
    (s : NodeState) (states : List NodeState) (at : state_of states node ≡ s)
    (apart : (i : ℕ) → i ≢ node → state_of states i ≡ state_of b.states i)
    (long : length states ≡ length b.states) where
  abbrev n : ℕ
  n = pending + 1

  abbrev before : ℕ → List Arrival
  before = renamed (Held a) (Kept node) (λ i. count i onward) g.arrivals

  abbrev arm_arrivals : ℕ → List Arrival
  arm_arrivals = with_fresh node n (Held a) before

  have : (i : ℕ) → count i onward ≤ amount (Held a) (g.arrivals i)
  have = legal.3

  arm_total : (f : Arrival → ℕ) (i : ℕ) → total f (arm_arrivals i)
      ≡ total f (before i) + total f (copies (only_at node n i) (Held a))
  arm_total f i = let e = total-append f (before i) (cond (eqb i node) (copies n (Held a)) []) in
      let h = total-fresh f node n (Held a) i in omega arith

  arm_length : (i : ℕ) → length (arm_arrivals i) ≡ length (g.arrivals i) + only_at node n i
  arm_length i = let e = length-append (before i) (cond (eqb i node) (copies n (Held a)) []) in
      let h = length-fresh node n (Held a) i in
      let l = length-rename (count i onward) (Held a) (Kept node) (g.arrivals i) in omega arith

  arm_left : (i : ℕ) → left (arm_arrivals i) ≡ left (g.arrivals i) + only_at node n i
  arm_left i = let e = arm_total not_made i in let h = total-ones not_made (only_at node n i) (Held a) refl in
      let l = same_after (Held a) (Kept node) (λ i. count i onward) g.arrivals have not_made refl i in omega arith

  arm_held : (x i : ℕ) → amount (Held x) (arm_arrivals i) + each_place a onward x i
      ≡ amount (Held x) (g.arrivals i) + place a node n x i
  arm_held x i =
      let e = arm_total (one_same (Held x)) i in
      let p = place_is a node n x i in
      let q = each_place_is a onward x i in
      let l = total-rename (one_same (Held x)) (count i onward) (Held a) (Kept node) (g.arrivals i) (have i) in
      let z = total-zeros (one_same (Held x)) (count i onward) (Kept node) refl in
      omega arith

  arm_kept : (k i : ℕ) → k ≢ node → amount (Kept k) (arm_arrivals i) ≡ amount (Kept k) (g.arrivals i)
  arm_kept k i u =
      let e = arm_total (one_same (Kept k)) i in
      let z = total-zeros (one_same (Kept k)) (only_at node n i) (Held a) refl in
      let l = same_after (Held a) (Kept node) (λ i. count i onward) g.arrivals have (one_same (Kept k))
      (sym (one_kept k node u)) i in
      omega arith

  arm_keeps : (i : ℕ) → amount (Kept node) (arm_arrivals i) ≡ count i onward
  arm_keeps i =
      let e = arm_total (one_same (Kept node)) i in
      let z = total-zeros (one_same (Kept node)) (only_at node n i) (Held a) refl in
      let l = more_after (Held a) (Kept node) (λ i. count i onward) g.arrivals have (one_same (Kept node)) refl
      (self_kept node) i in
      let none_yet = r.idle node i legal.2 in
      omega arith

  arm_bare : (i : ℕ) → 0 < i → upd g.armed node true i ≡ false → arm_arrivals i ≡ []
  arm_bare i p u = dite (ℕ_discrete i node)
      (λ e. absurd (true≢false (sym (upd_here g.armed node true) ∙ ap (upd g.armed node true) (sym e) ∙ u)))
      (λ v. ap (λ c. before i ++ cond c (copies n (Held a)) []) (ne_eqb i node v)
      ∙ append-nil (before i) ∙ ap (rename (count i onward) (Held a) (Kept node))
      (r.bare i p (sym (upd_else g.armed node true i v) ∙ u)) ∙ rename-none (count i onward) (Held a) (Kept node))

  pub armed_after : (holdings : Entries)
      → ((x i : ℕ) → held_in holdings x i + each_place a onward x i ≡ held_in b.holdings x i + place a node n x i)
      → s ≡ record (state_of b.states node) {
        armed = true;
        owed = (state_of b.states node).owed + n;
        left = (state_of b.states node).left + n;
        kept = onward;
      }
      → StandsFor (record { nodes = b.nodes; states = states; holdings = holdings })
      (after (Arm a node pending onward) g)
  armed_after holdings numbers is =
      rebuilt b g r node s states at apart long holdings arm_arrivals (upd g.armed node true) g.ran g.last
      (ap (λ (s : NodeState). s.claimer) is)
      (upd_here g.armed node true ∙ sym (ap (λ (s : NodeState). s.armed) is)) (upd_else g.armed node true)
      (r.ran node ∙ sym (ap (λ (s : NodeState). s.ran) is)) (λ i u. refl)
      (r.last node ∙ sym (ap (λ (s : NodeState). s.last) is)) (λ i u. refl)
      (let e = arm_length node in let z = at_here node n in let o = r.owed node in
      let k = ap (λ (s : NodeState). s.owed) is in omega arith)
      (λ i u. let e = arm_length i in let z = at_else node n i u in omega arith)
      (let e = arm_left node in let z = at_here node n in let o = r.left node in
      let k = ap (λ (s : NodeState). s.left) is in omega arith)
      (λ i u. let e = arm_left i in let z = at_else node n i u in omega arith)
      (λ x i. let e = arm_held x i in let h = numbers x i in let o = r.held x i in omega arith)
      (λ i. arm_keeps i ∙ sym (ap (λ (s : NodeState). count i s.kept) is)) arm_kept
      (λ u. absurd (true≢false (sym (upd_here g.armed node true) ∙ u)))
      arm_bare
      (λ p. let e = arm_length node in let z = at_here node n in omega arith)
      (let e = arm_length node in let z = at_here node n in omega arith)

-- an addition
module _ (b : Book) (g : Graph) (r : StandsFor b g) (a node d : ℕ) (legal : Legal (Add a node d) g)
    (few : length (g.arrivals node) + d ≤ 2 ^ 62) (s : NodeState) (states : List NodeState)
    (at : state_of states node ≡ s) (apart : (i : ℕ) → i ≢ node → state_of states i ≡ state_of b.states i)
    (long : length states ≡ length b.states) where
  abbrev add_arrivals : ℕ → List Arrival
  add_arrivals = with_fresh node d (Held a) g.arrivals

  add_total : (f : Arrival → ℕ) (i : ℕ) → total f (add_arrivals i)
      ≡ total f (g.arrivals i) + total f (copies (only_at node d i) (Held a))
  add_total f i = let e = total-append f (g.arrivals i) (cond (eqb i node) (copies d (Held a)) []) in
      let h = total-fresh f node d (Held a) i in omega arith

  add_length : (i : ℕ) → length (add_arrivals i) ≡ length (g.arrivals i) + only_at node d i
  add_length i = let e = length-append (g.arrivals i) (cond (eqb i node) (copies d (Held a)) []) in
      let h = length-fresh node d (Held a) i in omega arith

  add_left : (i : ℕ) → left (add_arrivals i) ≡ left (g.arrivals i) + only_at node d i
  add_left i = let e = add_total not_made i in let h = total-ones not_made (only_at node d i) (Held a) refl in
      omega arith

  add_kept : (k i : ℕ) → amount (Kept k) (add_arrivals i) ≡ amount (Kept k) (g.arrivals i)
  add_kept k i = let e = add_total (one_same (Kept k)) i in
      let z = total-zeros (one_same (Kept k)) (only_at node d i) (Held a) refl in omega arith

  add_bare : (i : ℕ) → 0 < i → g.armed i ≡ false → add_arrivals i ≡ []
  add_bare i p u = dite (ℕ_discrete i node)
      (λ e. let none_there : amount (Held a) (g.arrivals node) ≡ 0 =
      ap (λ k. amount (Held a) (g.arrivals k)) (sym e) ∙ ap (amount (Held a)) (r.bare i p u) in
      let some_there = legal.1 in absurd (omega arith))
      (λ v. ap (λ c. g.arrivals i ++ cond c (copies d (Held a)) []) (ne_eqb i node v) ∙ append-nil (g.arrivals i)
      ∙ r.bare i p u)

  pub added_after : (holdings : Entries)
      → ((x i : ℕ) → held_in holdings x i ≡ held_in b.holdings x i + place a node d x i)
      → s ≡ record (state_of b.states node)
      { owed = (state_of b.states node).owed + d; left = (state_of b.states node).left + d }
      → StandsFor (record { nodes = b.nodes; states = states; holdings = holdings }) (after (Add a node d) g)
  added_after holdings numbers is =
      rebuilt b g r node s states at apart long holdings add_arrivals g.armed g.ran g.last
      (ap (λ (s : NodeState). s.claimer) is)
      (r.armed node ∙ sym (ap (λ (s : NodeState). s.armed) is)) (λ i u. refl)
      (r.ran node ∙ sym (ap (λ (s : NodeState). s.ran) is)) (λ i u. refl)
      (r.last node ∙ sym (ap (λ (s : NodeState). s.last) is)) (λ i u. refl)
      (let e = add_length node in let z = at_here node d in let o = r.owed node in
      let k = ap (λ (s : NodeState). s.owed) is in omega arith)
      (λ i u. let e = add_length i in let z = at_else node d i u in omega arith)
      (let e = add_left node in let z = at_here node d in let o = r.left node in
      let k = ap (λ (s : NodeState). s.left) is in omega arith)
      (λ i u. let e = add_left i in let z = at_else node d i u in omega arith)
      (λ x i. let e = add_total (one_same (Held x)) i in let p = place_is a node d x i in let h = numbers x i in
      let o = r.held x i in omega arith)
      (λ i. add_kept node i ∙ r.kept node i ∙ sym (ap (λ (s : NodeState). count i s.kept) is)) (λ k i u. add_kept k i)
      (λ u i. add_kept node i ∙ r.idle node i u)
      add_bare
      (λ p. let e = add_length node in let z = at_here node d in omega arith)
      (let e = add_length node in let z = at_here node d in omega arith)

-- arrivals that are renamed at one node, of those that an actor holds there
module _ (b : Book) (g : Graph) (r : StandsFor b g) (a node k : ℕ) (z : Arrival)
    (have : k ≤ amount (Held a) (g.arrivals node)) where
  abbrev moved : ℕ → List Arrival
  moved = renamed (Held a) z (only_at node k) g.arrivals

  move_fits : (i : ℕ) → only_at node k i ≤ amount (Held a) (g.arrivals i)
  move_fits i = dite (ℕ_discrete i node)
      (λ e. subst (λ j. only_at node k j ≤ amount (Held a) (g.arrivals j)) (sym e)
      (let h = at_here node k in omega arith))
      (λ n. let h = at_else node k i n in omega arith)

  move_total : (f : Arrival → ℕ) (i : ℕ)
      → total f (moved i) + total f (copies (only_at node k i) (Held a))
      ≡ total f (g.arrivals i) + total f (copies (only_at node k i) z)
  move_total f i = total-rename f (only_at node k i) (Held a) z (g.arrivals i) (move_fits i)

  move_length : (i : ℕ) → length (moved i) ≡ length (g.arrivals i)
  move_length i = length-rename (only_at node k i) (Held a) z (g.arrivals i)

  move_bare : (i : ℕ) → 0 < i → g.armed i ≡ false → moved i ≡ []
  move_bare i p u = ap (rename (only_at node k i) (Held a) z) (r.bare i p u) ∙ rename-none (only_at node k i) (Held a) z

-- a gift
module _ (b : Book) (g : Graph) (r : StandsFor b g) (a c node k : ℕ)
    (have : k ≤ amount (Held a) (g.arrivals node)) where
  abbrev given : ℕ → List Arrival
  given = moved b g r a node k (Held c) have

  give_left : (i : ℕ) → left (given i) ≡ left (g.arrivals i)
  give_left = same_after (Held a) (Held c) (only_at node k) g.arrivals (move_fits b g r a node k (Held c) have) not_made
      refl

  give_kept : (j i : ℕ) → amount (Kept j) (given i) ≡ amount (Kept j) (g.arrivals i)
  give_kept j = same_after (Held a) (Held c) (only_at node k) g.arrivals (move_fits b g r a node k (Held c) have)
      (one_same (Kept j)) refl

  pub given_after : (holdings : Entries)
      → ((x i : ℕ) → held_in holdings x i + place a node k x i ≡ held_in b.holdings x i + place c node k x i)
      → StandsFor (record { nodes = b.nodes; states = b.states; holdings = holdings }) (after (Give a c node k) g)
  given_after holdings numbers =
      rebuilt b g r node (state_of b.states node) b.states refl (λ i n. refl) refl holdings given g.armed g.ran g.last
      refl (r.armed node) (λ i u. refl) (r.ran node) (λ i u. refl) (r.last node) (λ i u. refl)
      (move_length b g r a node k (Held c) have node ∙ r.owed node) (λ i u. move_length b g r a node k (Held c) have i)
      (give_left node ∙ r.left node) (λ i u. give_left i)
      (λ x i. let e = move_total b g r a node k (Held c) have (one_same (Held x)) i in let p = place_is a node k x i in
      let q = place_is c node k x i in let h = numbers x i in let o = r.held x i in omega arith)
      (λ i. give_kept node i ∙ r.kept node i) (λ j i u. give_kept j i)
      (λ u i. give_kept node i ∙ r.idle node i u)
      (move_bare b g r a node k (Held c) have)
      (λ p. let e = move_length b g r a node k (Held c) have node in let f = r.few node p in omega arith)
      (let e = move_length b g r a node k (Held c) have node in let f = r.fits node in omega arith)

-- an arrival that is made, at END too
module _ (b : Book) (g : Graph) (r : StandsFor b g) (a node : ℕ) (have : 0 < amount (Held a) (g.arrivals node))
    (s : NodeState) (states : List NodeState) (at : state_of states node ≡ s)
    (apart : (i : ℕ) → i ≢ node → state_of states i ≡ state_of b.states i)
    (long : length states ≡ length b.states) where
  pub have' : 1 ≤ amount (Held a) (g.arrivals node)
  have' = omega arith

  abbrev made : ℕ → List Arrival
  made = moved b g r a node 1 Made have'

  pub made_left : (i : ℕ) → left (made i) + only_at node 1 i ≡ left (g.arrivals i)
  made_left = fewer_after (Held a) Made (only_at node 1) g.arrivals (move_fits b g r a node 1 Made have') not_made refl
      refl

  made_kept : (j i : ℕ) → amount (Kept j) (made i) ≡ amount (Kept j) (g.arrivals i)
  made_kept j = same_after (Held a) Made (only_at node 1) g.arrivals (move_fits b g r a node 1 Made have')
      (one_same (Kept j)) refl

  pub made_after : (holdings : Entries) (last : ℕ → Option ℕ)
      → ((x i : ℕ) → held_in holdings x i + place a node 1 x i ≡ held_in b.holdings x i)
      → s ≡ record (state_of b.states node) { left = (state_of b.states node).left - 1; last = last node }
      → ((i : ℕ) → i ≢ node → last i ≡ g.last i)
      → StandsFor (record { nodes = b.nodes; states = states; holdings = holdings })
      (record {
        nodes = g.nodes;
        drawn = g.drawn;
        claimer = g.claimer;
        arrivals = made;
        armed = g.armed;
        ran = g.ran;
        last = last;
      })
  made_after holdings last numbers is last_else =
      rebuilt b g r node s states at apart long holdings made g.armed g.ran last
      (ap (λ (s : NodeState). s.claimer) is)
      (r.armed node ∙ sym (ap (λ (s : NodeState). s.armed) is)) (λ i u. refl)
      (r.ran node ∙ sym (ap (λ (s : NodeState). s.ran) is)) (λ i u. refl)
      (sym (ap (λ (s : NodeState). s.last) is)) last_else
      (move_length b g r a node 1 Made have' node ∙ r.owed node ∙ sym (ap (λ (s : NodeState). s.owed) is))
      (λ i u. move_length b g r a node 1 Made have' i)
      (let e = made_left node in let z = at_here node 1 in let o = r.left node in
      let k = ap (λ (s : NodeState). s.left) is in omega arith)
      (λ i u. let e = made_left i in let z = at_else node 1 i u in omega arith)
      (λ x i. let e = move_total b g r a node 1 Made have' (one_same (Held x)) i in let p = place_is a node 1 x i in
      let q = total-zeros (one_same (Held x)) (only_at node 1 i) Made refl in let h = numbers x i in
      let o = r.held x i in omega arith)
      (λ i. made_kept node i ∙ r.kept node i ∙ sym (ap (λ (s : NodeState). count i s.kept) is)) (λ j i u. made_kept j i)
      (λ u i. made_kept node i ∙ r.idle node i u)
      (move_bare b g r a node 1 Made have')
      (λ p. let e = move_length b g r a node 1 Made have' node in let f = r.few node p in omega arith)
      (let e = move_length b g r a node 1 Made have' node in let f = r.fits node in omega arith)

-- a run
module _ (b : Book) (g : Graph) (r : StandsFor b g) (a node : ℕ) (legal : Legal (Run a node) g) (s : NodeState)
    (states : List NodeState) (at : state_of states node ≡ s)
    (apart : (i : ℕ) → i ≢ node → state_of states i ≡ state_of b.states i)
    (long : length states ≡ length b.states) where
  abbrev freed_number : ℕ → ℕ
  freed_number i = amount (Kept node) (g.arrivals i)

  abbrev freed : ℕ → List Arrival
  freed = renamed (Kept node) (Held a) freed_number g.arrivals

  all_of : (i : ℕ) → freed_number i ≤ amount (Kept node) (g.arrivals i)
  all_of i = omega arith

  free_length : (i : ℕ) → length (freed i) ≡ length (g.arrivals i)
  free_length i = length-rename (freed_number i) (Kept node) (Held a) (g.arrivals i)

  free_left : (i : ℕ) → left (freed i) ≡ left (g.arrivals i)
  free_left = same_after (Kept node) (Held a) freed_number g.arrivals all_of not_made refl

  free_kept : (k i : ℕ) → k ≢ node → amount (Kept k) (freed i) ≡ amount (Kept k) (g.arrivals i)
  free_kept k i u = same_after (Kept node) (Held a) freed_number g.arrivals all_of (one_same (Kept k))
      (one_kept k node u) i

  none_kept : (i : ℕ) → amount (Kept node) (freed i) ≡ 0
  none_kept i = let e = fewer_after (Kept node) (Held a) freed_number g.arrivals all_of (one_same (Kept node))
      (self_kept node) refl i in omega arith

  free_held : (x i : ℕ) → amount (Held x) (freed i)
      ≡ amount (Held x) (g.arrivals i) + each_place a (state_of b.states node).kept x i
  free_held x i =
      let e = total-rename (one_same (Held x)) (freed_number i) (Kept node) (Held a) (g.arrivals i) (all_of i) in
      let z = total-zeros (one_same (Held x)) (freed_number i) (Kept node) refl in
      let k = ap (λ m. total (one_same (Held x)) (copies m (Held a))) (r.kept node i) in
      let p = each_place_is a (state_of b.states node).kept x i in
      omega arith

  pub freed_after : (holdings : Entries)
      → ((x i : ℕ) → held_in holdings x i ≡ held_in b.holdings x i + each_place a (state_of b.states node).kept x i)
      → s ≡ record (state_of b.states node) { ran = true; kept = [] }
      → StandsFor (record { nodes = b.nodes; states = states; holdings = holdings }) (after (Run a node) g)
  freed_after holdings numbers is =
      rebuilt b g r node s states at apart long holdings freed g.armed (upd g.ran node true) g.last
      (ap (λ (s : NodeState). s.claimer) is)
      (r.armed node ∙ sym (ap (λ (s : NodeState). s.armed) is)) (λ i u. refl)
      (upd_here g.ran node true ∙ sym (ap (λ (s : NodeState). s.ran) is)) (upd_else g.ran node true)
      (r.last node ∙ sym (ap (λ (s : NodeState). s.last) is)) (λ i u. refl)
      (free_length node ∙ r.owed node ∙ sym (ap (λ (s : NodeState). s.owed) is)) (λ i u. free_length i)
      (free_left node ∙ r.left node ∙ sym (ap (λ (s : NodeState). s.left) is)) (λ i u. free_left i)
      (λ x i. let e = free_held x i in let h = numbers x i in let o = r.held x i in omega arith)
      (λ i. none_kept i ∙ sym (ap (λ (s : NodeState). count i s.kept) is)) free_kept
      (λ u i. none_kept i)
      (λ i p u. ap (rename (freed_number i) (Kept node) (Held a)) (r.bare i p u)
      ∙ rename-none (freed_number i) (Kept node) (Held a))
      (λ p. let e = free_length node in let f = r.few node p in omega arith)
      (let e = free_length node in let f = r.fits node in omega arith)

-- a claim: one more state, which is blank but for the claimer
abbrev pub fresh_state : ℕ → NodeState
fresh_state a = record { claimer = a; armed = false; ran = false; owed = 0; left = 0; last = None; kept = [] }

pub state_of-snoc : (states : List NodeState) (s : NodeState) (i : ℕ)
    → state_of (states ++ s ∷ []) i ≡ cond (eqb i (length states)) s (state_of states i)
state_of-snoc [] s zero = refl
state_of-snoc [] s (suc i) = sym (ap (λ c. cond c s blank) (ne_eqb (suc i) 0 (λ e. absurd (omega arith))))
state_of-snoc (x ∷ xs) s zero = sym (ap (λ c. cond c s x) (ne_eqb 0 (length (x ∷ xs)) (λ e. absurd (omega arith))))
state_of-snoc (x ∷ xs) s (suc i) = state_of-snoc xs s i ∙ dite (ℕ_discrete i (length xs))
    (λ e. ap (λ c. cond c s (state_of xs i)) (eq-eqb i (length xs) e)
    ∙ sym (ap (λ c. cond c s (state_of xs i)) (eq-eqb (suc i) (suc (length xs)) (ap suc e))))
    (λ n. ap (λ c. cond c s (state_of xs i)) (ne_eqb i (length xs) n)
    ∙ sym (ap (λ c. cond c s (state_of xs i))
    (ne_eqb (suc i) (suc (length xs)) (λ e. n (let h : suc i ≡ suc (length xs) = e in omega arith)))))

past : (states : List NodeState) (i : ℕ) → length states ≤ i → state_of states i ≡ blank
past [] i h = refl
past (x ∷ xs) zero h = absurd (omega arith)
past (x ∷ xs) (suc i) h = past xs i (omega arith)

module _ (b : Book) (g : Graph) (r : StandsFor b g) (a : ℕ) (room : g.drawn < g.nodes) where
  abbrev grown : List NodeState
  grown = b.states ++ fresh_state a ∷ []

  -- a part in which a fresh state is as a blank one
  like : {A : Type 0} (p : NodeState → A) → p (fresh_state a) ≡ p blank → (i : ℕ)
      → p (state_of grown i) ≡ p (state_of b.states i)
  like p e i = ap p (state_of-snoc b.states (fresh_state a) i) ∙ dite (ℕ_discrete i (length b.states))
      (λ h. ap (λ c. p (cond c (fresh_state a) (state_of b.states i))) (eq-eqb i (length b.states) h) ∙ e
      ∙ sym (ap p (past b.states i (omega arith))))
      (λ n. ap (λ c. p (cond c (fresh_state a) (state_of b.states i))) (ne_eqb i (length b.states) n))

  claim_at : (i : ℕ) → upd g.claimer (g.drawn + 1) a i ≡ (state_of grown i).claimer
  claim_at i = dite (ℕ_discrete i (g.drawn + 1))
      (λ h. ap (λ c. cond c a (g.claimer i)) (eq-eqb i (g.drawn + 1) h)
      ∙ sym (ap (λ (s : NodeState). s.claimer)
      (state_of-snoc b.states (fresh_state a) i
      ∙ ap (λ c. cond c (fresh_state a) (state_of b.states i)) (eq-eqb i (length b.states) (h ∙ r.drawn)))))
      (λ n. ap (λ c. cond c a (g.claimer i)) (ne_eqb i (g.drawn + 1) n) ∙ r.claimer i
      ∙ sym (ap (λ (s : NodeState). s.claimer)
      (state_of-snoc b.states (fresh_state a) i
      ∙ ap (λ c. cond c (fresh_state a) (state_of b.states i))
      (ne_eqb i (length b.states) (λ h. n (h ∙ sym r.drawn))))))

  pub drawn_after : StandsFor (record { nodes = b.nodes; states = grown; holdings = b.holdings })
      (record {
        nodes = g.nodes;
        drawn = g.drawn + 1;
        claimer = upd g.claimer (g.drawn + 1) a;
        arrivals = g.arrivals;
        armed = g.armed;
        ran = g.ran;
        last = g.last;
      })
  drawn_after = record {
    nodes = r.nodes;
    drawn = (let e = length-append b.states (fresh_state a ∷ []) in let d = r.drawn in omega arith);
    within = omega arith;
    claimer = claim_at;
    armed = λ i. r.armed i ∙ sym (like (λ (s : NodeState). s.armed) refl i);
    ran = λ i. r.ran i ∙ sym (like (λ (s : NodeState). s.ran) refl i);
    last = λ i. r.last i ∙ sym (like (λ (s : NodeState). s.last) refl i);
    owed = λ i. r.owed i ∙ sym (like (λ (s : NodeState). s.owed) refl i);
    left = λ i. r.left i ∙ sym (like (λ (s : NodeState). s.left) refl i);
    held = r.held;
    kept = λ k i. r.kept k i ∙ sym (like (λ (s : NodeState). count i s.kept) refl k);
    idle = r.idle;
    bare = r.bare;
    few = r.few;
    fits = r.fits;
  }
