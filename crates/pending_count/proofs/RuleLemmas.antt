-- What a step of one seat leaves of each part of the rule.
use Rattle.std.proofs.Common.{◌≡◌, ◌≢◌, ℕ, ◌+◌, ◌<◌, ◌≤◌, min, Bool, true, false, List, length, get_or, set, sym, ap}
use Rattle.std.proofs.Common.{◌∙◌, subst, arith, get_or-set_same, get_or-set_other, length-set}
use mathlib.Core.Logic.{dite}
use mathlib.Core.Option.{some}
use native.Mathlib.Decide.{ℕ_discrete}
use lib.ListN.{get_elem?}
use Rattle.atomic_table.specs.Table.{State}
use Rattle.completion_core.specs.Graph.{Arrival, Held, Kept, total, amount, left, Graph}
use Rattle.completion_core.specs.Legal.{count}
use Rattle.pending_count.specs.declared.view.View.{View}
use Rattle.pending_count.specs.Views.{blank, InRange, view_at, names, note_of}
use Rattle.pending_count.specs.Shows.{additions, Counting, Holding, Claiming, Keeping, Noting, Shows, kept_at}
use Rattle.pending_count.proofs.SumLemmas.{total-kept, seat_is, bool_case}

pub within : (d c n : ℕ) → d ≡ min c n → d ≤ n
within d c n e = omega arith

-- one view among all
module _ {T : Type 0} (views : List (View T)) (id : ℕ) (v : View T) (at : get_elem? views id ≡ some v) where
  pub there : id < length views
  there = (seat_is views id v blank at).0

  pub mine : view_at views id ≡ v
  mine = (seat_is views id v blank at).1

  pub here_is : (w : View T) → view_at (set views id w) id ≡ w
  here_is w = get_or-set_same views id w blank there

  pub else_is : (w : View T) (a : ℕ) → a ≢ id → view_at (set views id w) a ≡ view_at views a
  else_is w a n = get_or-set_other views id a w blank n

  -- a part of a view that the step leaves
  pub stays : {A : Type 0} (p : View T → A) (w : View T) → p w ≡ p v → (a : ℕ)
      → p (view_at (set views id w) a) ≡ p (view_at views a)
  stays p w e a = dite (ℕ_discrete a id)
      (λ h. ap (λ k. p (view_at (set views id w) k)) h ∙ ap p (here_is w) ∙ e ∙ ap p (sym mine)
      ∙ ap (λ k. p (view_at views k)) (sym h))
      (λ n. ap p (else_is w a n))

  pub sum_stays : (f : View T → ℕ) (w : View T) → f w ≡ f v → total f (set views id w) ≡ total f views
  sum_stays f w e = total-kept f views id v w at e

  pub holding_set : (w : View T) (arr arr' : ℕ → List Arrival) → ((i : ℕ) → count i w.held ≡ amount (Held id) (arr' i))
      → ((a i : ℕ) → a ≢ id → amount (Held a) (arr' i) ≡ amount (Held a) (arr i)) → Holding views arr
      → Holding (set views id w) arr'
  holding_set w arr arr' own others h a i = dite (ℕ_discrete a id)
      (λ e. ap (λ k. count i (view_at (set views id w) k).held) e ∙ ap (λ (u : View T). count i u.held) (here_is w)
      ∙ own i ∙ ap (λ k. amount (Held k) (arr' i)) (sym e))
      (λ n. ap (λ (u : View T). count i u.held) (else_is w a n) ∙ h a i ∙ sym (others a i n))

-- the parts of the rule for other views that say equal things
module _ {T : Type 0} (views views' : List (View T)) where
  pub claiming_as : {drawn : ℕ} {claimer : ℕ → ℕ} {armed : ℕ → Bool}
      → ((a i : ℕ) → count i (view_at views' a).claims ≡ count i (view_at views a).claims)
      → Claiming views drawn claimer armed → Claiming views' drawn claimer armed
  claiming_as same r = record {
    drew = λ a i h. r.drew a i (subst (λ k. 0 < k) (same a i) h);
    once = λ a i p q c u. same a i ∙ r.once a i p q c u;
  }

  pub keeping_as : {arr arr' : ℕ → List Arrival} {armed ran : ℕ → Bool}
      → ((i : ℕ) → total (λ v. total (names i) v.armed) views' ≡ total (λ v. total (names i) v.armed) views)
      → ((i j : ℕ) → kept_at i j views' ≡ kept_at i j views)
      → ((i j : ℕ) → amount (Kept i) (arr' j) ≡ amount (Kept i) (arr j)) → Keeping views arr armed ran
      → Keeping views' arr' armed ran
  keeping_as named kept same r = record {
    records = λ i. named i ∙ r.records i;
    keeping = λ i j e. same i j ∙ r.keeping i j e ∙ sym (kept i j);
    spent = λ i j e. same i j ∙ r.spent i j e;
  }

  pub noting_as : {nodes : ℕ} {words words' : List ℕ} {armed : ℕ → Bool}
      → ((a : ℕ) → (view_at views' a).noted ≡ (view_at views a).noted)
      → ((a : ℕ) → (view_at views' a).seen ≡ (view_at views a).seen)
      → ((a : ℕ) → (view_at views' a).none_left ≡ (view_at views a).none_left)
      → ((i j : ℕ) → kept_at i j views' ≡ kept_at i j views) → get_or words' 0 0 ≤ get_or words 0 0
      → get_or words (nodes + 1) 0 ≤ get_or words' (nodes + 1) 0 → Noting nodes words views armed
      → Noting nodes words' views' armed
  noting_as noted seen left_none kept end drawn r = record {
    noted = λ a i k e. let n = r.noted a i k (ap (note_of i) (sym (noted a)) ∙ e) in (n.0, λ j. n.1 j ∙ sym (kept i j));
    seen = λ a n e. let h = r.seen a n (sym (seen a) ∙ e) in omega arith;
    exhausted = λ a e. let h = r.exhausted a (sym (left_none a) ∙ e) in omega arith;
  }

-- one word of a node or of END becomes n
module _ {T : Type 0} (nodes : ℕ) (words : List ℕ) (views : List (View T)) (drawn : ℕ) (arr : ℕ → List Arrival)
    (r : Counting nodes words views drawn arr) (node n : ℕ) (low : node ≤ nodes) where
  pub word_here : get_or (set words node n) node 0 ≡ n
  word_here = get_or-set_same words node n 0 (let a = r.size in omega arith)

  pub claim_word : get_or (set words node n) (nodes + 1) 0 ≡ get_or words (nodes + 1) 0
  claim_word = get_or-set_other words node (nodes + 1) n 0 (λ e. absurd (omega arith))

  pub end_word : (node ≡ 0 → n ≤ get_or words 0 0) → get_or (set words node n) 0 0 ≤ get_or words 0 0
  end_word less = dite (ℕ_discrete 0 node)
      (λ e. let h : get_or (set words node n) 0 0 ≡ n = ap (λ k. get_or (set words node n) k 0) e ∙ word_here in
      let l = less (sym e) in omega arith)
      (λ m. let h = get_or-set_other words node 0 n 0 m in omega arith)

  pub counting_word : (views' : List (View T)) (arr' : ℕ → List Arrival) (d : ℕ)
      → total (λ v. v.credit) views' + d ≡ total (λ v. v.credit) views → additions views' ≡ additions views + d
      → n ≡ left (arr' node) → ((i : ℕ) → i ≢ node → left (arr' i) ≡ left (arr i))
      → (0 < node → left (arr' node) ≤ 4294967296 + (additions views + d))
      → Counting nodes (set words node n) views' drawn arr'
  counting_word views' arr' d pays adds is same few = record {
    size = length-set words node n ∙ r.size;
    draws = r.draws ∙ ap (λ c. min c nodes) (sym claim_word);
    paid = (let a = claim_word in let p = r.paid in omega arith);
    few = λ i p. dite (ℕ_discrete i node)
        (λ e. subst (λ k. left (arr' k) ≤ 4294967296 + additions views') (sym e)
        (let f = few (subst (λ k. 0 < k) e p) in omega arith))
        (λ m. let a = same i m in let b = r.few i p in omega arith);
    word = λ i h. dite (ℕ_discrete i node)
        (λ e. ap (λ k. get_or (set words node n) k 0) e ∙ word_here ∙ is ∙ ap (λ k. left (arr' k)) (sym e))
        (λ m. get_or-set_other words node i n 0 m ∙ r.word i h ∙ sym (same i m));
  }

-- a node at which a seat holds an arrival, and one that it drew, are among the nodes
module _ {S T : Type 0} (nodes : ℕ) (s : State S (View T)) (g : Graph) (r : Shows nodes s g) where
  pub drawn_low : g.drawn ≤ nodes
  drawn_low = within g.drawn _ nodes r.counting.draws

  module _ (id : ℕ) (v : View T) (at : get_elem? s.views id ≡ some v) where
    pub my_part : (i : ℕ) → count i v.held ≡ amount (Held id) (g.arrivals i)
    my_part i = ap (λ (u : View T). count i u.held) (sym (mine s.views id v at)) ∙ r.holding id i

    pub is_armed : (i : ℕ) → 0 < i → 0 < count i v.held → g.armed i ≡ true
    is_armed i pos have = bool_case (g.armed i) (g.armed i ≡ true) (λ e. e)
        (λ e. let z : amount (Held id) (g.arrivals i) ≡ 0 = ap (amount (Held id)) (r.running.bare i pos e) in
        let h = my_part i in absurd (omega arith))

    pub is_drawn : (i : ℕ) → 0 < i → 0 < count i v.held → i ≤ g.drawn
    is_drawn i pos have = (r.running.below i (is_armed i pos have)).1

    pub claim_is : (i : ℕ) → 0 < count i v.claims → (0 < i) × (i ≤ g.drawn) × (g.claimer i ≡ id) × (g.armed i ≡ false)
    claim_is i drew = r.claiming.drew id i
        (subst (λ (u : View T). 0 < count i u.claims) (sym (mine s.views id v at)) drew)

    pub below_drawn : (i : ℕ) → 0 < count i v.held + count i v.claims → i ≤ g.drawn
    below_drawn i h = dite (ℕ_discrete (count i v.claims) 0)
        (λ e. dite (ℕ_discrete i 0) (λ z. omega arith) (λ n. is_drawn i (omega arith) (omega arith)))
        (λ n. (claim_is i (omega arith)).1)

    pub in_range : InRange nodes v
    in_range i h = let a = below_drawn i h in let b = drawn_low in omega arith

    pub held_low : (i : ℕ) → 0 < count i v.held → i ≤ nodes
    held_low i have = in_range i (omega arith)
