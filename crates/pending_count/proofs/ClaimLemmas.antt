-- A seat draws the next node, where there is one.
use Rattle.std.proofs.Common.{◌≡◌, ◌≢◌, ℕ, ◌+◌, ◌-◌, ◌<◌, ◌≤◌, cond, min, Bool, true, false, List, ◌∷◌, get_or, set}
use Rattle.std.proofs.Common.{sym, refl, ap, ◌∙◌, subst, arith, get_or-set_same, get_or-set_other, length-set, Some}
use Rattle.std.proofs.Common.{None, nat_lt, lt-ltb, le-ltb, lt_of_not-le}
use mathlib.Core.Logic.{dite}
use mathlib.Core.Option.{some}
use native.Mathlib.Decide.{ℕ_discrete, dec_le}
use lib.ListN.{get_elem?}
use Rattle.atomic_table.specs.Table.{State}
use Rattle.completion_core.specs.declared.action.Action.TheVariants.{Claim}
use Rattle.completion_core.specs.declared.action.Reply.TheVariants.{Node, NoNode}
use Rattle.completion_core.specs.Legal.{reply}
use Rattle.pending_count.specs.Steps.{drawn_node, reply_of_claim}
use Rattle.completion_core.specs.Graph.{total, Graph}
use Rattle.completion_core.specs.Legal.{count, upd, after}
use Rattle.pending_count.specs.declared.view.View.{View}
use Rattle.pending_count.specs.Views.{view_at, names, keeps_at, note_of, claimed_view}
use Rattle.pending_count.specs.Shows.{Shows, Counting, Holding, Keeping, Noting}
use Rattle.pending_count.proofs.SumLemmas.{one_at, total-set, term_le, bool_case, at_here, at_else, upd_here, upd_else}
use Rattle.pending_count.proofs.RuleLemmas.{mine, here_is, else_is, stays, sum_stays, claiming_as, keeping_as}
use Rattle.pending_count.proofs.RuleLemmas.{below_drawn}

module _ {S T : Type 0} (nodes : ℕ) (s : State S (View T)) (g : Graph) (r : Shows nodes s g) (id : ℕ) (v : View T)
    (at : get_elem? s.views id ≡ some v) (paying : 0 < v.credit) where
  abbrev x : ℕ
  x = get_or s.words (nodes + 1) 0

  pub small : x < 4611686018427387904
  small = let a = term_le (λ (v : View T). v.credit) s.views id v at in let p = r.counting.paid in omega arith

  word_is : get_or (set s.words (nodes + 1) (x + 1)) (nodes + 1) 0 ≡ x + 1
  word_is = get_or-set_same s.words (nodes + 1) (x + 1) 0 (let a = r.counting.size in omega arith)

  word_else : (i : ℕ) → i ≤ nodes → get_or (set s.words (nodes + 1) (x + 1)) i 0 ≡ get_or s.words i 0
  word_else i h = get_or-set_other s.words (nodes + 1) i (x + 1) 0 (λ e. absurd (omega arith))

  pub counting' : (w : View T) (drawn : ℕ) → w.credit + 1 ≡ v.credit → w.added ≡ v.added → drawn ≡ min (x + 1) nodes
      → Counting nodes (set s.words (nodes + 1) (x + 1)) (set s.views id w) drawn g.arrivals
  counting' w drawn pays adds is = record {
    size = length-set s.words (nodes + 1) (x + 1) ∙ r.counting.size;
    draws = is ∙ ap (λ c. min c nodes) (sym word_is);
    paid = (let a = total-set (λ (v : View T). v.credit) s.views id v w at in
        let b = sum_stays s.views id v at (λ u. u.added) w adds in let p = r.counting.paid in let q = word_is in
        omega arith);
    few = λ i p. let b = sum_stays s.views id v at (λ u. u.added) w adds in let f = r.counting.few i p in omega arith;
    word = λ i h. word_else i h ∙ r.counting.word i h;
  }

  pub holding' : (w : View T) → w.held ≡ v.held → Holding (set s.views id w) g.arrivals
  holding' w same a i = stays s.views id v at (λ u. count i u.held) w (ap (count i) same) a ∙ r.holding a i

  pub keeping' : (w : View T) → w.armed ≡ v.armed → Keeping (set s.views id w) g.arrivals g.armed g.ran
  keeping' w same = keeping_as s.views (set s.views id w)
      (λ i. sum_stays s.views id v at (λ u. total (names i) u.armed) w (ap (total (names i)) same))
      (λ i j. sum_stays s.views id v at (λ u. total (keeps_at i j) u.armed) w (ap (total (keeps_at i j)) same))
      (λ i j. refl) r.keeping

  abbrev words' : List ℕ
  words' = set s.words (nodes + 1) (x + 1)

  pub noting' : (w : View T) → w.noted ≡ v.noted → w.seen ≡ v.seen → w.armed ≡ v.armed
      → ((a : ℕ) → (view_at (set s.views id w) a).none_left ≡ true → nodes ≤ x + 1)
      → Noting nodes words' (set s.views id w) g.armed
  noting' w noted seen armed spent = record {
    noted = λ a i k e. let n = r.noting.noted a i k
        (ap (note_of i) (sym (stays s.views id v at (λ u. u.noted) w noted a)) ∙ e) in (
          n.0,
          λ j. n.1 j ∙ sym (sum_stays s.views id v at (λ u. total (keeps_at i j) u.armed) w
              (ap (total (keeps_at i j)) armed)),
        );
    seen = λ a n e. let h = r.noting.seen a n (sym (stays s.views id v at (λ u. u.seen) w seen a) ∙ e) in
        let q = word_else 0 (omega arith) in omega arith;
    exhausted = λ a e. let h = spent a e in let q = word_is in omega arith;
  }

  no_later : (a : ℕ) → count (g.drawn + 1) (view_at s.views a).claims ≡ 0
  no_later a = dite (ℕ_discrete (count (g.drawn + 1) (view_at s.views a).claims) 0) (λ e. e)
      (λ n. let h = r.claiming.drew a (g.drawn + 1) (omega arith) in let b = h.1 in absurd (omega arith))

  not_armed : g.armed (g.drawn + 1) ≡ false
  not_armed = bool_case (g.armed (g.drawn + 1)) (g.armed (g.drawn + 1) ≡ false)
      (λ e. let h = r.running.below (g.drawn + 1) e in let b = h.1 in absurd (omega arith)) (λ e. e)

  abbrev w1 : View T
  w1 = record v { credit = v.credit - 1; claims = (x + 1) ∷ v.claims }

  counts_else : (a i : ℕ) → i ≢ x + 1 → count i (view_at (set s.views id w1) a).claims
      ≡ count i (view_at s.views a).claims
  counts_else a i n = stays s.views id v at (λ (u : View T). count i u.claims) w1
      (let a = at_else i (x + 1) (λ e. n (sym e)) in omega arith) a

  draws_one : (t : State S (View T)) → t.words ≡ words' → t.views ≡ set s.views id w1 → g.drawn ≡ x → x < nodes
      → Shows nodes t (record g { drawn = g.drawn + 1; claimer = upd g.claimer (g.drawn + 1) id })
  draws_one t ws vs is low = subst (λ (y : List ℕ × List (View T)). Shows nodes
      (record { words = y.0; homes = t.homes; views = y.1 })
      (record g { drawn = g.drawn + 1; claimer = upd g.claimer (g.drawn + 1) id })) (λ k. (sym ws k, sym vs k))
      (let next : x + 1 ≡ g.drawn + 1 = omega arith in record {
        all_nodes = r.all_nodes;
        counting = counting' w1 (g.drawn + 1) (omega arith) refl (omega arith);
        holding = holding' w1 refl;
        keeping = keeping' w1 refl;
        running = record {
          below = λ i e. let a = r.running.below i e in let b = a.1 in (a.0, omega arith);
          bare = r.running.bare;
          idle = r.running.idle;
          waits = r.running.waits;
          over = r.running.over;
        };
        noting = noting' w1 refl refl refl
            (λ a e. let h = r.noting.exhausted a (sym (stays s.views id v at (λ u. u.none_left) w1 refl a) ∙ e) in
            omega arith);
        claiming = record {
          drew = λ a i h. dite (ℕ_discrete i (g.drawn + 1))
              (λ e. dite (ℕ_discrete a id)
              (λ same_seat. (
                omega arith,
                omega arith,
                ap (upd g.claimer (g.drawn + 1) id) e ∙ upd_here g.claimer (g.drawn + 1) id ∙ sym same_seat,
                ap g.armed e ∙ not_armed,
              ))
              (λ other. let z = no_later a in
              let c : count i (view_at (set s.views id w1) a).claims
              ≡ count (g.drawn + 1) (view_at s.views a).claims =
              ap (λ (u : View T). count i u.claims) (else_is s.views id v at w1 a other)
              ∙ ap (λ k. count k (view_at s.views a).claims) e in absurd (omega arith)))
              (λ n. let b : 0 < count i (view_at s.views a).claims =
              subst (λ k. 0 < k) (counts_else a i (λ e. n (e ∙ next))) h in let o = r.claiming.drew a i b in
              let l = o.1 in (o.0, omega arith, upd_else g.claimer (g.drawn + 1) id i n ∙ o.2, o.3));
          once = λ a i p q c u. dite (ℕ_discrete i (g.drawn + 1))
              (λ e. let mine_is : a ≡ id =
              sym c ∙ ap (upd g.claimer (g.drawn + 1) id) e ∙ upd_here g.claimer (g.drawn + 1) id in
              let z = no_later id in let one = at_here (g.drawn + 1) in
              let m : count (g.drawn + 1) (view_at s.views id).claims ≡ count (g.drawn + 1) v.claims =
              ap (λ (u : View T). count (g.drawn + 1) u.claims) (mine s.views id v at) in
              let w_is : count (g.drawn + 1) w1.claims
              ≡ one_at (g.drawn + 1) (g.drawn + 1) + count (g.drawn + 1) v.claims =
              ap (λ k. one_at (g.drawn + 1) k + count (g.drawn + 1) v.claims) next in
              ap (λ k. count i (view_at (set s.views id w1) k).claims) mine_is
              ∙ ap (λ (u : View T). count i u.claims) (here_is s.views id v at w1) ∙ ap (λ k. count k w1.claims) e
              ∙ omega arith)
              (λ n. counts_else a i (λ e. n (e ∙ next))
              ∙ r.claiming.once a i p (omega arith) (sym (upd_else g.claimer (g.drawn + 1) id i n) ∙ c) u);
        };
      })

  abbrev w2 : View T
  w2 = record v { credit = v.credit - 1; none_left = true }

  draws_none : (t : State S (View T)) → t.words ≡ words' → t.views ≡ set s.views id w2 → nodes ≤ x → Shows nodes t g
  draws_none t ws vs high = subst (λ (y : List ℕ × List (View T)). Shows nodes
      (record { words = y.0; homes = t.homes; views = y.1 }) g) (λ k. (sym ws k, sym vs k)) (record {
        all_nodes = r.all_nodes;
        counting = counting' w2 g.drawn (omega arith) refl (let a = r.counting.draws in omega arith);
        holding = holding' w2 refl;
        keeping = keeping' w2 refl;
        running = r.running;
        noting = noting' w2 refl refl refl (λ a e. omega arith);
        claiming = claiming_as s.views (set s.views id w2)
            (λ a i. stays s.views id v at (λ u. count i u.claims) w2 refl a)
            r.claiming;
      })

  pub drawn_shows : (t : State S (View T)) → t.words ≡ words' → t.views ≡ set s.views id (claimed_view nodes x v)
      → Shows nodes t (after (Claim id) g)
  drawn_shows t ws vs = dite (dec_le nodes x)
      (λ high.
      let a : nat_lt x nodes ≡ false = le-ltb x nodes high in
      let b : nat_lt g.drawn g.nodes ≡ false =
      le-ltb g.drawn g.nodes (let a = r.counting.draws in let n = r.all_nodes in omega arith) in
      subst (λ (p : Bool). Shows nodes t
      (cond p (record g { drawn = g.drawn + 1; claimer = upd g.claimer (g.drawn + 1) id }) g)) (sym b)
      (draws_none t ws (vs ∙ ap (λ (p : Bool). set s.views id (cond p w1 w2)) a) high))
      (λ not_high.
      let low : x < nodes = lt_of_not-le not_high in
      let is : g.drawn ≡ x = (let a = r.counting.draws in omega arith) in
      let a : nat_lt x nodes ≡ true = lt-ltb x nodes low in
      let b : nat_lt g.drawn g.nodes ≡ true = lt-ltb g.drawn g.nodes (let n = r.all_nodes in omega arith) in
      subst (λ (p : Bool). Shows nodes t
      (cond p (record g { drawn = g.drawn + 1; claimer = upd g.claimer (g.drawn + 1) id }) g)) (sym b)
      (draws_one t ws (vs ∙ ap (λ (p : Bool). set s.views id (cond p w1 w2)) a) is low))

  pub larger : (i : ℕ) → 0 < count i v.held + count i v.claims → i ≤ x
  larger i h = let a = below_drawn nodes s g r id v at i h in let b = r.counting.draws in omega arith

  pub answers : reply (Claim id) g ≡ reply_of_claim (drawn_node nodes x)
  answers = dite (dec_le nodes x)
      (λ high.
      let a : nat_lt x nodes ≡ false = le-ltb x nodes high in
      let b : nat_lt g.drawn g.nodes ≡ false =
      le-ltb g.drawn g.nodes (let a = r.counting.draws in let n = r.all_nodes in omega arith) in
      ap (λ (p : Bool). cond p (Node (g.drawn + 1)) NoNode) b
      ∙ sym (ap (λ (p : Bool). reply_of_claim (cond p (Some (x + 1)) None)) a))
      (λ not_high.
      let low : x < nodes = lt_of_not-le not_high in
      let is : g.drawn ≡ x = (let a = r.counting.draws in omega arith) in
      let a : nat_lt x nodes ≡ true = lt-ltb x nodes low in
      let b : nat_lt g.drawn g.nodes ≡ true = lt-ltb g.drawn g.nodes (let n = r.all_nodes in omega arith) in
      ap (λ (p : Bool). cond p (Node (g.drawn + 1)) NoNode) b ∙ ap (λ k. Node (k + 1)) is
      ∙ sym (ap (λ (p : Bool). reply_of_claim (cond p (Some (x + 1)) None)) a))
