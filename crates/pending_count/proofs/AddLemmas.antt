-- A seat adds arrivals to a node at which it holds one, and looks at END.
use Rattle.std.proofs.Common.{◌≡◌, ◌≢◌, ℕ, ◌+◌, ◌<◌, ◌≤◌, eqb, cond, true, false, List, [], ◌++◌, get_or, set, sym}
use Rattle.std.proofs.Common.{refl, ap, ◌∙◌, subst, arith, ne_eqb, true≢false, Some}
use mathlib.Core.Logic.{dite}
use mathlib.Core.Option.{some}
use native.Mathlib.Decide.{ℕ_discrete}
use lib.ListN.{get_elem?}
use Rattle.atomic_table.specs.Table.{State}
use Rattle.completion_core.specs.declared.action.Action.TheVariants.{Add}
use Rattle.completion_core.specs.Graph.{Arrival, Held, Kept, one_same, not_made, total, copies, amount, left, Graph}
use Rattle.completion_core.specs.Legal.{with_fresh, only_at, count, Legal, after}
use Rattle.pending_count.specs.declared.view.View.{View}
use Rattle.pending_count.specs.Views.{view_at, names, keeps_at, note_of, added_view, looked_view}
use Rattle.pending_count.specs.Shows.{Shows}
use Rattle.pending_count.proofs.SumLemmas.{one_at, total-append, total-set, term_le, bool_case, self_held, one_held}
use Rattle.pending_count.proofs.SumLemmas.{held_left, some_is}
use Rattle.pending_count.proofs.RecordLemmas.{fresh_here, fresh_else, fresh-one, fresh-zero, fresh-count}
use Rattle.pending_count.proofs.RuleLemmas.{here_is, else_is, stays, sum_stays, holding_set, claiming_as, keeping_as}
use Rattle.pending_count.proofs.RuleLemmas.{noting_as, counting_word, claim_word, end_word, my_part, is_armed, is_drawn}
use Rattle.pending_count.proofs.RuleLemmas.{held_low}

module _ {S T : Type 0} (nodes : ℕ) (s : State S (View T)) (g : Graph) (r : Shows nodes s g) (id : ℕ) (v : View T)
    (at : get_elem? s.views id ≡ some v) where
  module _ (node d : ℕ) (pos : 0 < node) (have : 0 < count node v.held) (pays : d ≤ v.credit) where
    abbrev pub arr : ℕ → List Arrival
    arr = with_fresh node d (Held id) g.arrivals

    abbrev w : View T
    w = added_view node d v

    abbrev x : ℕ
    x = get_or s.words node 0

    pub low : node ≤ nodes
    low = held_low nodes s g r id v at node have

    weighs : (f : Arrival → ℕ) (i : ℕ) → total f (arr i)
        ≡ total f (g.arrivals i) + total f (cond (eqb i node) (copies d (Held id)) [])
    weighs f i = total-append f (g.arrivals i) (cond (eqb i node) (copies d (Held id)) [])

    left_is : (i : ℕ) → left (arr i) ≡ only_at node d i + left (g.arrivals i)
    left_is i = let a = weighs not_made i in let b = fresh-one not_made node d id i refl in omega arith

    own : (i : ℕ) → count i w.held ≡ amount (Held id) (arr i)
    own i = let a = weighs (one_same (Held id)) i in
        let b = fresh-one (one_same (Held id)) node d id i (self_held id) in
        let e = total-append (one_at i) (copies d node) v.held in let f = fresh-count node d i in
        let h = my_part nodes s g r id v at i in omega arith

    others : (a i : ℕ) → a ≢ id → amount (Held a) (arr i) ≡ amount (Held a) (g.arrivals i)
    others a i n = let y = weighs (one_same (Held a)) i in
        let b = fresh-zero (one_same (Held a)) node d id i (one_held a id n) in omega arith

    kept_is : (k i : ℕ) → amount (Kept k) (arr i) ≡ amount (Kept k) (g.arrivals i)
    kept_is k i = let y = weighs (one_same (Kept k)) i in let b = fresh-zero (one_same (Kept k)) node d id i refl in
        omega arith

    there_armed : g.armed node ≡ true
    there_armed = is_armed nodes s g r id v at node pos have

    mine_there : 0 < amount (Held id) (g.arrivals node)
    mine_there = let h = my_part nodes s g r id v at node in omega arith

    still : g.ran node ≡ false
    still = bool_case (g.ran node) (g.ran node ≡ false)
        (λ e. let z = r.running.over node e in let a = held_left id (g.arrivals node) in let h = mine_there in
        absurd (omega arith))
        (λ e. e)

    pub no_wrap : x + d < 18446744073709551616
    no_wrap = let a = r.counting.word node low in let b = r.counting.few node pos in
        let c = term_le (λ (v : View T). v.credit) s.views id v at in let p = r.counting.paid in omega arith

    pub adds : (t : State S (View T)) → t.words ≡ set s.words node (x + d) → t.views ≡ set s.views id w
        → Shows nodes t (after (Add id node d) g)
    adds t ws vs = subst (λ (y : List ℕ × List (View T)). Shows nodes
        (record { words = y.0; homes = t.homes; views = y.1 }) (after (Add id node d) g)) (λ k. (sym ws k, sym vs k))
        (record {
          all_nodes = r.all_nodes;
          counting = counting_word nodes s.words s.views g.drawn g.arrivals r.counting node (x + d) low
              (set s.views id w)
              arr d (let a = total-set (λ (v : View T). v.credit) s.views id v w at in omega arith)
              (let a = total-set (λ (v : View T). v.added) s.views id v w at in omega arith)
              (let a = left_is node in let b = fresh_here node d in let c = r.counting.word node low in omega arith)
              (λ i n. let a = left_is i in let b = fresh_else node d i n in omega arith)
              (λ q. let a = left_is node in let b = fresh_here node d in let c = r.counting.few node pos in
              omega arith);
          holding = holding_set s.views id v at w g.arrivals arr own others r.holding;
          claiming = claiming_as s.views (set s.views id w)
              (λ a i. stays s.views id v at (λ u. count i u.claims) w refl a)
              r.claiming;
          running = record {
            below = r.running.below;
            bare = λ i q e. ap (λ b. g.arrivals i ++ cond b (copies d (Held id)) [])
                (ne_eqb i node (λ h. true≢false (sym there_armed ∙ ap g.armed (sym h) ∙ e)))
                ∙ ap (λ l. l ++ []) (r.running.bare i q e);
            idle = r.running.idle;
            waits = λ i e q. let a = left_is i in let c = r.running.waits i e q in omega arith;
            over = λ i e. let b = fresh_else node d i (λ h. true≢false (sym e ∙ ap g.ran h ∙ still)) in
                let a = left_is i in
                let c = r.running.over i e in omega arith;
          };
          keeping = keeping_as s.views (set s.views id w)
              (λ i. sum_stays s.views id v at (λ u. total (names i) u.armed) w refl)
              (λ i j. sum_stays s.views id v at (λ u. total (keeps_at i j) u.armed) w refl) kept_is r.keeping;
          noting = noting_as s.views (set s.views id w) (stays s.views id v at (λ u. u.noted) w refl)
              (stays s.views id v at (λ u. u.seen) w refl) (stays s.views id v at (λ u. u.none_left) w refl)
              (λ i j. sum_stays s.views id v at (λ u. total (keeps_at i j) u.armed) w refl)
              (end_word nodes s.words s.views g.drawn g.arrivals r.counting node (x + d) low
              (λ z. absurd (omega arith)))
              (let a = claim_word nodes s.words s.views g.drawn g.arrivals r.counting node (x + d) low in omega arith)
              r.noting;
        })

    pub legal : Legal (Add id node d) g
    legal = ((pos, is_drawn nodes s g r id v at node pos have), mine_there)

  abbrev n0 : ℕ
  n0 = get_or s.words 0 0

  abbrev l : View T
  l = looked_view n0 v

  seen_here : (a n : ℕ) → (view_at (set s.views id l) a).seen ≡ Some n → n0 ≤ n
  seen_here a n e = dite (ℕ_discrete a id)
      (λ h. let f : Some n0 ≡ Some n = ap (λ (u : View T). u.seen) (sym (here_is s.views id v at l))
      ∙ ap (λ b. (view_at (set s.views id l) b).seen) (sym h) ∙ e in let q = some_is n0 n f in omega arith)
      (λ m. r.noting.seen a n (sym (ap (λ (u : View T). u.seen) (else_is s.views id v at l a m)) ∙ e))

  pub looks : (t : State S (View T)) → t.words ≡ s.words → t.views ≡ set s.views id l → Shows nodes t g
  looks t ws vs = subst (λ (y : List ℕ × List (View T)). Shows nodes
      (record { words = y.0; homes = t.homes; views = y.1 }) g) (λ k. (sym ws k, sym vs k)) (record {
        all_nodes = r.all_nodes;
        counting = record {
          size = r.counting.size;
          draws = r.counting.draws;
          paid = (let a = sum_stays s.views id v at (λ u. u.credit) l refl in
              let b = sum_stays s.views id v at (λ u. u.added) l refl in let p = r.counting.paid in omega arith);
          few = λ i p. let b = sum_stays s.views id v at (λ u. u.added) l refl in let f = r.counting.few i p in
              omega arith;
          word = r.counting.word;
        };
        holding = λ a i. stays s.views id v at (λ u. count i u.held) l refl a ∙ r.holding a i;
        claiming = claiming_as s.views (set s.views id l)
            (λ a i. stays s.views id v at (λ u. count i u.claims) l refl a)
            r.claiming;
        running = r.running;
        keeping = keeping_as s.views (set s.views id l)
            (λ i. sum_stays s.views id v at (λ u. total (names i) u.armed) l refl)
            (λ i j. sum_stays s.views id v at (λ u. total (keeps_at i j) u.armed) l refl) (λ i j. refl) r.keeping;
        noting = record {
          noted = λ a i k e. let n = r.noting.noted a i k
              (ap (note_of i) (sym (stays s.views id v at (λ u. u.noted) l refl a)) ∙ e) in
              (n.0, λ j. n.1 j ∙ sym (sum_stays s.views id v at (λ u. total (keeps_at i j) u.armed) l refl));
          seen = seen_here;
          exhausted = λ a e. r.noting.exhausted a (sym (stays s.views id v at (λ u. u.none_left) l refl a) ∙ e);
        };
      })

  pub enough : count 0 v.held ≤ n0
  enough = let a = my_part nodes s g r id v at 0 in let b = held_left id (g.arrivals 0) in
      let c = r.counting.word 0 (omega arith) in omega arith
