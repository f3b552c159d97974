-- A seat arms a node that it drew, and gives it arrivals to keep.
use Rattle.std.proofs.Common.{◌≡◌, ◌≢◌, ℕ, ◌+◌, ◌<◌, ◌≤◌, eqb, cond, Bool, true, false, List, [], ◌++◌, get_or, set}
use Rattle.std.proofs.Common.{sym, refl, ap, ◌∙◌, subst, arith, eq-eqb, ne_eqb, true≢false, Some, ◌⊎◌, inl, inr, ⊎_elim}
use mathlib.Core.Logic.{dite}
use mathlib.Core.Option.{some}
use native.Mathlib.Decide.{ℕ_discrete}
use lib.ListN.{get_elem?}
use Rattle.atomic_table.specs.Table.{State}
use Rattle.completion_core.specs.declared.action.Action.TheVariants.{Arm}
use Rattle.completion_core.specs.Graph.{Arrival, Held, Kept, one_same, not_made, total, copies, amount, left, Graph}
use Rattle.completion_core.specs.Legal.{renamed, rename, with_fresh, only_at, count, upd, Legal, after}
use Rattle.pending_count.specs.declared.view.View.{View}
use Rattle.pending_count.specs.Views.{view_at, names, keeps_at, note_of, minus, armed_view}
use Rattle.pending_count.specs.Shows.{Shows, kept_at, one_if}
use Rattle.pending_count.proofs.SumLemmas.{one_at, total-append, total-set, total-less, total-minus, self_held}
use Rattle.pending_count.proofs.SumLemmas.{self_kept, one_held, one_kept, at_here, at_else, same_after, fewer_after}
use Rattle.pending_count.proofs.SumLemmas.{more_after, rename-none, upd_here, upd_else, some_is}
use Rattle.pending_count.proofs.RecordLemmas.{unnamed_all, names_is, names_not, keeps_is, keeps_not, fresh_here}
use Rattle.pending_count.proofs.RecordLemmas.{fresh_else, fresh-one, fresh-zero, fresh-count}
use Rattle.pending_count.proofs.RuleLemmas.{mine, here_is, else_is, stays, sum_stays, holding_set, counting_word}
use Rattle.pending_count.proofs.RuleLemmas.{claim_word, end_word, my_part, claim_is, drawn_low}

module _ {S T : Type 0} (nodes : ℕ) (s : State S (View T)) (g : Graph) (r : Shows nodes s g) (id : ℕ) (v : View T)
    (at : get_elem? s.views id ≡ some v) (node p : ℕ) (onward : List ℕ) (drew : 0 < count node v.claims)
    (small : p < 4294967296) (have : (i : ℕ) → count i onward ≤ count i v.held) where
  pub claimed : (0 < node) × (node ≤ g.drawn) × (g.claimer node ≡ id) × (g.armed node ≡ false)
  claimed = claim_is nodes s g r id v at node drew

  pub low : node ≤ nodes
  low = let a = claimed.1 in let b = drawn_low nodes s g r in omega arith

  pub unarmed_word : get_or s.words node 0 ≡ 0
  unarmed_word = r.counting.word node low ∙ ap left (r.running.bare node claimed.0 claimed.3)

  pub claim_one : count node v.claims ≡ 1
  claim_one = ap (λ (u : View T). count node u.claims) (sym (mine s.views id v at))
      ∙ r.claiming.once id node claimed.0 claimed.1 claimed.2 claimed.3

  pub fit : (i : ℕ) → count i onward ≤ amount (Held id) (g.arrivals i)
  fit i = let a = have i in let b = my_part nodes s g r id v at i in omega arith

  abbrev keep : ℕ → List Arrival
  keep = renamed (Held id) (Kept node) (λ j. count j onward) g.arrivals

  abbrev pub arr : ℕ → List Arrival
  arr = with_fresh node (p + 1) (Held id) keep

  -- a weight of the arrivals at a node, where some are fresh
  weighs : (f : Arrival → ℕ) (i : ℕ) → total f (arr i)
      ≡ total f (keep i) + total f (cond (eqb i node) (copies (p + 1) (Held id)) [])
  weighs f i = total-append f (keep i) (cond (eqb i node) (copies (p + 1) (Held id)) [])

  pub left_is : (i : ℕ) → left (arr i) ≡ only_at node (p + 1) i + left (g.arrivals i)
  left_is i = let a = weighs not_made i in let b = fresh-one not_made node (p + 1) id i refl in
      let c = same_after (Held id) (Kept node) (λ j. count j onward) g.arrivals fit not_made refl i in omega arith

  abbrev w : View T
  w = armed_view node p onward v

  abbrev views' : List (View T)
  views' = set s.views id w

  pub own : (i : ℕ) → count i w.held ≡ amount (Held id) (arr i)
  own i =
      let a = weighs (one_same (Held id)) i in
      let b = fresh-one (one_same (Held id)) node (p + 1) id i (self_held id) in
      let c = fewer_after (Held id) (Kept node) (λ j. count j onward) g.arrivals fit (one_same (Held id)) (self_held id)
      refl i in
      let d = total-append (one_at i) (copies (p + 1) node) (minus onward v.held) in
      let e = fresh-count node (p + 1) i in
      let f = total-minus (one_at i) onward v.held have in
      let h = my_part nodes s g r id v at i in
      omega arith

  pub others : (a i : ℕ) → a ≢ id → amount (Held a) (arr i) ≡ amount (Held a) (g.arrivals i)
  others a i n =
      let x = weighs (one_same (Held a)) i in
      let b = fresh-zero (one_same (Held a)) node (p + 1) id i (one_held a id n) in
      let c = same_after (Held id) (Kept node) (λ j. count j onward) g.arrivals fit (one_same (Held a))
      (one_held a id n) i in
      omega arith

  pub kept_else : (k i : ℕ) → k ≢ node → amount (Kept k) (arr i) ≡ amount (Kept k) (g.arrivals i)
  kept_else k i n =
      let x = weighs (one_same (Kept k)) i in
      let b = fresh-zero (one_same (Kept k)) node (p + 1) id i refl in
      let c = same_after (Held id) (Kept node) (λ j. count j onward) g.arrivals fit (one_same (Kept k))
      (sym (one_kept k node n)) i in
      omega arith

  pub no_record : total (λ v. total (names node) v.armed) s.views ≡ 0
  no_record = r.keeping.records node ∙ ap one_if claimed.3

  pub none_kept : (j : ℕ) → kept_at node j s.views ≡ 0
  none_kept j = unnamed_all node j s.views no_record

  pub kept_here : (i : ℕ) → amount (Kept node) (arr i) ≡ count i onward
  kept_here i =
      let x = weighs (one_same (Kept node)) i in
      let b = fresh-zero (one_same (Kept node)) node (p + 1) id i refl in
      let c = more_after (Held id) (Kept node) (λ j. count j onward) g.arrivals fit (one_same (Kept node)) refl
      (self_kept node) i in
      let d = r.keeping.keeping node i (r.running.idle node claimed.3) in
      let e = none_kept i in
      omega arith

  pub claims_else : (a i : ℕ) → i ≢ node → count i (view_at views' a).claims ≡ count i (view_at s.views a).claims
  claims_else a i n = stays s.views id v at (λ (u : View T). count i u.claims) w
      (let a = total-less (one_at i) node v.claims drew in let b = at_else i node (λ e. n (sym e)) in omega arith) a

  pub claims_gone : (a : ℕ) → count node (view_at views' a).claims ≡ 0
  claims_gone a = dite (ℕ_discrete a id)
      (λ e. ap (λ k. count node (view_at views' k).claims) e
      ∙ ap (λ (u : View T). count node u.claims) (here_is s.views id v at w)
      ∙ (let x = total-less (one_at node) node v.claims drew in let y = at_here node in let z = claim_one in
      omega arith))
      (λ n. ap (λ (u : View T). count node u.claims) (else_is s.views id v at w a n)
      ∙ dite (ℕ_discrete (count node (view_at s.views a).claims) 0) (λ e. e)
      (λ m. let c = r.claiming.drew a node (omega arith) in absurd (n (sym c.2 ∙ claimed.2))))

  abbrev armed' : ℕ → Bool
  armed' = upd g.armed node true

  pub not_node : (i : ℕ) → armed' i ≡ false → (i ≢ node) × (g.armed i ≡ false)
  not_node i e = dite (ℕ_discrete i node)
      (λ h. absurd (true≢false (sym (upd_here g.armed node true) ∙ ap armed' (sym h) ∙ e)))
      (λ n. (n, sym (upd_else g.armed node true i n) ∙ e))

  pub ran_else : (i : ℕ) → g.ran i ≡ true → i ≢ node
  ran_else i e h = true≢false (sym e ∙ ap g.ran h ∙ r.running.idle node claimed.3)

  pub record_is : (i : ℕ) → total (λ v. total (names i) v.armed) views'
      ≡ names i (node, onward) + total (λ v. total (names i) v.armed) s.views
  record_is i = let a = total-set (λ (v : View T). total (names i) v.armed) s.views id v w at in omega arith

  pub keep_is : (i j : ℕ) → kept_at i j views' ≡ keeps_at i j (node, onward) + kept_at i j s.views
  keep_is i j = let a = total-set (λ (v : View T). total (keeps_at i j) v.armed) s.views id v w at in omega arith

  pub keep_same : (i j : ℕ) → i ≢ node → kept_at i j views' ≡ kept_at i j s.views
  keep_same i j n = let a = keep_is i j in let b = keeps_not i j (node, onward) (λ e. n (sym e)) in omega arith

  pub keep_mine : (j : ℕ) → kept_at node j views' ≡ count j onward
  keep_mine j = let a = keep_is node j in let b = keeps_is node j (node, onward) refl in let c = none_kept j in
      omega arith

  noted_here : (a i : ℕ) (k : List ℕ) → note_of i (view_at views' a).noted ≡ Some k
      → ((i ≡ node) × (k ≡ onward)) ⊎ (note_of i (view_at s.views a).noted ≡ Some k)
  noted_here a i k e = dite (ℕ_discrete a id)
      (λ h.
      let f : cond (eqb node i) (Some onward) (note_of i v.noted) ≡ Some k =
      ap (λ (u : View T). note_of i u.noted) (sym (here_is s.views id v at w))
      ∙ ap (λ b. note_of i (view_at views' b).noted) (sym h) ∙ e in
      dite (ℕ_discrete node i)
      (λ q. inl (
        sym q,
        some_is k onward
            (sym f ∙ ap (λ b. cond b (Some onward) (note_of i v.noted)) (eq-eqb node i q)),
      ))
      (λ m. inr (ap (λ b. note_of i (view_at s.views b).noted) h
      ∙ ap (λ (u : View T). note_of i u.noted) (mine s.views id v at)
      ∙ sym (ap (λ b. cond b (Some onward) (note_of i v.noted)) (ne_eqb node i m)) ∙ f)))
      (λ n. inr (sym (ap (λ (u : View T). note_of i u.noted) (else_is s.views id v at w a n)) ∙ e))

  pub arms : (t : State S (View T)) → t.words ≡ set s.words node (p + 1) → t.views ≡ views'
      → Shows nodes t (after (Arm id node p onward) g)
  arms t ws vs = subst (λ (y : List ℕ × List (View T)). Shows nodes
      (record { words = y.0; homes = t.homes; views = y.1 }) (after (Arm id node p onward) g))
      (λ k. (sym ws k, sym vs k)) (record {
        all_nodes = r.all_nodes;
        counting = counting_word nodes s.words s.views g.drawn g.arrivals r.counting node (p + 1) low views' arr 0
            (let a = sum_stays s.views id v at (λ u. u.credit) w refl in omega arith)
            (let a = sum_stays s.views id v at (λ u. u.added) w refl in omega arith)
            (let a = left_is node in let b = fresh_here node (p + 1) in
            let c = ap left (r.running.bare node claimed.0 claimed.3) in omega arith)
            (λ i n. let a = left_is i in let b = fresh_else node (p + 1) i n in omega arith)
            (λ q. let a = left_is node in let b = fresh_here node (p + 1) in
            let c = ap left (r.running.bare node claimed.0 claimed.3) in omega arith);
        holding = holding_set s.views id v at w g.arrivals arr own others r.holding;
        claiming = record {
          drew = λ a i h. dite (ℕ_discrete i node)
              (λ e. let z : count i (view_at views' a).claims ≡ 0 =
              ap (λ k. count k (view_at views' a).claims) e ∙ claims_gone a in absurd (omega arith))
              (λ n. let o = r.claiming.drew a i (subst (λ k. 0 < k) (claims_else a i n) h) in
              (o.0, o.1, o.2, upd_else g.armed node true i n ∙ o.3));
          once = λ a i q c k u. let x = not_node i u in claims_else a i x.0 ∙ r.claiming.once a i q c k x.1;
        };
        running = record {
          below = λ i e. dite (ℕ_discrete i node)
              (λ h. subst (λ k. (0 < k) × (k ≤ g.drawn)) (sym h) (claimed.0, claimed.1))
              (λ n. r.running.below i (sym (upd_else g.armed node true i n) ∙ e));
          bare = λ i q e. let x = not_node i e in
              ap (λ b. keep i ++ cond b (copies (p + 1) (Held id)) []) (ne_eqb i node x.0)
              ∙ ap (λ l. rename (count i onward) (Held id) (Kept node) l ++ []) (r.running.bare i q x.1)
              ∙ ap (λ l. l ++ []) (rename-none (count i onward) (Held id) (Kept node));
          idle = λ i e. let x = not_node i e in r.running.idle i x.1;
          waits = λ i e d. dite (ℕ_discrete i node)
              (λ h. subst (λ k. 0 < left (arr k)) (sym h)
              (let a = left_is node in let b = fresh_here node (p + 1) in omega arith))
              (λ n. let a = left_is i in let c = r.running.waits i (sym (upd_else g.armed node true i n) ∙ e) d in
              omega arith);
          over = λ i e. let n = ran_else i e in let a = left_is i in let b = fresh_else node (p + 1) i n in
              let c = r.running.over i e in omega arith;
        };
        keeping = record {
          records = λ i. dite (ℕ_discrete i node)
              (λ e. ap (λ k. total (λ v. total (names k) v.armed) views') e
              ∙ (let a = record_is node in let b = names_is node (node, onward) refl in let c = no_record in
              omega arith) ∙ sym (ap one_if (ap armed' e ∙ upd_here g.armed node true)))
              (λ n. (let a = record_is i in let b = names_not i (node, onward) (λ e. n (sym e)) in omega arith)
              ∙ r.keeping.records i ∙ ap one_if (sym (upd_else g.armed node true i n)));
          keeping = λ i j e. dite (ℕ_discrete i node)
              (λ h. ap (λ k. amount (Kept k) (arr j)) h ∙ kept_here j ∙ sym (keep_mine j)
              ∙ ap (λ k. kept_at k j views') (sym h))
              (λ n. kept_else i j n ∙ r.keeping.keeping i j e ∙ sym (keep_same i j n));
          spent = λ i j e. kept_else i j (ran_else i e) ∙ r.keeping.spent i j e;
        };
        noting = record {
          noted = λ a i k e. ⊎_elim
              (λ (z : (i ≡ node) × (k ≡ onward)). (
                ap armed' z.0 ∙ upd_here g.armed node true,
                λ j. ap (count j) z.1 ∙ sym (keep_mine j) ∙ ap (λ b. kept_at b j views') (sym z.0),
              ))
              (λ z. let q = r.noting.noted a i k z in
              let n : i ≢ node = (λ h. true≢false (sym q.0 ∙ ap g.armed h ∙ claimed.3)) in
              (upd_else g.armed node true i n ∙ q.0, λ j. q.1 j ∙ sym (keep_same i j n)))
              (noted_here a i k e);
          seen = λ a n e. let h = r.noting.seen a n (sym (stays s.views id v at (λ u. u.seen) w refl a) ∙ e) in
              let q = end_word nodes s.words s.views g.drawn g.arrivals r.counting node (p + 1) low
              (λ z. let c = claimed.0 in absurd (omega arith)) in omega arith;
          exhausted = λ a e. let h = r.noting.exhausted a
              (sym (stays s.views id v at (λ u. u.none_left) w refl a) ∙ e) in
              let q = claim_word nodes s.words s.views g.drawn g.arrivals r.counting node (p + 1) low in omega arith;
        };
      })

  pub legal : ((i : ℕ) → 0 < count i onward → i < node) → Legal (Arm id node p onward) g
  legal lower = ((claimed.0, claimed.1), claimed.2, claimed.3, fit, lower)
