-- A seat makes an arrival that it holds: at a node, where it may be the last, or at END.
use Rattle.std.proofs.Common.{◌≡◌, ◌≢◌, ℕ, ◌+◌, ◌<◌, ◌≤◌, cond, Bool, true, false, List, [], ◌++◌, get_or, set, sym}
use Rattle.std.proofs.Common.{refl, ap, ◌∙◌, subst, arith, eq-eqb, true≢false, Some}
use mathlib.Core.Logic.{dite}
use mathlib.Core.Option.{some}
use native.Mathlib.Decide.{ℕ_discrete}
use lib.ListN.{get_elem?}
use Rattle.atomic_table.specs.Table.{State}
use Rattle.completion_core.specs.declared.action.Action.TheVariants.{Arrive, Run, Settle}
use Rattle.completion_core.specs.Graph.{Arrival, Made, Held, Kept, one_same, not_made, total, amount, left, Graph}
use Rattle.completion_core.specs.Legal.{renamed, rename, only_at, count, upd, Legal, after}
use Rattle.pending_count.specs.declared.view.View.{View}
use Rattle.pending_count.specs.Views.{names, keeps_at, less, given_by_all, sides_given_by_all, arrived_view}
use Rattle.pending_count.specs.Views.{finished_view}
use Rattle.pending_count.specs.Shows.{Shows, Counting, Claiming, Running, Keeping, Noting}
use Rattle.pending_count.proofs.SumLemmas.{one_at, total-append, total-less, bool_case, self_held, self_kept, one_held}
use Rattle.pending_count.proofs.SumLemmas.{one_kept, at_here, at_else, at_sym, held_left, same_after, fewer_after}
use Rattle.pending_count.proofs.SumLemmas.{more_after, rename-none, upd_here, upd_else}
use Rattle.pending_count.proofs.RecordLemmas.{count-given_by_all}
use Rattle.pending_count.proofs.RuleLemmas.{stays, sum_stays, holding_set, claiming_as, keeping_as, noting_as}
use Rattle.pending_count.proofs.RuleLemmas.{counting_word, claim_word, end_word, my_part, is_armed, is_drawn, held_low}

module _ {S T : Type 0} (nodes : ℕ) (s : State S (View T)) (g : Graph) (r : Shows nodes s g) (id : ℕ) (v : View T)
    (at : get_elem? s.views id ≡ some v) (node : ℕ) (have : 0 < count node v.held) where
  pub mine_there : 0 < amount (Held id) (g.arrivals node)
  mine_there = let h = my_part nodes s g r id v at node in omega arith

  pub low : node ≤ nodes
  low = held_low nodes s g r id v at node have

  pub still : g.ran node ≡ false
  still = bool_case (g.ran node) (g.ran node ≡ false)
      (λ e. let z = r.running.over node e in let a = held_left id (g.arrivals node) in let h = mine_there in
      absurd (omega arith))
      (λ e. e)

  abbrev pub arr1 : ℕ → List Arrival
  arr1 = renamed (Held id) Made (only_at node 1) g.arrivals

  pub fit1 : (i : ℕ) → only_at node 1 i ≤ amount (Held id) (g.arrivals i)
  fit1 i = dite (ℕ_discrete i node)
      (λ e. subst (λ k. only_at node 1 k ≤ amount (Held id) (g.arrivals k)) (sym e)
      (let a = at_here node in let h = mine_there in omega arith))
      (λ n. let a = at_else node i n in omega arith)

  pub left1 : (i : ℕ) → left (arr1 i) + only_at node 1 i ≡ left (g.arrivals i)
  left1 = fewer_after (Held id) Made (only_at node 1) g.arrivals fit1 not_made refl refl

  pub left_here : left (arr1 node) + 1 ≡ left (g.arrivals node)
  left_here = let a = left1 node in let b = at_here node in omega arith

  pub left_else : (i : ℕ) → i ≢ node → left (arr1 i) ≡ left (g.arrivals i)
  left_else i n = let a = left1 i in let b = at_else node i n in omega arith

  pub own1 : (i : ℕ) → count i (less node v.held) ≡ amount (Held id) (arr1 i)
  own1 i = let a = fewer_after (Held id) Made (only_at node 1) g.arrivals fit1 (one_same (Held id)) (self_held id) refl
      i in let b = total-less (one_at i) node v.held have in let c = my_part nodes s g r id v at i in
      let d = at_sym i node in omega arith

  pub others1 : (a i : ℕ) → a ≢ id → amount (Held a) (arr1 i) ≡ amount (Held a) (g.arrivals i)
  others1 a i n = same_after (Held id) Made (only_at node 1) g.arrivals fit1 (one_same (Held a)) (one_held a id n) i

  pub keeps1 : (k i : ℕ) → amount (Kept k) (arr1 i) ≡ amount (Kept k) (g.arrivals i)
  keeps1 k i = same_after (Held id) Made (only_at node 1) g.arrivals fit1 (one_same (Kept k)) refl i

  pub bare1 : (i : ℕ) → 0 < i → g.armed i ≡ false → arr1 i ≡ []
  bare1 i p e = ap (rename (only_at node 1 i) (Held id) Made) (r.running.bare i p e)
      ∙ rename-none (only_at node 1 i) (Held id) Made

  -- what the word shows, before and after
  module _ (n : ℕ) (is : n + 1 ≡ get_or s.words node 0) where
    pub fewer : n ≡ left (arr1 node)
    fewer = let a = r.counting.word node low in let b = left_here in omega arith

    abbrev pub w1 : View T
    w1 = arrived_view node v

    pub counting1 : (w : View T) → w.credit ≡ v.credit → w.added ≡ v.added
        → Counting nodes (set s.words node n) (set s.views id w) g.drawn arr1
    counting1 w same adds = counting_word nodes s.words s.views g.drawn g.arrivals r.counting node n low
        (set s.views id w) arr1 0 (let a = sum_stays s.views id v at (λ u. u.credit) w same in omega arith)
        (let a = sum_stays s.views id v at (λ u. u.added) w adds in omega arith) fewer left_else
        (λ p. let a = left_here in let b = r.counting.few node p in omega arith)

    pub noting1 : (w : View T) → w.noted ≡ v.noted → w.seen ≡ v.seen → w.none_left ≡ v.none_left → w.armed ≡ v.armed
        → Noting nodes (set s.words node n) (set s.views id w) g.armed
    noting1 w noted seen left_none armed =
        noting_as s.views (set s.views id w) (stays s.views id v at (λ u. u.noted) w noted)
        (stays s.views id v at (λ u. u.seen) w seen) (stays s.views id v at (λ u. u.none_left) w left_none)
        (λ i j. sum_stays s.views id v at (λ u. total (keeps_at i j) u.armed) w (ap (total (keeps_at i j)) armed))
        (end_word nodes s.words s.views g.drawn g.arrivals r.counting node n low
        (λ e. let h : get_or s.words node 0 ≡ get_or s.words 0 0 = ap (λ k. get_or s.words k 0) e in omega arith))
        (let a = claim_word nodes s.words s.views g.drawn g.arrivals r.counting node n low in omega arith)
        r.noting

    pub claiming1 : (w : View T) → w.claims ≡ v.claims → Claiming (set s.views id w) g.drawn g.claimer g.armed
    claiming1 w same = claiming_as s.views (set s.views id w)
        (λ a i. stays s.views id v at (λ u. count i u.claims) w (ap (count i) same) a) r.claiming

    pub keeping1 : (w : View T) → w.armed ≡ v.armed → Keeping (set s.views id w) arr1 g.armed g.ran
    keeping1 w same = keeping_as s.views (set s.views id w)
        (λ i. sum_stays s.views id v at (λ u. total (names i) u.armed) w (ap (total (names i)) same))
        (λ i j. sum_stays s.views id v at (λ u. total (keeps_at i j) u.armed) w (ap (total (keeps_at i j)) same)) keeps1
        r.keeping

    pub running1 : (0 < node → 0 < n) → Running g.drawn arr1 g.armed g.ran
    running1 more = record {
      below = r.running.below;
      bare = bare1;
      idle = r.running.idle;
      waits = λ i u d. dite (ℕ_discrete i node)
          (λ e. subst (λ k. 0 < left (arr1 k)) (sym e)
          (let m = more (subst (λ k. 0 < k) e (r.running.below i u).0) in let f = fewer in omega arith))
          (λ m. let a = left_else i m in let c = r.running.waits i u d in omega arith);
      over = λ i d. let a = left1 i in let c = r.running.over i d in omega arith;
    }

    -- an arrival that isn't the last
    pub pends : (t : State S (View T)) → t.words ≡ set s.words node n → t.views ≡ set s.views id w1 → (0 < node → 0 < n)
        → Shows nodes t (after (Arrive id node) g)
    pends t ws vs more = subst (λ (z : List ℕ × List (View T)). Shows nodes
        (record { words = z.0; homes = t.homes; views = z.1 }) (after (Arrive id node) g)) (λ k. (sym ws k, sym vs k))
        (record {
          all_nodes = r.all_nodes;
          counting = counting1 w1 refl refl;
          holding = holding_set s.views id v at w1 g.arrivals arr1 own1 others1 r.holding;
          claiming = claiming1 w1 refl;
          running = running1 more;
          keeping = keeping1 w1 refl;
          noting = noting1 w1 refl refl refl refl;
        })

    -- at END it is Settle
    pub settles : node ≡ 0 → (t : State S (View T)) → t.words ≡ set s.words node n → t.views ≡ set s.views id w1
        → Shows nodes t (after (Settle id) g)
    settles z t ws vs = subst (λ (y : List ℕ × List (View T)). Shows nodes
        (record { words = y.0; homes = t.homes; views = y.1 }) (after (Settle id) g)) (λ k. (sym ws k, sym vs k))
        (subst (λ j. Shows nodes (record { words = set s.words node n; homes = t.homes; views = set s.views id w1 })
        (record g { arrivals = renamed (Held id) Made (only_at j 1) g.arrivals })) z (record {
          all_nodes = r.all_nodes;
          counting = counting1 w1 refl refl;
          holding = holding_set s.views id v at w1 g.arrivals arr1 own1 others1 r.holding;
          claiming = claiming1 w1 refl;
          running = running1 (λ p. absurd (omega arith));
          keeping = keeping1 w1 refl;
          noting = noting1 w1 refl refl refl refl;
        }))

  -- where none is left after it, the seat gets what the node kept
  abbrev pub m2 : ℕ → ℕ
  m2 i = amount (Kept node) (arr1 i)

  abbrev pub arr2 : ℕ → List Arrival
  arr2 = renamed (Kept node) (Held id) m2 arr1

  pub fit2 : (i : ℕ) → m2 i ≤ amount (Kept node) (arr1 i)
  fit2 i = omega arith

  pub left2 : (i : ℕ) → left (arr2 i) ≡ left (arr1 i)
  left2 = same_after (Kept node) (Held id) m2 arr1 fit2 not_made refl

  abbrev pub kept : List ℕ
  kept = given_by_all node s.views

  pub given2 : (i : ℕ) → m2 i ≡ count i kept
  given2 i = keeps1 node i ∙ r.keeping.keeping node i still ∙ sym (count-given_by_all node i s.views)

  pub own2 : (i : ℕ) → count i (kept ++ less node v.held) ≡ amount (Held id) (arr2 i)
  own2 i = let a = total-append (one_at i) kept (less node v.held) in
      let b = more_after (Kept node) (Held id) m2 arr1 fit2 (one_same (Held id)) refl (self_held id) i in
      let c = own1 i in let d = given2 i in omega arith

  pub others2 : (a i : ℕ) → a ≢ id → amount (Held a) (arr2 i) ≡ amount (Held a) (g.arrivals i)
  others2 a i n = same_after (Kept node) (Held id) m2 arr1 fit2 (one_same (Held a)) (sym (one_held a id n)) i
      ∙ others1 a i n

  abbrev pub ran2 : ℕ → Bool
  ran2 = upd g.ran node true

  pub not_node : (i : ℕ) → ran2 i ≡ false → (i ≢ node) × (g.ran i ≡ false)
  not_node i e = dite (ℕ_discrete i node)
      (λ h. absurd (true≢false (sym (upd_here g.ran node true) ∙ ap ran2 (sym h) ∙ e)))
      (λ n. (n, sym (upd_else g.ran node true i n) ∙ e))

  pub keeps2 : (k i : ℕ) → k ≢ node → amount (Kept k) (arr2 i) ≡ amount (Kept k) (g.arrivals i)
  keeps2 k i n = same_after (Kept node) (Held id) m2 arr1 fit2 (one_same (Kept k)) (one_kept k node n) i ∙ keeps1 k i

  abbrev pub w2 : View T
  w2 = finished_view node kept (sides_given_by_all node s.views) v

  module _ (pos : 0 < node) where
    pub armed_there : g.armed node ≡ true
    armed_there = is_armed nodes s g r id v at node pos have

    pub legal1 : Legal (Arrive id node) g
    legal1 = ((pos, is_drawn nodes s g r id v at node pos have), mine_there)

    pub legal2 : left (arr1 node) ≡ 0 → Legal (Run id node) (after (Arrive id node) g)
    legal2 none_left = (
      (pos, is_drawn nodes s g r id v at node pos have),
      still,
      none_left,
      ap (λ b. cond b (upd g.last node (Some id)) g.last node) (eq-eqb _ 0 none_left) ∙ upd_here g.last node (Some id),
    )

    pub runs : (is : 0 + 1 ≡ get_or s.words node 0) (t : State S (View T)) → t.words ≡ set s.words node 0
        → t.views ≡ set s.views id w2 → Shows nodes t (after (Run id node) (after (Arrive id node) g))
    runs is t ws vs = subst (λ (y : List ℕ × List (View T)). Shows nodes
        (record { words = y.0; homes = t.homes; views = y.1 }) (after (Run id node) (after (Arrive id node) g)))
        (λ k. (sym ws k, sym vs k)) (record {
          all_nodes = r.all_nodes;
          counting = counting_word nodes s.words s.views g.drawn g.arrivals r.counting node 0 low (set s.views id w2)
              arr2 0
              (let a = sum_stays s.views id v at (λ u. u.credit) w2 refl in omega arith)
              (let a = sum_stays s.views id v at (λ u. u.added) w2 refl in omega arith) (fewer 0 is ∙ sym (left2 node))
              (λ i n. left2 i ∙ left_else i n)
              (λ p. let a = left_here in let b = r.counting.few node p in let c = left2 node in omega arith);
          holding = holding_set s.views id v at w2 g.arrivals arr2 own2 others2 r.holding;
          claiming = claiming1 0 is w2 refl;
          running = record {
            below = r.running.below;
            bare = λ i p e. ap (rename (m2 i) (Kept node) (Held id)) (bare1 i p e)
                ∙ rename-none (m2 i) (Kept node) (Held id);
            idle = λ i u. dite (ℕ_discrete i node) (λ h. absurd (true≢false (sym armed_there ∙ ap g.armed (sym h) ∙ u)))
                (λ h. upd_else g.ran node true i h ∙ r.running.idle i u);
            waits = λ i u d. let x = not_node i d in let a = left_else i x.0 in let c = r.running.waits i u x.1 in
                let f = left2 i in omega arith;
            over = λ i d. dite (ℕ_discrete i node)
                (λ h. subst (λ k. left (arr2 k) ≡ 0) (sym h) (let f = left2 node in let e = fewer 0 is in omega arith))
                (λ h. let c = r.running.over i (sym (upd_else g.ran node true i h) ∙ d) in let a = left_else i h in
                let f = left2 i in omega arith);
          };
          keeping = record {
            records = λ i. sum_stays s.views id v at (λ u. total (names i) u.armed) w2 refl ∙ r.keeping.records i;
            keeping = λ k i d. let x = not_node k d in
                keeps2 k i x.0 ∙ r.keeping.keeping k i x.1
                ∙ sym (sum_stays s.views id v at (λ u. total (keeps_at k i) u.armed) w2 refl);
            spent = λ k i d. dite (ℕ_discrete k node)
                (λ h. subst (λ k. amount (Kept k) (arr2 i) ≡ 0) (sym h)
                (let a = fewer_after (Kept node) (Held id) m2 arr1 fit2 (one_same (Kept node)) (self_kept node) refl
                i in omega arith))
                (λ h. keeps2 k i h ∙ r.keeping.spent k i (sym (upd_else g.ran node true k h) ∙ d));
          };
          noting = noting1 0 is w2 refl refl refl refl;
        })
