-- What the steps at plain nodes, and arming, are to the sides of pairs.
use Rattle.std.proofs.Common.{◌≡◌, ◌≢◌, ℕ, ◌<◌, Bool, true, false, List, set, sym, refl, ap, ◌∙◌, subst, arith}
use Rattle.std.proofs.Common.{true≢false, Option, Some, None, ⊎_elim}
use mathlib.Core.Logic.{dite}
use mathlib.Core.Option.{some}
use native.Mathlib.Decide.{ℕ_discrete}
use lib.ListN.{get_elem?}
use Rattle.atomic_table.specs.Table.{State}
use Rattle.completion_core.specs.Graph.{Arrival, Made, Held, Kept, same, one_same, total, amount, Graph}
use Rattle.completion_core.specs.Legal.{rename, count, upd}
use Rattle.pending_count.specs.declared.view.View.{View}
use Rattle.pending_count.specs.declared.place.Side.{Side}
use Rattle.pending_count.specs.declared.place.Place.{Place}
use Rattle.pending_count.specs.declared.place.Slot.{Slot}
use Rattle.pending_count.specs.Views.{left_slot, right_slot, view_at, names, keeps_at, note_of, given_by_all}
use Rattle.pending_count.specs.Views.{sides_given_by_all, IsPlainAt, arrived_view, finished_view}
use Rattle.pending_count.specs.Shows.{Shows}
use Rattle.pending_count.specs.Pairs.{side_kept_at, Pairing}
use Rattle.pending_count.proofs.SumLemmas.{one_at, total-append, self_held, one_held, one_kept, at_else, upd_here}
use Rattle.pending_count.proofs.SumLemmas.{upd_else}
use Rattle.pending_count.proofs.RuleLemmas.{mine, here_is, else_is, stays, sum_stays}
use Rattle.pending_count.proofs.SideRuleLemmas.{by_option, none_some, held_not_made, keeping_as, noting_as, slotted_as}
use Rattle.pending_count.proofs.ChangedHandsLemmas.{turn, turn_is, all_turned, count-sides_given}
use Rattle.pending_count.proofs.RuleLemmas.{my_part}
use Rattle.pending_count.proofs.ArrivalLemmas as arrivals

module _ {V K T : Type 0} (fits : T → Side → V → Type 0) (tag_of : K → T) (place_of : K → Option (Place T)) (nodes : ℕ)
    (s : State (Option (Slot V K)) (View T)) (g : Graph) (r : Shows nodes s g)
    (p : Pairing fits tag_of place_of nodes s.homes s.views g.arrivals g.armed g.ran) (id : ℕ) (v : View T)
    (at : get_elem? s.views id ≡ some v) where
  pub my_sides : (k : ℕ) → count k v.sides ≡ one_same (Held id) (p.side k)
  my_sides k = ap (λ (u : View T). count k u.sides) (sym (mine s.views id v at)) ∙ p.mine id k

  -- a node at which the seat holds arrivals and no side is no pair
  pub is_plain : (i : ℕ) → 0 < count i v.held → IsPlainAt i v → p.tag i ≡ None
  is_plain i have plain = by_option (p.tag i) (p.tag i ≡ None) (λ e. e)
      (λ t e. let b = p.sided.both i t e (one_same (Held id)) in let h = my_part nodes s g r id v at i in
      let x = my_sides (left_slot i) in let y = my_sides (right_slot i) in let c = plain.0 in let d = plain.1 in
      absurd (omega arith))

  -- a step of this seat that moves no side and no slot, and changes no notes of pairs
  pub plain_stays : (w : View T) (arr : ℕ → List Arrival) → w.sides ≡ v.sides → w.taken ≡ v.taken → w.armed ≡ v.armed
      → w.armed_sides ≡ v.armed_sides → w.noted_sides ≡ v.noted_sides → w.tags ≡ v.tags → w.places ≡ v.places
      → ((i : ℕ) → 0 < count i v.claims → 0 < count i w.claims)
      → ((i : ℕ) (t : T) → p.tag i ≡ Some t → (f : Arrival → ℕ) → total f (arr i) ≡ total f (g.arrivals i))
      → Pairing fits tag_of place_of nodes s.homes (set s.views id w) arr g.armed g.ran
  plain_stays w arr sides taken armed armed_sides noted_sides tags places claims same = record {
    tag = p.tag;
    side = p.side;
    sided = record {
      pairs = p.sided.pairs;
      both = λ i t e f. same i t e f ∙ p.sided.both i t e f;
      alone = p.sided.alone;
      never = p.sided.never;
    };
    mine = λ a k. stays s.views id v at (λ u. count k u.sides) w (ap (count k) sides) a ∙ p.mine a k;
    keeping = keeping_as s.views (set s.views id w) p.side
        (λ i. sum_stays s.views id v at (λ u. total (names i) u.armed_sides) w (ap (total (names i)) armed_sides))
        kept_sides (λ i k. refl) p.keeping;
    noting = noting_as s.views (set s.views id w)
        (λ a i l e. (
          a,
          sym (stays s.views id v at (λ u. note_of i u.noted_sides) w (ap (note_of i) noted_sides) a)
              ∙ e,
        ))
        (λ a i t e. (a, sym (stays s.views id v at (λ u. note_of i u.tags) w (ap (note_of i) tags) a) ∙ e))
        (λ a i q e. (a, sym (stays s.views id v at (λ u. note_of i u.places) w (ap (note_of i) places) a) ∙ e))
        kept_sides p.noting;
    slotted = slotted_as s.views (set s.views id w) fits tag_of place_of g.armed g.ran p.side
        (λ a k. stays s.views id v at (λ u. count k u.taken) w (ap (count k) taken) a)
        (λ a i t h. dite (ℕ_discrete a id)
        (λ e. let c : 0 < count i v.claims =
        subst (λ (u : View T). 0 < count i u.claims) (ap (view_at s.views) e ∙ mine s.views id v at) h in
        subst (λ (u : View T). 0 < count i u.claims)
        (sym (ap (view_at (set s.views id w)) e ∙ here_is s.views id v at w)) (claims i c))
        (λ n. subst (λ (u : View T). 0 < count i u.claims) (sym (else_is s.views id v at w a n)) h))
        (λ k e. e) (λ k e. e) (λ a k e _. e) (λ i e. e) (λ i e. e)
        (λ i j t e. sum_stays s.views id v at (λ u. total (keeps_at i j) u.armed) w (ap (total (keeps_at i j)) armed))
        (λ i k t e. kept_sides i k)
        (λ a i q e. (a, sym (stays s.views id v at (λ u. note_of i u.places) w (ap (note_of i) places) a) ∙ e))
        p.slotted;
  }
    where
      kept_sides : (i k : ℕ) → side_kept_at i k (set s.views id w) ≡ side_kept_at i k s.views
      kept_sides i k = sum_stays s.views id v at (λ u. total (keeps_at i k) u.armed_sides) w
          (ap (total (keeps_at i k)) armed_sides)

  -- an arrival at a plain node
  module _ (node : ℕ) (have : 0 < count node v.held) (plain : p.tag node ≡ None) where
    not_pair : (i : ℕ) (t : T) → p.tag i ≡ Some t → i ≢ node
    not_pair i t e h = none_some t (sym plain ∙ ap p.tag (sym h) ∙ e)

    -- a node's arrivals by weight, where none of them is moved
    unmoved : (f : Arrival → ℕ) (i : ℕ) → i ≢ node
        → total f (arrivals.arr1 nodes s g r id v at node have i) ≡ total f (g.arrivals i)
    unmoved f i n = ap (λ k. total f (rename k (Held id) Made (g.arrivals i))) (at_else node i n)

    pub pends_sides : Pairing fits tag_of place_of nodes s.homes (set s.views id (arrived_view node v))
        (arrivals.arr1 nodes s g r id v at node have) g.armed g.ran
    pends_sides = plain_stays (arrived_view node v) (arrivals.arr1 nodes s g r id v at node have) refl refl refl refl
        refl refl refl (λ i h. h) (λ i t e f. unmoved f i (not_pair i t e))

    abbrev turned : ℕ → Arrival
    turned k = turn (Kept node) (Held id) (p.side k)

    abbrev kept_sides : List ℕ
    kept_sides = sides_given_by_all node s.views

    abbrev w2 : View T
    w2 = finished_view node (given_by_all node s.views) kept_sides v

    abbrev ran2 : ℕ → Bool
    ran2 = upd g.ran node true

    still : g.ran node ≡ false
    still = arrivals.still nodes s g r id v at node have

    given_is : (k : ℕ) → count k kept_sides ≡ one_same (Kept node) (p.side k)
    given_is k = count-sides_given node k s.views ∙ sym (p.keeping.keeping node k still)

    own_turned : (k : ℕ) → count k w2.sides ≡ one_same (Held id) (turned k)
    own_turned k = let a = total-append (one_at k) kept_sides v.sides in let b = given_is k in let c = my_sides k in
        ⊎_elim
        (λ (z : (one_same (Kept node) (p.side k) ≡ 1) × (p.side k ≡ Kept node) × (turned k ≡ Held id)). let d = z.0 in
        let e : one_same (Held id) (p.side k) ≡ 0 = ap (one_same (Held id)) z.1 in
        let f : one_same (Held id) (turned k) ≡ 1 = ap (one_same (Held id)) z.2 ∙ self_held id in omega arith)
        (λ (z : (one_same (Kept node) (p.side k) ≡ 0) × (turned k ≡ p.side k)). let d = z.0 in
        let f = ap (one_same (Held id)) z.1 in omega arith)
        (turn_is (Kept node) (Held id) (p.side k))

    else_turned : (a k : ℕ) → a ≢ id → one_same (Held a) (turned k) ≡ one_same (Held a) (p.side k)
    else_turned a k n = ⊎_elim
        (λ (z : (one_same (Kept node) (p.side k) ≡ 1) × (p.side k ≡ Kept node) × (turned k ≡ Held id)). ap
        (one_same (Held a)) z.2 ∙ one_held a id n ∙ sym (ap (one_same (Held a)) z.1))
        (λ (z : (one_same (Kept node) (p.side k) ≡ 0) × (turned k ≡ p.side k)). ap (one_same (Held a)) z.1)
        (turn_is (Kept node) (Held id) (p.side k))

    kept_turned : (i k : ℕ) → i ≢ node → one_same (Kept i) (turned k) ≡ one_same (Kept i) (p.side k)
    kept_turned i k n = ⊎_elim
        (λ (z : (one_same (Kept node) (p.side k) ≡ 1) × (p.side k ≡ Kept node) × (turned k ≡ Held id)). ap
        (one_same (Kept i)) z.2 ∙ sym (ap (one_same (Kept i)) z.1 ∙ one_kept i node n))
        (λ (z : (one_same (Kept node) (p.side k) ≡ 0) × (turned k ≡ p.side k)). ap (one_same (Kept i)) z.1)
        (turn_is (Kept node) (Held id) (p.side k))

    none_turned : (k : ℕ) → one_same (Kept node) (turned k) ≡ 0
    none_turned k = ⊎_elim
        (λ (z : (one_same (Kept node) (p.side k) ≡ 1) × (p.side k ≡ Kept node) × (turned k ≡ Held id)). ap
        (one_same (Kept node)) z.2)
        (λ (z : (one_same (Kept node) (p.side k) ≡ 0) × (turned k ≡ p.side k)). ap (one_same (Kept node)) z.1 ∙ z.0)
        (turn_is (Kept node) (Held id) (p.side k))

    not_ran : (i : ℕ) → ran2 i ≡ false → (i ≢ node) × (g.ran i ≡ false)
    not_ran i e = dite (ℕ_discrete i node)
        (λ h. absurd (true≢false (sym (upd_here g.ran node true) ∙ ap ran2 (sym h) ∙ e)))
        (λ n. (n, sym (upd_else g.ran node true i n) ∙ e))

    side_sums : (i k : ℕ) → side_kept_at i k (set s.views id w2) ≡ side_kept_at i k s.views
    side_sums i k = sum_stays s.views id v at (λ u. total (keeps_at i k) u.armed_sides) w2 refl

    pub runs_sides : Pairing fits tag_of place_of nodes s.homes (set s.views id w2)
        (arrivals.arr2 nodes s g r id v at node have) g.armed ran2
    runs_sides = record {
      tag = p.tag;
      side = turned;
      sided = record {
        pairs = p.sided.pairs;
        both = λ i t e f. all_turned (Kept node) (Held id) f
            (amount (Kept node) (arrivals.arr1 nodes s g r id v at node have i))
            (arrivals.arr1 nodes s g r id v at node have i) refl
            ∙ unmoved (λ z. f (turn (Kept node) (Held id) z)) i (not_pair i t e)
            ∙ p.sided.both i t e (λ z. f (turn (Kept node) (Held id) z));
        alone = λ i b e. ap (turn (Kept node) (Held id)) (p.sided.alone i b e);
        never = λ i. ap (turn (Kept node) (Held id)) (p.sided.never i);
      };
      mine = λ a k. dite (ℕ_discrete a id)
          (λ e. ap (λ (u : View T). count k u.sides) (ap (view_at (set s.views id w2)) e ∙ here_is s.views id v at w2)
          ∙ own_turned k ∙ ap (λ b. one_same (Held b) (turned k)) (sym e))
          (λ n. ap (λ (u : View T). count k u.sides) (else_is s.views id v at w2 a n) ∙ p.mine a k
          ∙ sym (else_turned a k n));
      keeping = record {
        records = λ i. sum_stays s.views id v at (λ u. total (names i) u.armed_sides) w2 refl ∙ p.keeping.records i;
        keeping = λ i k e. let n = not_ran i e in kept_turned i k n.0 ∙ p.keeping.keeping i k n.1 ∙ sym (side_sums i k);
        spent = λ i k e. dite (ℕ_discrete i node)
            (λ h. ap (λ j. one_same (Kept j) (turned k)) h ∙ none_turned k)
            (λ h. kept_turned i k h ∙ p.keeping.spent i k (sym (upd_else g.ran node true i h) ∙ e));
      };
      noting = noting_as s.views (set s.views id w2)
          (λ a i l e. (a, sym (stays s.views id v at (λ u. note_of i u.noted_sides) w2 refl a) ∙ e))
          (λ a i t e. (a, sym (stays s.views id v at (λ u. note_of i u.tags) w2 refl a) ∙ e))
          (λ a i q e. (a, sym (stays s.views id v at (λ u. note_of i u.places) w2 refl a) ∙ e))
          side_sums p.noting;
      slotted = slotted_as s.views (set s.views id w2) fits tag_of place_of g.armed ran2 turned
          (λ a k. stays s.views id v at (λ u. count k u.taken) w2 refl a)
          (λ a i t h. subst (λ k. 0 < k) (sym (stays s.views id v at (λ u. count i u.claims) w2 refl a)) h)
          (λ k m. ⊎_elim
          (λ (z : (one_same (Kept node) (p.side k) ≡ 1) × (p.side k ≡ Kept node) × (turned k ≡ Held id)). absurd
          (held_not_made id (Held id) refl (sym z.2 ∙ m)))
          (λ (z : (one_same (Kept node) (p.side k) ≡ 0) × (turned k ≡ p.side k)). sym z.1 ∙ m)
          (turn_is (Kept node) (Held id) (p.side k)))
          (λ k m. ap (turn (Kept node) (Held id)) m)
          (λ a k h _. ap (turn (Kept node) (Held id)) h)
          (λ i e. e) (λ i e. (not_ran i e).1)
          (λ i j t e. sum_stays s.views id v at (λ u. total (keeps_at i j) u.armed) w2 refl)
          (λ i k t e. side_sums i k)
          (λ a i q e. (a, sym (stays s.views id v at (λ u. note_of i u.places) w2 refl a) ∙ e))
          p.slotted;
    }
