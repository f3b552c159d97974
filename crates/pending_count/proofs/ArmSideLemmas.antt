-- What arming a node is to the sides of pairs: the node keeps the sides that belong to its entries.
use Rattle.std.proofs.Common.{◌≡◌, ◌≢◌, ℕ, ◌+◌, ◌<◌, ◌≤◌, eqb, cond, Bool, true, false, List, [], ◌∷◌, ◌++◌, set, sym}
use Rattle.std.proofs.Common.{refl, ap, ◌∙◌, subst, arith, eq-eqb, ne_eqb, true≢false, Option, Some, None, ⊎_elim}
use mathlib.Core.Logic.{dite}
use mathlib.Core.Option.{some}
use native.Mathlib.Decide.{ℕ_discrete}
use lib.ListN.{get_elem?}
use Rattle.atomic_table.specs.Table.{State}
use Rattle.completion_core.specs.Graph.{Arrival, Made, Held, Kept, same, one_same, total, copies, Graph}
use Rattle.completion_core.specs.Legal.{rename, count, upd}
use Rattle.pending_count.specs.declared.view.View.{View}
use Rattle.pending_count.specs.declared.place.Side.{Side}
use Rattle.pending_count.specs.declared.place.Place.{Place}
use Rattle.pending_count.specs.declared.place.Slot.{Slot}
use Rattle.pending_count.specs.Views.{left_slot, right_slot, kept_slot, sides_of, view_at, names, keeps_at, note_of}
use Rattle.pending_count.specs.Views.{armed_view}
use Rattle.pending_count.specs.Shows.{Shows, kept_at, one_if}
use Rattle.pending_count.specs.Pairs.{side_slot, side_kept_at, SideKeeping, Pairing}
use Rattle.pending_count.proofs.SumLemmas.{one_at, total-append, total-set, total-less, total-rename, self_held}
use Rattle.pending_count.proofs.SumLemmas.{self_kept, one_kept, at_else, some_is, upd_here, upd_else}
use Rattle.pending_count.proofs.RecordLemmas.{names_is, names_not, keeps_is, keeps_not}
use Rattle.pending_count.proofs.RuleLemmas.{mine, here_is, else_is, stays}
use Rattle.pending_count.proofs.SideRuleLemmas.{by_option, none_some, one_is, held_is, held_not_made, kept_not_made}
use Rattle.pending_count.proofs.SideRuleLemmas.{slot_cases, slotted_as}
use Rattle.pending_count.proofs.ChangedHandsLemmas.{moved, moved_out, moved_is, both_moved, else_moved, rest_moved}
use Rattle.pending_count.proofs.ChangedHandsLemmas.{sides_within, one_side_each, no_side_each, unnamed_sides}
use Rattle.pending_count.proofs.RuleLemmas.{my_part, claim_is}
use Rattle.pending_count.proofs.ArmLemmas as arming
use Rattle.pending_count.proofs.PlainSideLemmas as plain

module _ {V K T : Type 0} (fits : T → Side → V → Type 0) (tag_of : K → T) (place_of : K → Option (Place T)) (nodes : ℕ)
    (s : State (Option (Slot V K)) (View T)) (g : Graph) (r : Shows nodes s g)
    (p : Pairing fits tag_of place_of nodes s.homes s.views g.arrivals g.armed g.ran) (id : ℕ) (v : View T)
    (at : get_elem? s.views id ≡ some v)
    (node pending : ℕ) (onward : List ℕ) (drew : 0 < count node v.claims) (small : pending < 4294967296)
    (have : (i : ℕ) → count i onward ≤ count i v.held)
    (one_side : (i : ℕ) → 0 < count i onward → count (left_slot i) v.sides + count (right_slot i) v.sides ≤ 1) where
  abbrev pub l : List ℕ
  l = sides_of onward v.sides

  pub claimed : (0 < node) × (node ≤ g.drawn) × (g.claimer node ≡ id) × (g.armed node ≡ false)
  claimed = claim_is nodes s g r id v at node drew

  my_sides : (k : ℕ) → count k v.sides ≡ one_same (Held id) (p.side k)
  my_sides = plain.my_sides fits tag_of place_of nodes s g r p id v at

  pub in_l : (k : ℕ) → 0 < count k l → p.side k ≡ Held id
  in_l k h = let a = sides_within k onward v.sides h in let b = my_sides k in
      sym (one_is (Held id) (p.side k) (omega arith))

  no_l : (k : ℕ) → p.side k ≡ Made → count k l ≡ 0
  no_l k e = dite (ℕ_discrete (count k l) 0) (λ z. z)
      (λ n. absurd (held_not_made id (p.side k) (in_l k (omega arith)) e))

  -- the sides of a pair, where the seat holds one side for each arrival that it holds there
  pair_held : (i : ℕ) (t : T) → p.tag i ≡ Some t
      → count i v.held ≡ count (left_slot i) v.sides + count (right_slot i) v.sides
  pair_held i t e = my_part nodes s g r id v at i ∙ p.sided.both i t e (one_same (Held id))
      ∙ (let a = my_sides (left_slot i) in let b = my_sides (right_slot i) in omega arith)

  pub each : (i : ℕ) (t : T) → p.tag i ≡ Some t → count i onward ≡ count (left_slot i) l + count (right_slot i) l
  each i t e = dite (ℕ_discrete (count i onward) 0)
      (λ z. let n = no_side_each i onward v.sides z in let a = n.0 in let b = n.1 in omega arith)
      (λ m. let o = one_side i (omega arith) in let h = pair_held i t e in let c = have i in
      sym (one_side_each i onward v.sides (omega arith)))

  pub once : (k : ℕ) → count k l ≤ 1
  once k = slot_cases k (λ k. count k l ≤ 1)
      (λ i b. by_option (p.tag i) (count (side_slot i b) l ≤ 1)
      (λ e. let z = no_l (side_slot i b) (p.sided.alone i b e) in omega arith)
      (λ t e. let x = each i t e in dite (ℕ_discrete (count i onward) 0) (λ z. at_side i b (omega arith))
      (λ m. let o = one_side i (omega arith) in let h = pair_held i t e in let c = have i in
      at_side i b (omega arith))))
      (λ i. let z = no_l (kept_slot i) (p.sided.never i) in omega arith)
    where
      at_side : (i : ℕ) (b : Bool) → count (left_slot i) l + count (right_slot i) l ≤ 1 → count (side_slot i b) l ≤ 1
      at_side i true h = omega arith
      at_side i false h = omega arith

  abbrev pub sent : ℕ → Arrival
  sent = moved p.side l id (Kept node) in_l once

  pub untagged : p.tag node ≡ None
  untagged = by_option (p.tag node) (p.tag node ≡ None) (λ e. e)
      (λ t e. absurd (true≢false (sym (p.sided.pairs node t e) ∙ claimed.3)))

  pub not_node : (i : ℕ) (t : T) → p.tag i ≡ Some t → i ≢ node
  not_node i t e h = none_some t (sym untagged ∙ ap p.tag (sym h) ∙ e)

  abbrev pub arr : ℕ → List Arrival
  arr = arming.arr nodes s g r id v at node pending onward drew small have

  pub both_sent : (i : ℕ) (t : T) → p.tag i ≡ Some t → (f : Arrival → ℕ)
      → total f (arr i) ≡ f (sent (left_slot i)) + f (sent (right_slot i))
  both_sent i t e f =
      let keep : List Arrival = rename (count i onward) (Held id) (Kept node) (g.arrivals i) in
      let same_keep : total f (arr i) ≡ total f keep =
      ap (λ b. total f (keep ++ cond b (copies (pending + 1) (Held id)) [])) (ne_eqb i node (not_node i t e))
      ∙ total-append f keep [] ∙ omega arith in
      let weighs = total-rename f (count i onward) (Held id) (Kept node) (g.arrivals i)
      (arming.fit nodes s g r id v at node pending onward drew small have i) in
      same_keep ∙ both_moved p.side l id (Kept node) in_l once f (g.arrivals i) keep (count i onward) (left_slot i)
      (right_slot i) weighs (each i t e) (p.sided.both i t e f)

  pub sent_made : (k : ℕ) → sent k ≡ Made → p.side k ≡ Made
  sent_made k m = ⊎_elim
      (λ (z : (count k l ≡ 0) × (sent k ≡ p.side k)). sym z.1 ∙ m)
      (λ (z : (count k l ≡ 1) × (sent k ≡ Kept node) × (p.side k ≡ Held id)). absurd
      (kept_not_made node (Kept node) refl (sym z.1 ∙ m)))
      (moved_is p.side l id (Kept node) in_l once k)

  pub made_sent : (k : ℕ) → p.side k ≡ Made → sent k ≡ Made
  made_sent k m = moved_out p.side l id (Kept node) in_l once k (no_l k m) ∙ m

  abbrev armed' : ℕ → Bool
  armed' = upd g.armed node true

  pub not_armed : (i : ℕ) → armed' i ≡ false → (i ≢ node) × (g.armed i ≡ false)
  not_armed i e = dite (ℕ_discrete i node)
      (λ h. absurd (true≢false (sym (upd_here g.armed node true) ∙ ap armed' (sym h) ∙ e)))
      (λ n. (n, sym (upd_else g.armed node true i n) ∙ e))

  pub armed_still : (i : ℕ) → g.armed i ≡ true → armed' i ≡ true
  armed_still i e = dite (ℕ_discrete i node) (λ h. ap armed' h ∙ upd_here g.armed node true)
      (λ n. upd_else g.armed node true i n ∙ e)

  armed_else : (i : ℕ) → g.armed i ≡ true → i ≢ node
  armed_else i e h = true≢false (sym e ∙ ap g.armed h ∙ claimed.3)

  no_record : total (λ v. total (names node) v.armed_sides) s.views ≡ 0
  no_record = p.keeping.records node ∙ ap one_if claimed.3

  -- for any view of this seat after it with these records
  module _ (w : View T) (w_armed : w.armed ≡ (node, onward) ∷ v.armed)
      (w_sides : w.armed_sides ≡ (node, l) ∷ v.armed_sides) where
    abbrev views' : List (View T)
    views' = set s.views id w

    record_is : (i : ℕ) → total (λ v. total (names i) v.armed_sides) views'
        ≡ names i (node, l) + total (λ v. total (names i) v.armed_sides) s.views
    record_is i = let a = total-set (λ (v : View T). total (names i) v.armed_sides) s.views id v w at in
        let b = ap (total (names i)) w_sides in omega arith

    keep_is : (i k : ℕ) → side_kept_at i k views' ≡ keeps_at i k (node, l) + side_kept_at i k s.views
    keep_is i k = let a = total-set (λ (v : View T). total (keeps_at i k) v.armed_sides) s.views id v w at in
        let b = ap (total (keeps_at i k)) w_sides in omega arith

    pub keep_same : (i k : ℕ) → i ≢ node → side_kept_at i k views' ≡ side_kept_at i k s.views
    keep_same i k n = let a = keep_is i k in let b = keeps_not i k (node, l) (λ e. n (sym e)) in omega arith

    pub keep_mine : (k : ℕ) → side_kept_at node k views' ≡ count k l
    keep_mine k = let a = keep_is node k in let b = keeps_is node k (node, l) refl in
        let c = unnamed_sides node k s.views no_record in omega arith

    pub kept_same : (i j : ℕ) → i ≢ node → kept_at i j views' ≡ kept_at i j s.views
    kept_same i j n = let a = total-set (λ (v : View T). total (keeps_at i j) v.armed) s.views id v w at in
        let b = ap (total (keeps_at i j)) w_armed in let c = keeps_not i j (node, onward) (λ e. n (sym e)) in
        omega arith

    pub kept_mine : (j : ℕ) → kept_at node j views' ≡ count j onward
    kept_mine j = let a = total-set (λ (v : View T). total (keeps_at node j) v.armed) s.views id v w at in
        let b = ap (total (keeps_at node j)) w_armed in let c = keeps_is node j (node, onward) refl in
        let d = arming.none_kept nodes s g r id v at node pending onward drew small have j in omega arith

    side_kept : (i k : ℕ) → i ≢ node → one_same (Kept i) (sent k) ≡ one_same (Kept i) (p.side k)
    side_kept i k n = ⊎_elim
        (λ (z : (count k l ≡ 0) × (sent k ≡ p.side k)). ap (one_same (Kept i)) z.1)
        (λ (z : (count k l ≡ 1) × (sent k ≡ Kept node) × (p.side k ≡ Held id)). ap (one_same (Kept i)) z.1
        ∙ one_kept i node n ∙ sym (ap (one_same (Kept i)) z.2))
        (moved_is p.side l id (Kept node) in_l once k)

    side_mine : (k : ℕ) → one_same (Kept node) (sent k) ≡ count k l
    side_mine k = ⊎_elim
        (λ (z : (count k l ≡ 0) × (sent k ≡ p.side k)). let a = ap (one_same (Kept node)) z.1 in let b = z.0 in
        let c = p.keeping.keeping node k (r.running.idle node claimed.3) in
        let d = unnamed_sides node k s.views no_record in omega arith)
        (λ (z : (count k l ≡ 1) × (sent k ≡ Kept node) × (p.side k ≡ Held id)). let a = ap (one_same (Kept node)) z.1 in
        let b = z.0 in let c = self_kept node in omega arith)
        (moved_is p.side l id (Kept node) in_l once k)

    -- for any sides after it that no other nodes than these keep
    pub side_keeping : (side' : ℕ → Arrival) → ((i k : ℕ) → one_same (Kept i) (side' k) ≡ one_same (Kept i) (sent k))
        → SideKeeping views' armed' g.ran side'
    side_keeping side' same = record {
      records = λ i. dite (ℕ_discrete i node)
          (λ e. ap (λ k. total (λ v. total (names k) v.armed_sides) views') e
          ∙ (let a = record_is node in let b = names_is node (node, l) refl in let c = no_record in omega arith)
          ∙ sym (ap one_if (ap armed' e ∙ upd_here g.armed node true)))
          (λ n. (let a = record_is i in let b = names_not i (node, l) (λ e. n (sym e)) in omega arith)
          ∙ p.keeping.records i ∙ ap one_if (sym (upd_else g.armed node true i n)));
      keeping = λ i k e. same i k ∙ dite (ℕ_discrete i node)
          (λ h. ap (λ j. one_same (Kept j) (sent k)) h ∙ side_mine k ∙ sym (keep_mine k)
          ∙ ap (λ j. side_kept_at j k views') (sym h))
          (λ n. side_kept i k n ∙ p.keeping.keeping i k e ∙ sym (keep_same i k n));
      spent = λ i k e. same i k ∙ (let n : i ≢ node =
          (λ h. true≢false (sym e ∙ ap g.ran h ∙ r.running.idle node claimed.3)) in
          side_kept i k n ∙ p.keeping.spent i k e);
    }

    -- notes of the sides that were kept
    pub noted_sides : w.noted_sides ≡ (node, l) ∷ v.noted_sides → (a i : ℕ) (q : List ℕ)
        → note_of i (view_at views' a).noted_sides ≡ Some q
        → (armed' i ≡ true) × ((k : ℕ) → count k q ≡ side_kept_at i k views')
    noted_sides is a i q e = dite (ℕ_discrete a id)
        (λ h.
        let f : cond (eqb node i) (Some l) (note_of i v.noted_sides) ≡ Some q =
        sym (ap (note_of i) is) ∙ ap (λ (u : View T). note_of i u.noted_sides) (sym (here_is s.views id v at w))
        ∙ ap (λ b. note_of i (view_at views' b).noted_sides) (sym h) ∙ e in
        dite (ℕ_discrete node i)
        (λ z. let y : q ≡ l = some_is q l
        (sym f ∙ ap (λ b. cond b (Some l) (note_of i v.noted_sides)) (eq-eqb node i z)) in (
          ap armed' (sym z) ∙ upd_here g.armed node true,
          λ k. ap (count k) y ∙ sym (keep_mine k) ∙ ap (λ j. side_kept_at j k views') z,
        ))
        (λ m. before id i q (ap (λ (u : View T). note_of i u.noted_sides) (mine s.views id v at)
        ∙ sym (ap (λ b. cond b (Some l) (note_of i v.noted_sides)) (ne_eqb node i m)) ∙ f)))
        (λ n. before a i q (sym (ap (λ (u : View T). note_of i u.noted_sides) (else_is s.views id v at w a n)) ∙ e))
      where
        before : (a i : ℕ) (q : List ℕ) → note_of i (view_at s.views a).noted_sides ≡ Some q
            → (armed' i ≡ true) × ((k : ℕ) → count k q ≡ side_kept_at i k views')
        before a i q e = let h = p.noting.noted a i q e in
            (armed_still i h.0, λ k. h.1 k ∙ sym (keep_same i k (armed_else i h.0)))

  -- a side that is out stays where it is
  pub held_still : ((k : ℕ) → 0 < count k l → count k v.taken ≡ 0) → (a k : ℕ) → p.side k ≡ Held a
      → 0 < count k (view_at s.views a).taken → sent k ≡ Held a
  held_still free a k e t = dite (ℕ_discrete (count k l) 0)
      (λ z. moved_out p.side l id (Kept node) in_l once k z ∙ e)
      (λ n. let is : a ≡ id = held_is a id (ap (one_same (Held a)) (sym (in_l k (omega arith)) ∙ e) ∙ self_held a) in
      let y : 0 < count k v.taken = subst (λ (u : View T). 0 < count k u.taken)
      (ap (view_at s.views) is ∙ mine s.views id v at) t in let f = free k (omega arith) in absurd (omega arith))

  abbrev w0 : View T
  w0 = armed_view node pending onward v

  -- the claim of the armed node is gone, so its kept value's slot must not be out
  pub arms_sides : ((k : ℕ) → count k v.taken ≡ 0)
      → Pairing fits tag_of place_of nodes s.homes (set s.views id w0) arr armed' g.ran
  arms_sides free = record {
    tag = p.tag;
    side = sent;
    sided = record {
      pairs = λ i t e. armed_still i (p.sided.pairs i t e);
      both = both_sent;
      alone = λ i b e. made_sent (side_slot i b) (p.sided.alone i b e);
      never = λ i. made_sent (kept_slot i) (p.sided.never i);
    };
    mine = λ a k. dite (ℕ_discrete a id)
        (λ e. ap (λ (u : View T). count k u.sides) (ap (view_at (set s.views id w0)) e ∙ here_is s.views id v at w0)
        ∙ rest_moved p.side l id (Kept node) in_l once v.sides my_sides refl k
        ∙ ap (λ b. one_same (Held b) (sent k)) (sym e))
        (λ n. ap (λ (u : View T). count k u.sides) (else_is s.views id v at w0 a n) ∙ p.mine a k
        ∙ sym (else_moved p.side l id (Kept node) in_l once a n refl k));
    keeping = side_keeping w0 refl refl sent (λ i k. refl);
    noting = record {
      noted = noted_sides w0 refl refl refl;
      tags = λ a i t e. p.noting.tags a i t (sym (stays s.views id v at (λ u. note_of i u.tags) w0 refl a) ∙ e);
      placed = λ a i q e. armed_still i (p.noting.placed a i q
          (sym (stays s.views id v at (λ u. note_of i u.places) w0 refl a) ∙ e));
    };
    slotted = slotted_as s.views (set s.views id w0) fits tag_of place_of armed' g.ran sent
        (λ a k. stays s.views id v at (λ u. count k u.taken) w0 refl a)
        claims_left sent_made made_sent still_held
        (λ i e. (not_armed i e).1) (λ i e. e)
        (λ i j t e. kept_same w0 refl refl i j (not_node i t e))
        (λ i k t e. keep_same w0 refl refl i k (not_node i t e))
        (λ a i q e. (a, sym (stays s.views id v at (λ u. note_of i u.places) w0 refl a) ∙ e))
        p.slotted;
  }
    where
      claims_left : (a i : ℕ) → 0 < count (kept_slot i) (view_at s.views a).taken
          → 0 < count i (view_at s.views a).claims → 0 < count i (view_at (set s.views id w0) a).claims
      claims_left a i t h = dite (ℕ_discrete a id)
          (λ e. dite (ℕ_discrete i node)
          (λ z. let y : 0 < count (kept_slot node) v.taken =
          subst (λ (u : View T). 0 < count (kept_slot node) u.taken) (ap (view_at s.views) e ∙ mine s.views id v at)
          (subst (λ j. 0 < count (kept_slot j) (view_at s.views a).taken) z t) in let f = free (kept_slot node) in
          absurd (omega arith))
          (λ n. subst (λ (u : View T). 0 < count i u.claims)
          (sym (ap (view_at (set s.views id w0)) e ∙ here_is s.views id v at w0))
          (let x = total-less (one_at i) node v.claims drew in let y = at_else i node (λ e. n (sym e)) in
          let q : 0 < count i v.claims =
          subst (λ (u : View T). 0 < count i u.claims) (ap (view_at s.views) e ∙ mine s.views id v at) h in
          omega arith)))
          (λ n. subst (λ (u : View T). 0 < count i u.claims) (sym (else_is s.views id v at w0 a n)) h)

      still_held : (a k : ℕ) → p.side k ≡ Held a → 0 < count k (view_at s.views a).taken → sent k ≡ Held a
      still_held a k e t = held_still (λ k h. free k) a k e t
