-- A seat arms a node as a pair, and the slot of what the node keeps goes home with it.
use Rattle.std.proofs.Common.{◌≡◌, ◌≢◌, ℕ, zero, suc, ◌+◌, ◌<◌, ◌≤◌, eqb, cond, Bool, true, false, List, [], ◌∷◌, ◌++◌}
use Rattle.std.proofs.Common.{length, set, sym, refl, ap, ◌∙◌, subst, arith, eq-eqb, ne_eqb, true≢false, length-set}
use Rattle.std.proofs.Common.{Option, Some, None, ◌⊎◌, inl, inr, ⊎_elim}
use mathlib.Core.Logic.{dite}
use mathlib.Core.Option.{none, some}
use mathlib.Core.Option as mc
use native.Mathlib.Decide.{ℕ_discrete}
use lib.ListN.{get_elem?}
use Rattle.atomic_table.specs.Table.{State}
use Rattle.atomic_table.proofs.Lists.{set_here, set_else}
use Rattle.completion_core.specs.Graph.{Arrival, Made, Held, Kept, one_same, total, copies, Graph}
use Rattle.completion_core.specs.Legal.{rename, count, upd}
use Rattle.pending_count.specs.declared.view.View.{View}
use Rattle.pending_count.specs.declared.place.Side.{Side}
use Rattle.pending_count.specs.declared.place.Place.{Place}
use Rattle.pending_count.specs.declared.place.Slot.{Slot}
use Rattle.pending_count.specs.declared.place.Slot.TheVariants.{Kept as KeptValue}
use Rattle.pending_count.specs.Views.{left_slot, right_slot, kept_slot, sides_of, view_at, note_of, paired_view}
use Rattle.pending_count.specs.Shows.{Shows, kept_at}
use Rattle.pending_count.specs.Pairs.{side_slot, slot_of, noted_place, side_kept_at, Pairing}
use Rattle.pending_count.proofs.SumLemmas.{one_at, here, self_held, one_held, at_here, at_else, some_is, upd_here}
use Rattle.pending_count.proofs.SumLemmas.{upd_else}
use Rattle.pending_count.proofs.RuleLemmas.{mine, here_is, else_is}
use Rattle.pending_count.proofs.SideRuleLemmas.{none_some, held_is, held_not_made, slot_node, slot_not_kept}
use Rattle.pending_count.proofs.ChangedHandsLemmas.{moved, moved_out, else_moved, rest_moved}
use Rattle.pending_count.proofs.RuleLemmas.{claim_is}
use Rattle.pending_count.proofs.ArmLemmas as arming
use Rattle.pending_count.proofs.ArmSideLemmas as armed
use Rattle.pending_count.proofs.PlainSideLemmas as plain

module _ {V K T : Type 0} (fits : T → Side → V → Type 0) (tag_of : K → T) (place_of : K → Option (Place T)) (nodes : ℕ)
    (s : State (Option (Slot V K)) (View T)) (g : Graph) (r : Shows nodes s g)
    (p : Pairing fits tag_of place_of nodes s.homes s.views g.arrivals g.armed g.ran) (id : ℕ) (v : View T)
    (at : get_elem? s.views id ≡ some v)
    (node : ℕ) (onward : List ℕ) (drew : 0 < count node v.claims) (small : 1 < 4294967296)
    (have : (i : ℕ) → count i onward ≤ count i v.held)
    (one_side : (i : ℕ) → 0 < count i onward → count (left_slot i) v.sides + count (right_slot i) v.sides ≤ 1)
    (out : v.taken ≡ kept_slot node ∷ []) (kept : K) (lower : (i : ℕ) → 0 < count i onward → i < node)
    (placed : (pl : Place T) → place_of kept ≡ Some pl
    → (onward ≡ pl.node ∷ []) × ((j : ℕ)
    → count j (sides_of onward v.sides) ≡ count j (slot_of pl.node pl.side ∷ []))
    × (note_of pl.node v.tags ≡ Some pl.tag)) where
  abbrev pub tg : T
  tg = tag_of kept

  abbrev pub l : List ℕ
  l = sides_of onward v.sides

  claimed : (0 < node) × (node ≤ g.drawn) × (g.claimer node ≡ id) × (g.armed node ≡ false)
  claimed = claim_is nodes s g r id v at node drew

  pub in_l : (k : ℕ) → 0 < count k l → p.side k ≡ Held id
  in_l = armed.in_l fits tag_of place_of nodes s g r p id v at node 1 onward drew small have one_side

  pub once : (k : ℕ) → count k l ≤ 1
  once = armed.once fits tag_of place_of nodes s g r p id v at node 1 onward drew small have one_side

  abbrev pub sent : ℕ → Arrival
  sent = moved p.side l id (Kept node) in_l once

  untagged : p.tag node ≡ None
  untagged = armed.untagged fits tag_of place_of nodes s g r p id v at node 1 onward drew small have one_side

  not_node : (i : ℕ) (t : T) → p.tag i ≡ Some t → i ≢ node
  not_node = armed.not_node fits tag_of place_of nodes s g r p id v at node 1 onward drew small have one_side

  made_sent : (k : ℕ) → p.side k ≡ Made → sent k ≡ Made
  made_sent = armed.made_sent fits tag_of place_of nodes s g r p id v at node 1 onward drew small have one_side

  sent_made : (k : ℕ) → sent k ≡ Made → p.side k ≡ Made
  sent_made = armed.sent_made fits tag_of place_of nodes s g r p id v at node 1 onward drew small have one_side

  abbrev pub w : View T
  w = paired_view node onward tg (noted_place (place_of kept)) v

  abbrev pub views' : List (View T)
  views' = set s.views id w

  abbrev pub tag' : ℕ → Option T
  tag' = upd p.tag node (Some tg)

  abbrev pub left : ℕ
  left = left_slot node

  abbrev pub right : ℕ
  right = right_slot node

  abbrev pub side' : ℕ → Arrival
  side' = upd (upd sent left (Held id)) right (Held id)

  at_left : side' left ≡ Held id
  at_left = upd_else (upd sent left (Held id)) right (Held id) left (λ e. absurd (omega arith))
      ∙ upd_here sent left (Held id)

  at_right : side' right ≡ Held id
  at_right = upd_here (upd sent left (Held id)) right (Held id)

  at_slot : (b : Bool) → side' (side_slot node b) ≡ Held id
  at_slot true = at_left
  at_slot false = at_right

  at_else' : (k : ℕ) → k ≢ left → k ≢ right → side' k ≡ sent k
  at_else' k n m = upd_else (upd sent left (Held id)) right (Held id) k m ∙ upd_else sent left (Held id) k n

  slot_else : (i : ℕ) (b : Bool) → i ≢ node → side' (side_slot i b) ≡ sent (side_slot i b)
  slot_else i b n = at_else' (side_slot i b) (λ e. n (slot_node i node b true e)) (λ e. n (slot_node i node b false e))

  kept_else : (i : ℕ) → side' (kept_slot i) ≡ sent (kept_slot i)
  kept_else i = at_else' (kept_slot i) (λ e. slot_not_kept node i true (sym e))
      (λ e. slot_not_kept node i false (sym e))

  was_left : p.side left ≡ Made
  was_left = p.sided.alone node true untagged

  was_right : p.side right ≡ Made
  was_right = p.sided.alone node false untagged

  -- by whether a slot is one of the two new sides
  by_slot : (k : ℕ) (F : Type 0) → (k ≡ left → F) → (k ≡ right → F) → (k ≢ left → k ≢ right → F) → F
  by_slot k F a b c = dite (ℕ_discrete k left) a (λ n. dite (ℕ_discrete k right) b (λ m. c n m))

  same_kept : (i k : ℕ) → one_same (Kept i) (side' k) ≡ one_same (Kept i) (sent k)
  same_kept i k = by_slot k (one_same (Kept i) (side' k) ≡ one_same (Kept i) (sent k))
      (λ e. ap (one_same (Kept i)) (ap side' e ∙ at_left)
      ∙ sym (ap (one_same (Kept i)) (ap sent e ∙ made_sent left was_left)))
      (λ e. ap (one_same (Kept i)) (ap side' e ∙ at_right)
      ∙ sym (ap (one_same (Kept i)) (ap sent e ∙ made_sent right was_right)))
      (λ n m. ap (one_same (Kept i)) (at_else' k n m))

  else_held : (a k : ℕ) → a ≢ id → one_same (Held a) (side' k) ≡ one_same (Held a) (p.side k)
  else_held a k n = by_slot k (one_same (Held a) (side' k) ≡ one_same (Held a) (p.side k))
      (λ e. ap (one_same (Held a)) (ap side' e ∙ at_left) ∙ one_held a id n
      ∙ sym (ap (one_same (Held a)) (ap p.side e ∙ was_left)))
      (λ e. ap (one_same (Held a)) (ap side' e ∙ at_right) ∙ one_held a id n
      ∙ sym (ap (one_same (Held a)) (ap p.side e ∙ was_right)))
      (λ x y. ap (one_same (Held a)) (at_else' k x y) ∙ else_moved p.side l id (Kept node) in_l once a n refl k)

  my_sides : (k : ℕ) → count k v.sides ≡ one_same (Held id) (p.side k)
  my_sides = plain.my_sides fits tag_of place_of nodes s g r p id v at

  own_held : (k : ℕ) → count k w.sides ≡ one_same (Held id) (side' k)
  own_held k =
      let rest = rest_moved p.side l id (Kept node) in_l once v.sides my_sides refl k in
      let h = self_held id in by_slot k (count k w.sides ≡ one_same (Held id) (side' k))
      (λ e. let a = ap (one_same (Held id)) (ap side' e ∙ at_left) in
      let b = ap (one_same (Held id)) (ap sent e ∙ made_sent left was_left) in
      let c : one_at k left ≡ 1 = ap (λ j. one_at j left) e ∙ at_here left in
      let d = at_else k right (λ q. absurd (omega arith)) in omega arith)
      (λ e. let a = ap (one_same (Held id)) (ap side' e ∙ at_right) in
      let b = ap (one_same (Held id)) (ap sent e ∙ made_sent right was_right) in
      let c : one_at k right ≡ 1 = ap (λ j. one_at j right) e ∙ at_here right in
      let d = at_else k left (λ q. absurd (omega arith)) in omega arith)
      (λ n m. let a = ap (one_same (Held id)) (at_else' k n m) in let c = at_else k left (λ q. n (sym q)) in
      let d = at_else k right (λ q. m (sym q)) in omega arith)

  arr : ℕ → List Arrival
  arr = arming.arr nodes s g r id v at node 1 onward drew small have

  not_tagged : (i : ℕ) (t : T) → tag' i ≡ Some t → i ≢ node → p.tag i ≡ Some t
  not_tagged i t e n = sym (upd_else p.tag node (Some tg) i n) ∙ e

  both' : (i : ℕ) (t : T) → tag' i ≡ Some t → (f : Arrival → ℕ)
      → total f (arming.arr nodes s g r id v at node 1 onward drew small have i)
      ≡ f (side' (left_slot i)) + f (side' (right_slot i))
  both' i t e f = dite (ℕ_discrete i node)
      (λ h. subst (λ j. total f (arming.arr nodes s g r id v at node 1 onward drew small have j)
      ≡ f (side' (left_slot j)) + f (side' (right_slot j))) (sym h)
      (let keep : List Arrival = rename (count node onward) (Held id) (Kept node) (g.arrivals node) in
      let bare : keep ≡ [] = ap (rename (count node onward) (Held id) (Kept node))
      (r.running.bare node claimed.0 claimed.3) ∙ rename-nil (count node onward) (Held id) (Kept node) in
      let a : total f (keep ++ cond (eqb node node) (copies 2 (Held id)) []) ≡ total f ([] ++ copies 2 (Held id)) =
      (λ q. total f (bare q ++ ap (λ b. cond b (copies 2 (Held id)) []) (here node) q)) in
      let x = ap f at_left in let y = ap f at_right in a ∙ omega arith))
      (λ n. armed.both_sent fits tag_of place_of nodes s g r p id v at node 1 onward drew small have one_side i t
      (not_tagged i t e n) f
      ∙ (λ k. f (sym (slot_else i true n) k) + f (sym (slot_else i false n) k)))
    where
      rename-nil : (k : ℕ) (x y : Arrival) → rename k x y [] ≡ []
      rename-nil zero x y = refl
      rename-nil (suc k) x y = refl

  abbrev pub armed' : ℕ → Bool
  armed' = upd g.armed node true

  armed_still : (i : ℕ) → g.armed i ≡ true → armed' i ≡ true
  armed_still = armed.armed_still fits tag_of place_of nodes s g r p id v at node 1 onward drew small have one_side

  not_armed : (i : ℕ) → armed' i ≡ false → (i ≢ node) × (g.armed i ≡ false)
  not_armed = armed.not_armed fits tag_of place_of nodes s g r p id v at node 1 onward drew small have one_side

  armed_else : (i : ℕ) → g.armed i ≡ true → i ≢ node
  armed_else i e h = true≢false (sym e ∙ ap g.armed h ∙ claimed.3)

  tagged_still : (i : ℕ) (t : T) → p.tag i ≡ Some t → tag' i ≡ Some t
  tagged_still i t e = upd_else p.tag node (Some tg) i (not_node i t e) ∙ e

  -- a note in front of the others
  in_front : {A : Type 0} (q : View T → List (ℕ × A)) (x : A) → q w ≡ (node, x) ∷ q v → (a i : ℕ) (y : A)
      → note_of i (q (view_at views' a)) ≡ Some y
      → ((i ≡ node) × (y ≡ x) × (a ≡ id)) ⊎ (note_of i (q (view_at s.views a)) ≡ Some y)
  in_front q x is a i y e = dite (ℕ_discrete a id)
      (λ h.
      let f : cond (eqb node i) (Some x) (note_of i (q v)) ≡ Some y =
      sym (ap (note_of i) is) ∙ ap (λ (u : View T). note_of i (q u)) (sym (here_is s.views id v at w))
      ∙ ap (λ b. note_of i (q (view_at views' b))) (sym h) ∙ e in
      dite (ℕ_discrete node i)
      (λ z. inl (sym z, some_is y x (sym f ∙ ap (λ b. cond b (Some x) (note_of i (q v))) (eq-eqb node i z)), h))
      (λ m. inr (ap (λ b. note_of i (q (view_at s.views b))) h
      ∙ ap (λ (u : View T). note_of i (q u)) (mine s.views id v at)
      ∙ sym (ap (λ b. cond b (Some x) (note_of i (q v))) (ne_eqb node i m)) ∙ f)))
      (λ n. inr (sym (ap (λ (u : View T). note_of i (q u)) (else_is s.views id v at w a n)) ∙ e))

  abbrev pub homes' : List (mc.Option (Option (Slot V K)))
  homes' = set s.homes (kept_slot node) (some (Some (KeptValue kept)))

  home_else : (k : ℕ) → k ≢ kept_slot node → get_elem? homes' k ≡ get_elem? s.homes k
  home_else k n = set_else s.homes (kept_slot node) k (some (Some (KeptValue kept))) n

  low : node ≤ nodes
  low = let c = claimed.1 in let d = r.counting.draws in omega arith

  my_taken : (k : ℕ) → k ≢ kept_slot node → count k v.taken ≡ 0
  my_taken k n = let a = ap (count k) out in let b = at_else k (kept_slot node) (λ e. n (sym e)) in omega arith

  -- what is out after it was out before, with another seat
  taken_before : (a k : ℕ) → 0 < count k (view_at views' a).taken → (a ≢ id) × (0 < count k (view_at s.views a).taken)
  taken_before a k h = dite (ℕ_discrete a id)
      (λ e. let z : count k (view_at views' a).taken ≡ 0 =
      ap (λ (u : View T). count k u.taken) (ap (view_at views') e ∙ here_is s.views id v at w) in
      absurd (omega arith))
      (λ n. (n, subst (λ j. 0 < j) (ap (λ (u : View T). count k u.taken) (else_is s.views id v at w a n)) h))

  none_before : (k : ℕ) → k ≢ kept_slot node → ((a : ℕ) → count k (view_at views' a).taken ≡ 0) → (a : ℕ)
      → count k (view_at s.views a).taken ≡ 0
  none_before k n all a = dite (ℕ_discrete a id)
      (λ e. ap (λ (u : View T). count k u.taken) (ap (view_at s.views) e ∙ mine s.views id v at) ∙ my_taken k n)
      (λ m. sym (ap (λ (u : View T). count k u.taken) (else_is s.views id v at w a m)) ∙ all a)

  room_there : kept_slot node < length s.homes
  room_there = let a = p.slotted.room in let b = low in omega arith

  abbrev pub KeptFull : ℕ → T → Type 0
  KeptFull i t = (k : K) × (get_elem? homes' (kept_slot i) ≡ some (some (Some (KeptValue k)))) × (tag_of k ≡ t)
      × ((pl : Place T) → place_of k ≡ Some pl
      → (tag' pl.node ≡ Some pl.tag) × ((j : ℕ) → kept_at i j views' ≡ count j (pl.node ∷ []))
      × ((j : ℕ) → side_kept_at i j views' ≡ count j (slot_of pl.node pl.side ∷ [])) × (pl.node < i))
      × ((a : ℕ) (q : Option (ℕ × (ℕ × (ℕ × T)))) → note_of i (view_at views' a).places ≡ Some q
      → noted_place (place_of k) ≡ q)

  new_kept : (i : ℕ) (t : T) → tag' i ≡ Some t → i ≡ node → KeptFull i t
  new_kept i t e h = subst (λ j. KeptFull j t) (sym h) (
    kept,
    set_here s.homes (kept_slot node) (some (Some (KeptValue kept))) room_there,
    some_is tg t (sym (upd_here p.tag node (Some tg)) ∙ ap tag' (sym h) ∙ e),
    (λ pl z. let y = placed pl z in (
      tagged_still pl.node pl.tag (p.noting.tags id pl.node pl.tag
          (ap (λ (u : View T). note_of pl.node u.tags) (mine s.views id v at) ∙ y.2)),
      (λ j. armed.kept_mine fits tag_of place_of nodes s g r p id v at node 1 onward drew small have one_side w refl
          refl j ∙ ap (count j) y.0),
      (λ j. armed.keep_mine fits tag_of place_of nodes s g r p id v at node 1 onward drew small have one_side w refl
          refl j ∙ y.1 j),
      lower pl.node (let b = ap (count pl.node) y.0 in let c = at_here pl.node in omega arith),
    )),
    λ a q z. ⊎_elim
        (λ (x : (node ≡ node) × (q ≡ noted_place (place_of kept)) × (a ≡ id)). sym x.1)
        (λ x. absurd (true≢false (sym (p.noting.placed a node q x) ∙ claimed.3)))
        (in_front (λ u. u.places) (noted_place (place_of kept)) refl a node q z),
  )

  old_kept : (i : ℕ) (t : T) → tag' i ≡ Some t → g.ran i ≡ false → i ≢ node → KeptFull i t
  old_kept i t e q n =
      let f = p.slotted.kept_full i t (not_tagged i t e n) q in (
        f.0,
        home_else (kept_slot i) (λ h. n (omega arith)) ∙ f.1,
        f.2,
        (λ pl z. let y = f.3 pl z in (
          tagged_still pl.node pl.tag y.0,
          (λ j. armed.kept_same fits tag_of place_of nodes s g r p id v at node 1 onward drew small have one_side w refl
              refl i j n ∙ y.1 j),
          (λ j. armed.keep_same fits tag_of place_of nodes s g r p id v at node 1 onward drew small have one_side w refl
              refl i j n ∙ y.2 j),
          y.3,
        )),
        λ a x z. ⊎_elim
            (λ (y : (i ≡ node) × (x ≡ noted_place (place_of kept)) × (a ≡ id)). absurd (n y.0))
            (λ y. f.4 a x y)
            (in_front (λ u. u.places) (noted_place (place_of kept)) refl a i x z),
      )

  pub pairs_sides : Pairing fits tag_of place_of nodes homes' views'
      (arming.arr nodes s g r id v at node 1 onward drew small have) armed' g.ran
  pairs_sides = record {
    tag = tag';
    side = side';
    sided = record {
      pairs = λ i t e. dite (ℕ_discrete i node) (λ h. ap armed' h ∙ upd_here g.armed node true)
          (λ n. armed_still i (p.sided.pairs i t (not_tagged i t e n)));
      both = both';
      alone = λ i b e. dite (ℕ_discrete i node)
          (λ h. absurd (none_some tg (sym e ∙ ap tag' h ∙ upd_here p.tag node (Some tg))))
          (λ n. slot_else i b n ∙ made_sent (side_slot i b)
          (p.sided.alone i b (sym (upd_else p.tag node (Some tg) i n) ∙ e)));
      never = λ i. kept_else i ∙ made_sent (kept_slot i) (p.sided.never i);
    };
    mine = λ a k. dite (ℕ_discrete a id)
        (λ e. ap (λ (u : View T). count k u.sides) (ap (view_at views') e ∙ here_is s.views id v at w) ∙ own_held k
        ∙ ap (λ b. one_same (Held b) (side' k)) (sym e))
        (λ n. ap (λ (u : View T). count k u.sides) (else_is s.views id v at w a n) ∙ p.mine a k
        ∙ sym (else_held a k n));
    keeping = armed.side_keeping fits tag_of place_of nodes s g r p id v at node 1 onward drew small have one_side w
        refl refl side' same_kept;
    noting = record {
      noted = armed.noted_sides fits tag_of place_of nodes s g r p id v at node 1 onward drew small have one_side w refl
          refl refl;
      tags = λ a i t e. ⊎_elim
          (λ (z : (i ≡ node) × (t ≡ tg) × (a ≡ id)). ap tag' z.0 ∙ upd_here p.tag node (Some tg) ∙ ap Some (sym z.1))
          (λ z. tagged_still i t (p.noting.tags a i t z))
          (in_front (λ u. u.tags) tg refl a i t e);
      placed = λ a i q e. ⊎_elim
          (λ (z : (i ≡ node) × (q ≡ noted_place (place_of kept)) × (a ≡ id)). ap armed' z.0
          ∙ upd_here g.armed node true)
          (λ z. armed_still i (p.noting.placed a i q z))
          (in_front (λ u. u.places) (noted_place (place_of kept)) refl a i q e);
    };
    slotted = record {
      room = length-set s.homes (kept_slot node) (some (Some (KeptValue kept))) ∙ p.slotted.room;
      once = λ a k. dite (ℕ_discrete a id)
          (λ e. let z : count k (view_at views' a).taken ≡ 0 =
          ap (λ (u : View T). count k u.taken) (ap (view_at views') e ∙ here_is s.views id v at w) in omega arith)
          (λ n. subst (λ j. j ≤ 1) (sym (ap (λ (u : View T). count k u.taken) (else_is s.views id v at w a n)))
          (p.slotted.once a k));
      out = λ a i b h. let q = taken_before a (side_slot i b) h in let was = p.slotted.out a i b q.1 in
          dite (ℕ_discrete i node)
          (λ e. absurd (held_not_made a (p.side (side_slot i b)) was
          (ap (λ j. p.side (side_slot j b)) e ∙ p.sided.alone node b untagged)))
          (λ n. slot_else i b n ∙ moved_out p.side l id (Kept node) in_l once (side_slot i b)
          (dite (ℕ_discrete (count (side_slot i b) l) 0) (λ z. z)
          (λ m. absurd (q.0 (held_is a id
          (ap (one_same (Held a)) (sym (in_l (side_slot i b) (omega arith)) ∙ was) ∙ self_held a))))) ∙ was);
      out_kept = λ a i h. let q = taken_before a (kept_slot i) h in
          subst (λ (u : View T). 0 < count i u.claims) (sym (else_is s.views id v at w a q.0))
          (p.slotted.out_kept a i q.1);
      empty = λ i b lo m all. home_else (side_slot i b) (slot_not_kept i node b) ∙ p.slotted.empty i b lo
          (λ z. dite (ℕ_discrete i node) (λ h. ap p.tag h ∙ untagged)
          (λ n. sym (upd_else p.tag node (Some tg) i n) ∙ m (slot_else i b n ∙ made_sent (side_slot i b) z)))
          (none_before (side_slot i b) (slot_not_kept i node b) all);
      full = λ i b t e q m. dite (ℕ_discrete i node)
          (λ h. absurd (held_not_made id (Held id) refl (sym (ap (λ j. side' (side_slot j b)) h ∙ at_slot b) ∙ m)))
          (λ n. let f = p.slotted.full i b t (not_tagged i t e n) q
          (sent_made (side_slot i b) (sym (slot_else i b n) ∙ m)) in
          (f.0, home_else (side_slot i b) (slot_not_kept i node b) ∙ f.1, f.2));
      kept_empty = λ i pos lo e all. let n = not_armed i e in
          let apart : kept_slot i ≢ kept_slot node = (λ h. n.0 (omega arith)) in
          home_else (kept_slot i) apart ∙ p.slotted.kept_empty i pos lo n.1 (none_before (kept_slot i) apart all);
      kept_full = λ i t e q. dite (ℕ_discrete i node)
          (λ h. new_kept i t e h)
          (λ n. old_kept i t e q n);
    };
  }
