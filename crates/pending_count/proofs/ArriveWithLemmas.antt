-- A seat arrives at a pair with a value: its slot goes home, or the other side's and the kept value's come to it.
use Rattle.std.proofs.Common.{◌≡◌, ◌≢◌, ℕ, ◌+◌, ◌*◌, ◌<◌, ◌≤◌, not, Bool, true, false, List, [], ◌∷◌, ◌++◌, length, set}
use Rattle.std.proofs.Common.{sym, refl, ap, ◌∙◌, subst, arith, true≢false, length-set, Option, Some, None, ◌⊎◌, ⊎_elim}
use mathlib.Core.Logic.{dite}
use mathlib.Core.Option.{none, some}
use mathlib.Core.Option as mc
use native.Mathlib.Decide.{ℕ_discrete}
use lib.ListN.{get_elem?}
use Rattle.atomic_table.specs.Table.{State}
use Rattle.atomic_table.proofs.Lists.{set_here, set_else}
use Rattle.completion_core.specs.Graph.{Arrival, Made, Held, Kept, one_same, not_made, total, amount, left, Graph}
use Rattle.completion_core.specs.Legal.{rename, only_at, count, upd}
use Rattle.pending_count.specs.declared.view.View.{View}
use Rattle.pending_count.specs.declared.place.Side.{Side}
use Rattle.pending_count.specs.declared.place.Place.{Place}
use Rattle.pending_count.specs.declared.place.Slot.{Slot}
use Rattle.pending_count.specs.declared.place.Slot.TheVariants.{Value, Kept as KeptValue}
use Rattle.pending_count.specs.Views.{left_slot, right_slot, kept_slot, view_at, names, keeps_at, note_of, less}
use Rattle.pending_count.specs.Views.{given_by_all, sides_given_by_all, handed_view, closed_view}
use Rattle.pending_count.specs.Shows.{Shows, kept_at}
use Rattle.pending_count.specs.Pairs.{side_slot, side_of, slot_of, noted_place, side_kept_at, Pairing}
use Rattle.pending_count.proofs.SumLemmas.{one_at, total-append, total-rename, self_held, one_held, one_kept, at_here}
use Rattle.pending_count.proofs.SumLemmas.{at_else, some_is, upd_here, upd_else}
use Rattle.pending_count.proofs.RuleLemmas.{mine, here_is, else_is, stays, sum_stays}
use Rattle.pending_count.proofs.SideRuleLemmas.{none_some, one_is, held_is, held_not_made, slot_node, slot_bool}
use Rattle.pending_count.proofs.SideRuleLemmas.{slot_not_kept, slot_other, keeping_as, noting_as}
use Rattle.pending_count.proofs.ChangedHandsLemmas.{turn, turn_is, all_turned, moved, moved_out, moved_in, both_moved}
use Rattle.pending_count.proofs.ChangedHandsLemmas.{else_moved, rest_moved, count-sides_given}
use Rattle.pending_count.proofs.ArrivalLemmas as arrivals
use Rattle.pending_count.proofs.PlainSideLemmas as plain

module _ {V K T : Type 0} (fits : T → Side → V → Type 0) (tag_of : K → T) (place_of : K → Option (Place T)) (nodes : ℕ)
    (s : State (Option (Slot V K)) (View T)) (g : Graph) (r : Shows nodes s g)
    (p : Pairing fits tag_of place_of nodes s.homes s.views g.arrivals g.armed g.ran) (id : ℕ) (v : View T)
    (at : get_elem? s.views id ≡ some v)
    (node : ℕ) (b : Bool) (have : 0 < count node v.held) (holds : 0 < count (side_slot node b) v.sides)
    (out : v.taken ≡ side_slot node b ∷ []) (tg : T) (tagged : p.tag node ≡ Some tg) where
  abbrev pub t : ℕ
  t = side_slot node b

  my_sides : (k : ℕ) → count k v.sides ≡ one_same (Held id) (p.side k)
  my_sides = plain.my_sides fits tag_of place_of nodes s g r p id v at

  pub mine_is : p.side t ≡ Held id
  mine_is = let m = my_sides t in sym (one_is (Held id) (p.side t) (omega arith))

  pub in_l : (k : ℕ) → 0 < count k (t ∷ []) → p.side k ≡ Held id
  in_l k h = dite (ℕ_discrete k t) (λ e. ap p.side e ∙ mine_is)
      (λ n. let z = at_else k t (λ e. n (sym e)) in absurd (omega arith))

  pub once : (k : ℕ) → count k (t ∷ []) ≤ 1
  once k = dite (ℕ_discrete k t) (λ e. let z : one_at k t ≡ 1 = ap (λ j. one_at j t) e ∙ at_here t in omega arith)
      (λ n. let z = at_else k t (λ e. n (sym e)) in omega arith)

  abbrev pub made : ℕ → Arrival
  made = moved p.side (t ∷ []) id Made in_l once

  made_here : made t ≡ Made
  made_here = moved_in p.side (t ∷ []) id Made in_l once t (let z = at_here t in omega arith)

  made_else : (k : ℕ) → k ≢ t → made k ≡ p.side k
  made_else k n = moved_out p.side (t ∷ []) id Made in_l once k (let z = at_else k t (λ e. n (sym e)) in omega arith)

  pub armed_there : g.armed node ≡ true
  armed_there = p.sided.pairs node tg tagged

  pub above : (0 < node) × (node ≤ nodes)
  above = let q = r.running.below node armed_there in let c = q.1 in let d = r.counting.draws in (q.0, omega arith)

  still : g.ran node ≡ false
  still = arrivals.still nodes s g r id v at node have

  abbrev pub arr1 : ℕ → List Arrival
  arr1 = arrivals.arr1 nodes s g r id v at node have

  each : (i : ℕ) → only_at node 1 i ≡ count (left_slot i) (t ∷ []) + count (right_slot i) (t ∷ [])
  each i = dite (ℕ_discrete i node)
      (λ e. subst (λ j. only_at node 1 j ≡ count (left_slot j) (t ∷ []) + count (right_slot j) (t ∷ [])) (sym e)
      (here_at b))
      (λ n. let z = at_else node i n in let x = at_else (left_slot i) t (λ e. n (sym (slot_node node i b true e))) in
      let y = at_else (right_slot i) t (λ e. n (sym (slot_node node i b false e))) in omega arith)
    where
      here_at : (b : Bool) → only_at node 1 node
          ≡ count (left_slot node) (side_slot node b ∷ []) + count (right_slot node) (side_slot node b ∷ [])
      here_at true = let z = at_here node in let x = at_here (left_slot node) in
          let y = at_else (right_slot node) (left_slot node) (λ e. absurd (omega arith)) in omega arith
      here_at false = let z = at_here node in let x = at_here (right_slot node) in
          let y = at_else (left_slot node) (right_slot node) (λ e. absurd (omega arith)) in omega arith

  pub both1 : (i : ℕ) (tg' : T) → p.tag i ≡ Some tg' → (f : Arrival → ℕ)
      → total f (arr1 i) ≡ f (made (left_slot i)) + f (made (right_slot i))
  both1 i tg' e f = both_moved p.side (t ∷ []) id Made in_l once f (g.arrivals i)
      (rename (only_at node 1 i) (Held id) Made (g.arrivals i)) (only_at node 1 i) (left_slot i) (right_slot i)
      (total-rename f (only_at node 1 i) (Held id) Made (g.arrivals i) (arrivals.fit1 nodes s g r id v at node have i))
      (each i) (p.sided.both i tg' e f)

  kept_made : (i k : ℕ) → one_same (Kept i) (made k) ≡ one_same (Kept i) (p.side k)
  kept_made i k = dite (ℕ_discrete k t)
      (λ e. ap (one_same (Kept i)) (ap made e ∙ made_here) ∙ sym (ap (one_same (Kept i)) (ap p.side e ∙ mine_is)))
      (λ n. ap (one_same (Kept i)) (made_else k n))

  my_taken : (k : ℕ) → k ≢ t → count k v.taken ≡ 0
  my_taken k n = let a = ap (count k) out in let z = at_else k t (λ e. n (sym e)) in omega arith

  less_is : (k : ℕ) → count k (less t v.sides) ≡ one_same (Held id) (made k)
  less_is k = rest_moved p.side (t ∷ []) id Made in_l once v.sides my_sides refl k

  side_not_t : (i : ℕ) (c : Bool) → i ≢ node → side_slot i c ≢ t
  side_not_t i c n e = n (slot_node i node c b e)

  -- where the other side is still owed, the value goes home with its slot
  module _ (x : V) (ok : fits tg (side_of b) x) where
    abbrev w : View T
    w = handed_view node t v

    abbrev views1 : List (View T)
    views1 = set s.views id w

    abbrev homes1 : List (mc.Option (Option (Slot V K)))
    homes1 = set s.homes t (some (Some (Value x)))

    home_else : (k : ℕ) → k ≢ t → get_elem? homes1 k ≡ get_elem? s.homes k
    home_else k n = set_else s.homes t k (some (Some (Value x))) n

    side_sums : (i k : ℕ) → side_kept_at i k views1 ≡ side_kept_at i k s.views
    side_sums i k = sum_stays s.views id v at (λ u. total (keeps_at i k) u.armed_sides) w refl

    taken_before : (a k : ℕ) → 0 < count k (view_at views1 a).taken → (a ≢ id) × (0 < count k (view_at s.views a).taken)
    taken_before a k h = dite (ℕ_discrete a id)
        (λ e. let z : count k (view_at views1 a).taken ≡ 0 =
        ap (λ (u : View T). count k u.taken) (ap (view_at views1) e ∙ here_is s.views id v at w) in
        absurd (omega arith))
        (λ n. (n, subst (λ j. 0 < j) (ap (λ (u : View T). count k u.taken) (else_is s.views id v at w a n)) h))

    none_before : (k : ℕ) → k ≢ t → ((a : ℕ) → count k (view_at views1 a).taken ≡ 0) → (a : ℕ)
        → count k (view_at s.views a).taken ≡ 0
    none_before k n all a = dite (ℕ_discrete a id)
        (λ e. ap (λ (u : View T). count k u.taken) (ap (view_at s.views) e ∙ mine s.views id v at) ∙ my_taken k n)
        (λ m. sym (ap (λ (u : View T). count k u.taken) (else_is s.views id v at w a m)) ∙ all a)

    room_there : t < length s.homes
    room_there = let a = p.slotted.room in slot_low b a
      where
        slot_low : (b : Bool) → length s.homes ≡ 3 * (nodes + 1) → side_slot node b < length s.homes
        slot_low true a = let c = above.1 in omega arith
        slot_low false a = let c = above.1 in omega arith

    pub gives_side : Pairing fits tag_of place_of nodes homes1 views1 arr1 g.armed g.ran
    gives_side = record {
      tag = p.tag;
      side = made;
      sided = record {
        pairs = p.sided.pairs;
        both = both1;
        alone = λ i c e. dite (ℕ_discrete (side_slot i c) t) (λ h. ap made h ∙ made_here)
            (λ n. made_else (side_slot i c) n ∙ p.sided.alone i c e);
        never = λ i. made_else (kept_slot i) (λ e. slot_not_kept node i b (sym e)) ∙ p.sided.never i;
      };
      mine = λ a k. dite (ℕ_discrete a id)
          (λ e. ap (λ (u : View T). count k u.sides) (ap (view_at views1) e ∙ here_is s.views id v at w) ∙ less_is k
          ∙ ap (λ c. one_same (Held c) (made k)) (sym e))
          (λ n. ap (λ (u : View T). count k u.sides) (else_is s.views id v at w a n) ∙ p.mine a k
          ∙ sym (else_moved p.side (t ∷ []) id Made in_l once a n refl k));
      keeping = keeping_as s.views views1 made
          (λ i. sum_stays s.views id v at (λ u. total (names i) u.armed_sides) w refl) side_sums kept_made p.keeping;
      noting = noting_as s.views views1
          (λ a i l e. (a, sym (stays s.views id v at (λ u. note_of i u.noted_sides) w refl a) ∙ e))
          (λ a i c e. (a, sym (stays s.views id v at (λ u. note_of i u.tags) w refl a) ∙ e))
          (λ a i q e. (a, sym (stays s.views id v at (λ u. note_of i u.places) w refl a) ∙ e))
          side_sums p.noting;
      slotted = record {
        room = length-set s.homes t (some (Some (Value x))) ∙ p.slotted.room;
        once = λ a k. dite (ℕ_discrete a id)
            (λ e. let z : count k (view_at views1 a).taken ≡ 0 =
            ap (λ (u : View T). count k u.taken) (ap (view_at views1) e ∙ here_is s.views id v at w) in omega arith)
            (λ n. subst (λ j. j ≤ 1) (sym (ap (λ (u : View T). count k u.taken) (else_is s.views id v at w a n)))
            (p.slotted.once a k));
        out = λ a i c h. let q = taken_before a (side_slot i c) h in let was = p.slotted.out a i c q.1 in
            made_else (side_slot i c) (λ e. q.0
            (held_is a id (ap (one_same (Held a)) (sym (ap p.side e ∙ mine_is) ∙ was) ∙ self_held a))) ∙ was;
        out_kept = λ a i h. let q = taken_before a (kept_slot i) h in
            subst (λ (u : View T). 0 < count i u.claims) (sym (else_is s.views id v at w a q.0))
            (p.slotted.out_kept a i q.1);
        empty = λ i c lo m all. dite (ℕ_discrete (side_slot i c) t)
            (λ e. absurd (none_some tg (sym (m (ap made e ∙ made_here)) ∙ ap p.tag (slot_node i node c b e) ∙ tagged)))
            (λ n. home_else (side_slot i c) n
            ∙ p.slotted.empty i c lo (λ z. m (made_else (side_slot i c) n ∙ z))
            (none_before (side_slot i c) n all));
        full = λ i c tg' e q m. dite (ℕ_discrete (side_slot i c) t)
            (λ h. (
              x,
              ap (get_elem? homes1) h ∙ set_here s.homes t (some (Some (Value x))) room_there,
              subst (λ (z : T × Bool). fits z.0 (side_of z.1) x)
                  (λ k. (
                    some_is tg tg' (sym tagged ∙ ap p.tag (sym (slot_node i node c b h)) ∙ e) k,
                    sym (slot_bool i node c b h) k,
                  )) ok,
            ))
            (λ n. let f = p.slotted.full i c tg' e q (sym (made_else (side_slot i c) n) ∙ m) in
            (f.0, home_else (side_slot i c) n ∙ f.1, f.2));
        kept_empty = λ i pos lo e all. let n : kept_slot i ≢ t = (λ h. slot_not_kept node i b (sym h)) in
            home_else (kept_slot i) n ∙ p.slotted.kept_empty i pos lo e (none_before (kept_slot i) n all);
        kept_full = λ i tg' e q. let f = p.slotted.kept_full i tg' e q in
            let n : kept_slot i ≢ t = (λ h. slot_not_kept node i b (sym h)) in (
              f.0,
              home_else (kept_slot i) n ∙ f.1,
              f.2,
              (λ pl z. let y = f.3 pl z in (
                y.0,
                (λ j. sum_stays s.views id v at (λ u. total (keeps_at i j) u.armed) w refl ∙ y.1 j),
                (λ j. side_sums i j ∙ y.2 j),
                y.3,
              )),
              λ a pl z. f.4 a pl (sym (stays s.views id v at (λ u. note_of i u.places) w refl a) ∙ z),
            );
      };
    }

  -- where none is left, the other side's value and the kept one come to the seat
  abbrev o : ℕ
  o = side_slot node (not b)

  module _ (none_left : left (arr1 node) ≡ 0) where
    other_made : p.side o ≡ Made
    other_made = sym (made_else o (slot_other node b))
        ∙ is_made (made o) (let h = both1 node tg tagged not_made in whichever b h none_left)
      where
        is_made : (z : Arrival) → not_made z ≡ 0 → z ≡ Made
        is_made Made e = refl
        is_made (Held a) e = absurd (omega arith)
        is_made (Kept a) e = absurd (omega arith)

        whichever : (b : Bool) → total not_made (arr1 node)
            ≡ not_made (made (left_slot node)) + not_made (made (right_slot node)) → left (arr1 node) ≡ 0
            → not_made (made (side_slot node (not b))) ≡ 0
        whichever true h z = omega arith
        whichever false h z = omega arith

    pub other_value : (y : V) × (get_elem? s.homes o ≡ some (some (Some (Value y)))) × fits tg (side_of (not b)) y
    other_value = p.slotted.full node (not b) tg tagged still other_made

    pub kept_value : (k : K) × (get_elem? s.homes (kept_slot node) ≡ some (some (Some (KeptValue k)))) × (tag_of k ≡ tg)
        × ((pl : Place T) → place_of k ≡ Some pl
        → (p.tag pl.node ≡ Some pl.tag) × ((j : ℕ) → kept_at node j s.views ≡ count j (pl.node ∷ []))
        × ((j : ℕ) → side_kept_at node j s.views ≡ count j (slot_of pl.node pl.side ∷ [])) × (pl.node < node))
        × ((a : ℕ) (q : Option (ℕ × (ℕ × (ℕ × T)))) → note_of node (view_at s.views a).places ≡ Some q
        → noted_place (place_of k) ≡ q)
    kept_value = p.slotted.kept_full node tg tagged still

    abbrev kept_sides : List ℕ
    kept_sides = sides_given_by_all node s.views

    abbrev turned : ℕ → Arrival
    turned k = turn (Kept node) (Held id) (made k)

    abbrev ran2 : ℕ → Bool
    ran2 = upd g.ran node true

    given_is : (k : ℕ) → count k kept_sides ≡ one_same (Kept node) (made k)
    given_is k = count-sides_given node k s.views ∙ sym (p.keeping.keeping node k still) ∙ sym (kept_made node k)

    case : (k : ℕ) → ((one_same (Kept node) (made k) ≡ 1) × (made k ≡ Kept node) × (turned k ≡ Held id))
        ⊎ ((one_same (Kept node) (made k) ≡ 0) × (turned k ≡ made k))
    case k = turn_is (Kept node) (Held id) (made k)

    own_turned : (k : ℕ) → count k (kept_sides ++ less t v.sides) ≡ one_same (Held id) (turned k)
    own_turned k = let a = total-append (one_at k) kept_sides (less t v.sides) in let c = given_is k in
        let d = less_is k in ⊎_elim
        (λ (z : (one_same (Kept node) (made k) ≡ 1) × (made k ≡ Kept node) × (turned k ≡ Held id)). let e = z.0 in
        let f : one_same (Held id) (made k) ≡ 0 = ap (one_same (Held id)) z.1 in
        let h : one_same (Held id) (turned k) ≡ 1 = ap (one_same (Held id)) z.2 ∙ self_held id in omega arith)
        (λ (z : (one_same (Kept node) (made k) ≡ 0) × (turned k ≡ made k)). let e = z.0 in
        let h = ap (one_same (Held id)) z.1 in omega arith)
        (case k)

    else_turned : (a k : ℕ) → a ≢ id → one_same (Held a) (turned k) ≡ one_same (Held a) (p.side k)
    else_turned a k n = ⊎_elim
        (λ (z : (one_same (Kept node) (made k) ≡ 1) × (made k ≡ Kept node) × (turned k ≡ Held id)). ap
        (one_same (Held a)) z.2 ∙ one_held a id n ∙ sym (ap (one_same (Held a)) z.1))
        (λ (z : (one_same (Kept node) (made k) ≡ 0) × (turned k ≡ made k)). ap (one_same (Held a)) z.1)
        (case k) ∙ else_moved p.side (t ∷ []) id Made in_l once a n refl k

    kept_turned : (i k : ℕ) → i ≢ node → one_same (Kept i) (turned k) ≡ one_same (Kept i) (p.side k)
    kept_turned i k n = ⊎_elim
        (λ (z : (one_same (Kept node) (made k) ≡ 1) × (made k ≡ Kept node) × (turned k ≡ Held id)). ap
        (one_same (Kept i)) z.2 ∙ sym (ap (one_same (Kept i)) z.1 ∙ one_kept i node n))
        (λ (z : (one_same (Kept node) (made k) ≡ 0) × (turned k ≡ made k)). ap (one_same (Kept i)) z.1)
        (case k) ∙ kept_made i k

    none_turned : (k : ℕ) → one_same (Kept node) (turned k) ≡ 0
    none_turned k = ⊎_elim
        (λ (z : (one_same (Kept node) (made k) ≡ 1) × (made k ≡ Kept node) × (turned k ≡ Held id)). ap
        (one_same (Kept node)) z.2)
        (λ (z : (one_same (Kept node) (made k) ≡ 0) × (turned k ≡ made k)). ap (one_same (Kept node)) z.1 ∙ z.0)
        (case k)

    not_ran : (i : ℕ) → ran2 i ≡ false → (i ≢ node) × (g.ran i ≡ false)
    not_ran i e = dite (ℕ_discrete i node)
        (λ h. absurd (true≢false (sym (upd_here g.ran node true) ∙ ap ran2 (sym h) ∙ e)))
        (λ n. (n, sym (upd_else g.ran node true i n) ∙ e))

    was_made : (k : ℕ) → k ≢ t → turned k ≡ Made → p.side k ≡ Made
    was_made k n m = ⊎_elim
        (λ (z : (one_same (Kept node) (made k) ≡ 1) × (made k ≡ Kept node) × (turned k ≡ Held id)). absurd
        (held_not_made id (Held id) refl (sym z.2 ∙ m)))
        (λ (z : (one_same (Kept node) (made k) ≡ 0) × (turned k ≡ made k)). sym (made_else k n) ∙ sym z.1 ∙ m)
        (case k)

    -- the tags that the seat knows from now on are the tags that it knew, and the tag of the place
    module _ (tags : List (ℕ × T)) (known : (i : ℕ) (c : T) → note_of i tags ≡ Some c → p.tag i ≡ Some c) where
      abbrev w2 : View T
      w2 = closed_view node t (given_by_all node s.views) kept_sides tags v

      abbrev views2 : List (View T)
      views2 = set s.views id w2

      abbrev homes2 : List (mc.Option (Option (Slot V K)))
      homes2 = set (set s.homes o none) (kept_slot node) none

      home_else2 : (k : ℕ) → k ≢ o → k ≢ kept_slot node → get_elem? homes2 k ≡ get_elem? s.homes k
      home_else2 k n m = set_else (set s.homes o none) (kept_slot node) k none m ∙ set_else s.homes o k none n

      side_sums2 : (i k : ℕ) → side_kept_at i k views2 ≡ side_kept_at i k s.views
      side_sums2 i k = sum_stays s.views id v at (λ u. total (keeps_at i k) u.armed_sides) w2 refl

      taken_before2 : (a k : ℕ) → 0 < count k (view_at views2 a).taken
          → (a ≢ id) × (0 < count k (view_at s.views a).taken)
      taken_before2 a k h = dite (ℕ_discrete a id)
          (λ e. let z : count k (view_at views2 a).taken ≡ 0 =
          ap (λ (u : View T). count k u.taken) (ap (view_at views2) e ∙ here_is s.views id v at w2) in
          absurd (omega arith))
          (λ n. (n, subst (λ j. 0 < j) (ap (λ (u : View T). count k u.taken) (else_is s.views id v at w2 a n)) h))

      none_before2 : (k : ℕ) → k ≢ t → ((a : ℕ) → count k (view_at views2 a).taken ≡ 0) → (a : ℕ)
          → count k (view_at s.views a).taken ≡ 0
      none_before2 k n all a = dite (ℕ_discrete a id)
          (λ e. ap (λ (u : View T). count k u.taken) (ap (view_at s.views) e ∙ mine s.views id v at) ∙ my_taken k n)
          (λ m. sym (ap (λ (u : View T). count k u.taken) (else_is s.views id v at w2 a m)) ∙ all a)

      -- a slot of the node that ran asks for nothing
      not_here : (i : ℕ) (c : Bool) → (turned (side_slot i c) ≡ Made → p.tag i ≡ None) → i ≢ node
      not_here i c m h = dite (ℕ_discrete (side_slot i c) t)
          (λ e. none_some tg (sym (m (ap turned e ∙ ap (turn (Kept node) (Held id)) made_here)) ∙ ap p.tag h ∙ tagged))
          (λ n. none_some tg (sym (m (ap (turn (Kept node) (Held id)) (made_else (side_slot i c) n ∙ at_other i c h n)))
          ∙ ap p.tag h ∙ tagged))
        where
          flip : (c b : Bool) → c ≢ b → c ≡ not b
          flip true true n = absurd (n refl)
          flip true false n = refl
          flip false true n = refl
          flip false false n = absurd (n refl)

          at_other : (i : ℕ) (c : Bool) → i ≡ node → side_slot i c ≢ t → p.side (side_slot i c) ≡ Made
          at_other i c h n = (λ q. p.side (side_slot (h q) (flip c b (λ e. n ((λ z. side_slot (h z) (e z)))) q)))
              ∙ other_made

      pub closes_side : Pairing fits tag_of place_of nodes homes2 views2 (arrivals.arr2 nodes s g r id v at node have)
          g.armed ran2
      closes_side = record {
        tag = p.tag;
        side = turned;
        sided = record {
          pairs = p.sided.pairs;
          both = λ i c e f. all_turned (Kept node) (Held id) f (amount (Kept node) (arr1 i)) (arr1 i) refl
              ∙ both1 i c e (λ z. f (turn (Kept node) (Held id) z));
          alone = λ i c e. ap (turn (Kept node) (Held id))
              (dite (ℕ_discrete (side_slot i c) t) (λ h. ap made h ∙ made_here)
              (λ n. made_else (side_slot i c) n ∙ p.sided.alone i c e));
          never = λ i. ap (turn (Kept node) (Held id))
              (made_else (kept_slot i) (λ e. slot_not_kept node i b (sym e)) ∙ p.sided.never i);
        };
        mine = λ a k. dite (ℕ_discrete a id)
            (λ e. ap (λ (u : View T). count k u.sides) (ap (view_at views2) e ∙ here_is s.views id v at w2)
            ∙ own_turned k ∙ ap (λ c. one_same (Held c) (turned k)) (sym e))
            (λ n. ap (λ (u : View T). count k u.sides) (else_is s.views id v at w2 a n) ∙ p.mine a k
            ∙ sym (else_turned a k n));
        keeping = record {
          records = λ i. sum_stays s.views id v at (λ u. total (names i) u.armed_sides) w2 refl ∙ p.keeping.records i;
          keeping = λ i k e. let n = not_ran i e in
              kept_turned i k n.0 ∙ p.keeping.keeping i k n.1 ∙ sym (side_sums2 i k);
          spent = λ i k e. dite (ℕ_discrete i node)
              (λ h. ap (λ j. one_same (Kept j) (turned k)) h ∙ none_turned k)
              (λ h. kept_turned i k h ∙ p.keeping.spent i k (sym (upd_else g.ran node true i h) ∙ e));
        };
        noting = record {
          noted = λ a i l e. let h = p.noting.noted a i l
              (sym (stays s.views id v at (λ u. note_of i u.noted_sides) w2 refl a) ∙ e) in
              (h.0, λ k. h.1 k ∙ sym (side_sums2 i k));
          tags = λ a i c e. dite (ℕ_discrete a id)
              (λ h. known i c (ap (λ (u : View T). note_of i u.tags)
              (sym (ap (view_at views2) h ∙ here_is s.views id v at w2)) ∙ e))
              (λ n. p.noting.tags a i c (sym (ap (λ (u : View T). note_of i u.tags) (else_is s.views id v at w2 a n))
              ∙ e));
          placed = λ a i q e. p.noting.placed a i q
              (sym (stays s.views id v at (λ u. note_of i u.places) w2 refl a) ∙ e);
        };
        slotted = record {
          room = length-set (set s.homes o none) (kept_slot node) none ∙ length-set s.homes o none ∙ p.slotted.room;
          once = λ a k. dite (ℕ_discrete a id)
              (λ e. let z : count k (view_at views2 a).taken ≡ 0 =
              ap (λ (u : View T). count k u.taken) (ap (view_at views2) e ∙ here_is s.views id v at w2) in
              omega arith)
              (λ n. subst (λ j. j ≤ 1) (sym (ap (λ (u : View T). count k u.taken) (else_is s.views id v at w2 a n)))
              (p.slotted.once a k));
          out = λ a i c h. let q = taken_before2 a (side_slot i c) h in let was = p.slotted.out a i c q.1 in
              ap (turn (Kept node) (Held id))
              (made_else (side_slot i c)
              (λ e. q.0 (held_is a id (ap (one_same (Held a)) (sym (ap p.side e ∙ mine_is) ∙ was) ∙ self_held a)))
              ∙ was);
          out_kept = λ a i h. let q = taken_before2 a (kept_slot i) h in
              subst (λ (u : View T). 0 < count i u.claims) (sym (else_is s.views id v at w2 a q.0))
              (p.slotted.out_kept a i q.1);
          empty = λ i c lo m all. let n = not_here i c m in
              home_else2 (side_slot i c) (λ e. n (slot_node i node c (not b) e)) (slot_not_kept i node c)
              ∙ p.slotted.empty i c lo
              (λ z. m (ap (turn (Kept node) (Held id)) (made_else (side_slot i c) (side_not_t i c n) ∙ z)))
              (none_before2 (side_slot i c) (side_not_t i c n) all);
          full = λ i c tg' e q m. let n = not_ran i q in
              let f = p.slotted.full i c tg' e n.1 (was_made (side_slot i c) (side_not_t i c n.0) m) in (
                f.0,
                home_else2 (side_slot i c) (λ h. n.0 (slot_node i node c (not b) h)) (slot_not_kept i node c) ∙ f.1,
                f.2,
              );
          kept_empty = λ i pos lo e all. let n : i ≢ node =
              (λ h. true≢false (sym armed_there ∙ ap g.armed (sym h) ∙ e)) in
              let m : kept_slot i ≢ t = (λ h. slot_not_kept node i b (sym h)) in
              home_else2 (kept_slot i) (λ h. slot_not_kept node i (not b) (sym h)) (λ h. n (omega arith))
              ∙ p.slotted.kept_empty i pos lo e (none_before2 (kept_slot i) m all);
          kept_full = λ i tg' e q. let n = not_ran i q in let f = p.slotted.kept_full i tg' e n.1 in (
            f.0,
            home_else2 (kept_slot i) (λ h. slot_not_kept node i (not b) (sym h)) (λ h. n.0 (omega arith)) ∙ f.1,
            f.2,
            (λ pl z. let y = f.3 pl z in (
              y.0,
              (λ j. sum_stays s.views id v at (λ u. total (keeps_at i j) u.armed) w2 refl ∙ y.1 j),
              (λ j. side_sums2 i j ∙ y.2 j),
              y.3,
            )),
            λ a pl z. f.4 a pl (sym (stays s.views id v at (λ u. note_of i u.places) w2 refl a) ∙ z),
          );
        };
      }
