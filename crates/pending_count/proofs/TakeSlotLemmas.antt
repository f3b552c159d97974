-- A seat takes an empty slot: of a side that it holds, or of what a node that it drew is to keep.
use Rattle.std.proofs.Common.{◌≡◌, ◌≢◌, ℕ, ◌<◌, ◌≤◌, Bool, List, [], ◌∷◌, set, sym, refl, ap, ◌∙◌, subst, arith}
use Rattle.std.proofs.Common.{true≢false, length-set, Option, Some, None}
use mathlib.Core.Logic.{dite}
use mathlib.Core.Option.{none, some}
use native.Mathlib.Decide.{ℕ_discrete}
use lib.ListN.{get_elem?}
use Rattle.atomic_table.specs.Table.{State}
use Rattle.atomic_table.proofs.Lists.{set_else}
use Rattle.completion_core.specs.Graph.{Held, one_same, total, Graph}
use Rattle.completion_core.specs.Legal.{count}
use Rattle.pending_count.specs.declared.view.View.{View}
use Rattle.pending_count.specs.declared.place.Side.{Side}
use Rattle.pending_count.specs.declared.place.Place.{Place}
use Rattle.pending_count.specs.declared.place.Slot.{Slot}
use Rattle.pending_count.specs.Views.{kept_slot, view_at, names, keeps_at, note_of}
use Rattle.pending_count.specs.Shows.{Shows}
use Rattle.pending_count.specs.Pairs.{side_slot, side_kept_at, Pairing}
use Rattle.pending_count.proofs.SumLemmas.{one_at, self_held, at_here, at_else}
use Rattle.pending_count.proofs.RuleLemmas.{mine, here_is, else_is, stays, sum_stays}
use Rattle.pending_count.proofs.SideRuleLemmas.{by_option, one_is, held_is, held_not_made, slot_not_kept, keeping_as}
use Rattle.pending_count.proofs.SideRuleLemmas.{noting_as}
use Rattle.pending_count.proofs.RuleLemmas.{claim_is}
use Rattle.pending_count.proofs.PlainSideLemmas as plain

module _ {V K T : Type 0} (fits : T → Side → V → Type 0) (tag_of : K → T) (place_of : K → Option (Place T)) (nodes : ℕ)
    (s : State (Option (Slot V K)) (View T)) (g : Graph) (r : Shows nodes s g)
    (p : Pairing fits tag_of place_of nodes s.homes s.views g.arrivals g.armed g.ran) (id : ℕ) (v : View T)
    (at : get_elem? s.views id ≡ some v) (free : v.taken ≡ []) where
  module _ (t : ℕ) (side_out : (i : ℕ) (b : Bool) → side_slot i b ≡ t → p.side t ≡ Held id)
      (kept_out : (i : ℕ) → kept_slot i ≡ t → 0 < count i v.claims)
      (not_kept : (i : ℕ) (tg : T) → p.tag i ≡ Some tg → kept_slot i ≢ t) where
    abbrev pub w : View T
    w = record v { taken = t ∷ v.taken }

    abbrev pub views' : List (View T)
    views' = set s.views id w

    here_taken : (a k : ℕ) → a ≡ id → count k (view_at views' a).taken ≡ one_at k t
    here_taken a k e = ap (λ (u : View T). count k u.taken) (ap (view_at views') e ∙ here_is s.views id v at w)
        ∙ (let z = ap (count k) free in omega arith)

    else_taken : (a k : ℕ) → k ≢ t → count k (view_at views' a).taken ≡ count k (view_at s.views a).taken
    else_taken a k n = stays s.views id v at (λ u. count k u.taken) w
        (let z = at_else k t (λ e. n (sym e)) in omega arith) a

    others_taken : (a k : ℕ) → a ≢ id → count k (view_at views' a).taken ≡ count k (view_at s.views a).taken
    others_taken a k n = ap (λ (u : View T). count k u.taken) (else_is s.views id v at w a n)

    taken_now : 0 < count t (view_at views' id).taken
    taken_now = let h = here_taken id t refl in let o = at_here t in omega arith

    home_else : (k : ℕ) → k ≢ t → get_elem? (set s.homes t none) k ≡ get_elem? s.homes k
    home_else k n = set_else s.homes t k none n

    side_sums : (i k : ℕ) → side_kept_at i k views' ≡ side_kept_at i k s.views
    side_sums i k = sum_stays s.views id v at (λ u. total (keeps_at i k) u.armed_sides) w refl

    pub takes_slot : Pairing fits tag_of place_of nodes (set s.homes t none) views' g.arrivals g.armed g.ran
    takes_slot = record {
      tag = p.tag;
      side = p.side;
      sided = p.sided;
      mine = λ a k. stays s.views id v at (λ u. count k u.sides) w refl a ∙ p.mine a k;
      keeping = keeping_as s.views views' p.side
          (λ i. sum_stays s.views id v at (λ u. total (names i) u.armed_sides) w refl) side_sums (λ i k. refl)
          p.keeping;
      noting = noting_as s.views views'
          (λ a i l e. (a, sym (stays s.views id v at (λ u. note_of i u.noted_sides) w refl a) ∙ e))
          (λ a i tg e. (a, sym (stays s.views id v at (λ u. note_of i u.tags) w refl a) ∙ e))
          (λ a i q e. (a, sym (stays s.views id v at (λ u. note_of i u.places) w refl a) ∙ e))
          side_sums p.noting;
      slotted = record {
        room = length-set s.homes t none ∙ p.slotted.room;
        once = λ a k. dite (ℕ_discrete a id)
            (λ e. let h = here_taken a k e in
            dite (ℕ_discrete k t) (λ q. let o : one_at k t ≡ 1 = ap (λ j. one_at j t) q ∙ at_here t in omega arith)
            (λ n. let o = at_else k t (λ q. n (sym q)) in omega arith))
            (λ n. let h = others_taken a k n in let o = p.slotted.once a k in omega arith);
        out = λ a i b h. dite (ℕ_discrete a id)
            (λ e. dite (ℕ_discrete (side_slot i b) t)
            (λ q. ap p.side q ∙ side_out i b q ∙ ap Held (sym e))
            (λ n. let x = here_taken a (side_slot i b) e in let o = at_else (side_slot i b) t (λ q. n (sym q)) in
            absurd (omega arith)))
            (λ n. p.slotted.out a i b (subst (λ j. 0 < j) (others_taken a (side_slot i b) n) h));
        out_kept = λ a i h. dite (ℕ_discrete a id)
            (λ e. dite (ℕ_discrete (kept_slot i) t)
            (λ q. subst (λ (u : View T). 0 < count i u.claims) (sym (ap (view_at views') e ∙ here_is s.views id v at w))
            (kept_out i q))
            (λ n. let x = here_taken a (kept_slot i) e in let o = at_else (kept_slot i) t (λ q. n (sym q)) in
            absurd (omega arith)))
            (λ n. subst (λ (u : View T). 0 < count i u.claims) (sym (else_is s.views id v at w a n))
            (p.slotted.out_kept a i (subst (λ j. 0 < j) (others_taken a (kept_slot i) n) h)));
        empty = λ i b low m all. dite (ℕ_discrete (side_slot i b) t)
            (λ q. let z : count t (view_at views' id).taken ≡ 0 =
            ap (λ k. count k (view_at views' id).taken) (sym q) ∙ all id in let y = taken_now in
            absurd (omega arith))
            (λ n. home_else (side_slot i b) n
            ∙ p.slotted.empty i b low m (λ a. sym (else_taken a (side_slot i b) n) ∙ all a));
        full = λ i b tg e q m. let n : side_slot i b ≢ t =
            (λ z. held_not_made id (p.side (side_slot i b)) (ap p.side z ∙ side_out i b z) m) in
            let f = p.slotted.full i b tg e q m in (f.0, home_else (side_slot i b) n ∙ f.1, f.2);
        kept_empty = λ i pos low e all. dite (ℕ_discrete (kept_slot i) t)
            (λ q. let z : count t (view_at views' id).taken ≡ 0 =
            ap (λ k. count k (view_at views' id).taken) (sym q) ∙ all id in let y = taken_now in
            absurd (omega arith))
            (λ n. home_else (kept_slot i) n
            ∙ p.slotted.kept_empty i pos low e (λ a. sym (else_taken a (kept_slot i) n) ∙ all a));
        kept_full = λ i tg e q. let f = p.slotted.kept_full i tg e q in (
          f.0,
          home_else (kept_slot i) (not_kept i tg e) ∙ f.1,
          f.2,
          (λ pl z. let y = f.3 pl z in (
            y.0,
            (λ j. sum_stays s.views id v at (λ u. total (keeps_at i j) u.armed) w refl ∙ y.1 j),
            (λ j. side_sums i j ∙ y.2 j),
            y.3,
          )),
          λ a pl z. f.4 a pl (sym (stays s.views id v at (λ u. note_of i u.places) w refl a) ∙ z),
        );
      };
    }

  -- no other seat has taken the slot of a side that this one holds
  pub side_free : (i : ℕ) (b : Bool) → 0 < count (side_slot i b) v.sides → (a : ℕ)
      → count (side_slot i b) (view_at s.views a).taken ≡ 0
  side_free i b have a = dite (ℕ_discrete (count (side_slot i b) (view_at s.views a).taken) 0) (λ e. e)
      (λ n. let h = p.slotted.out a i b (omega arith) in
      let m = plain.my_sides fits tag_of place_of nodes s g r p id v at (side_slot i b) in
      let is = one_is (Held id) (p.side (side_slot i b)) (omega arith) in
      let same_seat : a ≡ id = held_is a id (ap (one_same (Held a)) (is ∙ h) ∙ self_held a) in
      let z : count (side_slot i b) (view_at s.views a).taken ≡ 0 =
      ap (λ (u : View T). count (side_slot i b) u.taken) (ap (view_at s.views) same_seat ∙ mine s.views id v at)
      ∙ ap (count (side_slot i b)) free in absurd (n z))

  pub side_is : (i : ℕ) (b : Bool) → 0 < count (side_slot i b) v.sides → p.side (side_slot i b) ≡ Held id
  side_is i b have = let m = plain.my_sides fits tag_of place_of nodes s g r p id v at (side_slot i b) in
      sym (one_is (Held id) (p.side (side_slot i b)) (omega arith))

  -- the seat holds arrivals at a node where it holds a side: the node is a pair
  pub is_pair : (i : ℕ) (b : Bool) → 0 < count (side_slot i b) v.sides → (tg : T) × (p.tag i ≡ Some tg)
  is_pair i b have = by_option (p.tag i) ((tg : T) × (p.tag i ≡ Some tg))
      (λ e. absurd (held_not_made id (p.side (side_slot i b)) (side_is i b have) (p.sided.alone i b e)))
      (λ tg e. (tg, e))

  pub pair_low : (i : ℕ) (tg : T) → p.tag i ≡ Some tg → (0 < i) × (i ≤ nodes)
  pair_low i tg e = let b = r.running.below i (p.sided.pairs i tg e) in let h = b.1 in let d = r.counting.draws in
      (b.0, omega arith)

  -- the slot of a side that the seat holds is at home, and empty
  pub side_home : (i : ℕ) (b : Bool) → 0 < count (side_slot i b) v.sides
      → get_elem? s.homes (side_slot i b) ≡ some (some None)
  side_home i b have = let t = is_pair i b have in
      p.slotted.empty i b (pair_low i t.0 t.1).1
      (λ m. absurd (held_not_made id (p.side (side_slot i b)) (side_is i b have) m)) (side_free i b have)

  pub takes_side : (i : ℕ) (b : Bool) → 0 < count (side_slot i b) v.sides
      → Pairing fits tag_of place_of nodes (set s.homes (side_slot i b) none)
      (set s.views id (record v { taken = side_slot i b ∷ v.taken })) g.arrivals g.armed g.ran
  takes_side i b have = takes_slot (side_slot i b) (λ j c e. side_is i b have)
      (λ j e. absurd (slot_not_kept i j b (sym e))) (λ j tg e h. slot_not_kept i j b (sym h))

  -- the slot of what a node is to keep, which the seat drew and hasn't armed
  pub kept_free : (i : ℕ) → 0 < count i v.claims → (a : ℕ) → count (kept_slot i) (view_at s.views a).taken ≡ 0
  kept_free i drew a = dite (ℕ_discrete (count (kept_slot i) (view_at s.views a).taken) 0) (λ e. e)
      (λ n. let h = r.claiming.drew a i (p.slotted.out_kept a i (omega arith)) in
      let c = claim_is nodes s g r id v at i drew in
      let same_seat : a ≡ id = sym h.2 ∙ c.2 in
      let z : count (kept_slot i) (view_at s.views a).taken ≡ 0 =
      ap (λ (u : View T). count (kept_slot i) u.taken) (ap (view_at s.views) same_seat ∙ mine s.views id v at)
      ∙ ap (count (kept_slot i)) free in absurd (n z))

  pub kept_home : (i : ℕ) → 0 < count i v.claims → get_elem? s.homes (kept_slot i) ≡ some (some None)
  kept_home i drew = let c = claim_is nodes s g r id v at i drew in let d = c.1 in let e = r.counting.draws in
      p.slotted.kept_empty i c.0 (omega arith) c.3 (kept_free i drew)

  pub takes_kept : (i : ℕ) → 0 < count i v.claims
      → Pairing fits tag_of place_of nodes (set s.homes (kept_slot i) none)
      (set s.views id (record v { taken = kept_slot i ∷ v.taken })) g.arrivals g.armed g.ran
  takes_kept i drew = takes_slot (kept_slot i) (λ j b e. absurd (slot_not_kept j i b e))
      (λ j e. let is : j ≡ i = omega arith in subst (λ k. 0 < count k v.claims) (sym is) drew)
      (λ j tg e h. let is : j ≡ i = omega arith in
      absurd (true≢false (sym (p.sided.pairs j tg e) ∙ ap g.armed is ∙ (claim_is nodes s g r id v at i drew).3)))
