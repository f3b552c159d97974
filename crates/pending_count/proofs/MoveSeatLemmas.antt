-- All that a seat holds goes to a new seat, so that slots which are out with the old one stay behind.
use Rattle.std.proofs.Common.{◌≡◌, ◌≢◌, ℕ, ◌+◌, ◌<◌, ◌≤◌, true, List, [], ◌∷◌, ◌++◌, length, get_or, set, sym, refl, ap}
use Rattle.std.proofs.Common.{◌∙◌, subst, arith, true≢false, length-set, Option, Some, ◌⊎◌, ⊎_elim}
use mathlib.Core.Logic.{dite}
use mathlib.Core.Option.{some}
use native.Mathlib.Decide.{ℕ_discrete, dec_le}
use lib.ListN.{get_elem?}
use Rattle.atomic_table.specs.Table.{State}
use Rattle.completion_core.specs.Graph.{Arrival, Held, Kept, one_same, total, amount, Graph}
use Rattle.completion_core.specs.Legal.{renamed, count}
use Rattle.pending_count.specs.declared.view.View.{View}
use Rattle.pending_count.specs.declared.place.Side.{Side}
use Rattle.pending_count.specs.declared.place.Place.{Place}
use Rattle.pending_count.specs.declared.place.Slot.{Slot}
use Rattle.pending_count.specs.Views.{blank, view_at, names, keeps_at, note_of}
use Rattle.pending_count.specs.Shows.{Shows, Holding, kept_at}
use Rattle.pending_count.specs.Pairs.{side_kept_at, Pairing}
use Rattle.pending_count.proofs.SumLemmas.{total-append, total-set, self_held, one_held}
use Rattle.pending_count.proofs.RuleLemmas.{there, mine, here_is, else_is}
use Rattle.pending_count.proofs.SideRuleLemmas.{none_some, held_is, held_not_made, keeping_as, noting_as, slotted_as}
use Rattle.pending_count.proofs.ChangedHandsLemmas.{turn, turn_is, all_turned}
use Rattle.pending_count.proofs.RuleLemmas.{my_part}
use Rattle.pending_count.proofs.PlainSideLemmas as plain
use Rattle.pending_count.proofs.GiveLemmas as giving

module _ {V K T : Type 0} (fits : T → Side → V → Type 0) (tag_of : K → T) (place_of : K → Option (Place T)) (nodes : ℕ)
    (s : State (Option (Slot V K)) (View T)) (g : Graph) (r : Shows nodes s g)
    (p : Pairing fits tag_of place_of nodes s.homes s.views g.arrivals g.armed g.ran)
    (id : ℕ) (v : View T) (at : get_elem? s.views id ≡ some v) (spent : (i : ℕ) → count i v.claims ≡ 0)
    (free : (j : ℕ) → count j v.taken ≡ 0) where
  abbrev pub new : ℕ
  new = length s.views

  pub apart : id ≢ new
  apart e = let a = there s.views id v at in absurd (omega arith)

  abbrev pub m : ℕ → ℕ
  m i = count i v.held

  pub fit : (i : ℕ) → m i ≤ amount (Held id) (g.arrivals i)
  fit i = let a = my_part nodes s g r id v at i in omega arith

  abbrev pub views1 : List (View T)
  views1 = set s.views id blank

  abbrev pub views2 : List (View T)
  views2 = views1 ++ v ∷ []

  size1 : length views1 ≡ new
  size1 = length-set s.views id blank

  at_new : view_at views2 new ≡ v
  at_new = ap (λ k. view_at views2 k) (sym size1) ∙ giving.snoc_at blank views1 v

  at_old : (a : ℕ) → a ≢ new → view_at views2 a ≡ view_at views1 a
  at_old a n = dite (dec_le new a)
      (λ h. giving.snoc_high blank views1 v a (let e = size1 in omega arith)
      ∙ sym (giving.beyond blank views1 a (let e = size1 in omega arith)))
      (λ h. giving.snoc_low blank views1 v a (let e = size1 in omega arith))

  blank_new : view_at s.views new ≡ blank
  blank_new = giving.beyond blank s.views new (omega arith)

  old_id : view_at s.views id ≡ v
  old_id = mine s.views id v at

  new_id : view_at views2 id ≡ blank
  new_id = at_old id apart ∙ here_is s.views id v at blank

  new_else : (a : ℕ) → a ≢ id → a ≢ new → view_at views2 a ≡ view_at s.views a
  new_else a n n' = at_old a n' ∙ else_is s.views id v at blank a n

  sums : (f : View T → ℕ) → f blank ≡ 0 → total f views2 ≡ total f s.views
  sums f z = let a = total-append f views1 (v ∷ []) in let b = total-set f s.views id v blank at in omega arith

  kept_same : (i j : ℕ) → kept_at i j views2 ≡ kept_at i j s.views
  kept_same i j = sums (λ u. total (keeps_at i j) u.armed) refl

  side_same : (i j : ℕ) → side_kept_at i j views2 ≡ side_kept_at i j s.views
  side_same i j = sums (λ u. total (keeps_at i j) u.armed_sides) refl

  -- by whose view it is
  by_seat : (a : ℕ) (F : View T → Type 0) → F blank → F v → F (view_at s.views a) → F (view_at views2 a)
  by_seat a F x y z = dite (ℕ_discrete a new)
      (λ e. subst F (sym (ap (view_at views2) e ∙ at_new)) y)
      (λ n. dite (ℕ_discrete a id)
      (λ e. subst F (sym (ap (view_at views2) e ∙ new_id)) x)
      (λ n'. subst F (sym (new_else a n' n)) z))

  -- a note of the new seat was one of the old
  from : {A : Type 0} (q : View T → List (ℕ × A)) → q blank ≡ [] → (a i : ℕ) (x : A)
      → note_of i (q (view_at views2 a)) ≡ Some x → (b : ℕ) × (note_of i (q (view_at s.views b)) ≡ Some x)
  from q z a i x = by_seat a (λ u. note_of i (q u) ≡ Some x → (b : ℕ) × (note_of i (q (view_at s.views b)) ≡ Some x))
      (λ h. absurd (none_some x (sym (ap (note_of i) z) ∙ h)))
      (λ h. (id, ap (λ (u : View T). note_of i (q u)) old_id ∙ h))
      (λ h. (a, h))

  nothing : (i : ℕ) → amount (Held new) (g.arrivals i) ≡ 0
  nothing i = sym (r.holding new i) ∙ ap (λ (u : View T). count i u.held) blank_new

  abbrev pub arr : ℕ → List Arrival
  arr = renamed (Held id) (Held new) m g.arrivals

  holding : Holding views2 arr
  holding a i = dite (ℕ_discrete a new)
      (λ e. ap (λ (u : View T). count i u.held) (ap (view_at views2) e ∙ at_new)
      ∙ (let x = giving.more_there nodes s g r id new apart m fit i in let y = nothing i in omega arith)
      ∙ ap (λ k. amount (Held k) (arr i)) (sym e))
      (λ n. dite (ℕ_discrete a id)
      (λ e. ap (λ (u : View T). count i u.held) (ap (view_at views2) e ∙ new_id)
      ∙ (let x = giving.fewer_here nodes s g r id new apart m fit i in let y = my_part nodes s g r id v at i in
      omega arith) ∙ ap (λ k. amount (Held k) (arr i)) (sym e))
      (λ n'. ap (λ (u : View T). count i u.held) (new_else a n' n) ∙ r.holding a i
      ∙ sym (giving.same_else nodes s g r id new apart m fit a i n' n)))

  claims_same : (a i : ℕ) → count i (view_at views2 a).claims ≡ count i (view_at s.views a).claims
  claims_same a i = dite (ℕ_discrete a new)
      (λ e. ap (λ (u : View T). count i u.claims) (ap (view_at views2) e ∙ at_new) ∙ spent i
      ∙ sym (ap (λ (u : View T). count i u.claims) (ap (view_at s.views) e ∙ blank_new)))
      (λ n. dite (ℕ_discrete a id)
      (λ e. ap (λ (u : View T). count i u.claims) (ap (view_at views2) e ∙ new_id)
      ∙ sym (ap (λ (u : View T). count i u.claims) (ap (view_at s.views) e ∙ old_id) ∙ spent i))
      (λ n'. ap (λ (u : View T). count i u.claims) (new_else a n' n)))

  pub moves : Shows nodes (record { words = s.words; homes = s.homes; views = views2 }) (record g { arrivals = arr })
  moves = giving.given nodes s g r id new apart m fit views2 (sums (λ u. u.credit) refl) (sums (λ u. u.added) refl)
      holding claims_same (λ i. sums (λ u. total (names i) u.armed) refl) kept_same (record {
        noted = λ a i k e. let b = from (λ u. u.noted) refl a i k e in let h = r.noting.noted b.0 i k b.1 in
            (h.0, λ j. h.1 j ∙ sym (kept_same i j));
        seen = λ a n. by_seat a (λ u. u.seen ≡ Some n → get_or s.words 0 0 ≤ n) (λ h. absurd (none_some n h))
            (λ h. r.noting.seen id n (ap (λ (u : View T). u.seen) old_id ∙ h)) (r.noting.seen a n);
        exhausted = λ a. by_seat a (λ u. u.none_left ≡ true → nodes ≤ get_or s.words (nodes + 1) 0)
            (λ h. absurd (true≢false (sym h)))
            (λ h. r.noting.exhausted id (ap (λ (u : View T). u.none_left) old_id ∙ h))
            (r.noting.exhausted a);
      })

  abbrev turned : ℕ → Arrival
  turned k = turn (Held id) (Held new) (p.side k)

  case : (k : ℕ) → ((one_same (Held id) (p.side k) ≡ 1) × (p.side k ≡ Held id) × (turned k ≡ Held new))
      ⊎ ((one_same (Held id) (p.side k) ≡ 0) × (turned k ≡ p.side k))
  case k = turn_is (Held id) (Held new) (p.side k)

  my_sides : (k : ℕ) → count k v.sides ≡ one_same (Held id) (p.side k)
  my_sides = plain.my_sides fits tag_of place_of nodes s g r p id v at

  side_new : (k : ℕ) → one_same (Held new) (p.side k) ≡ 0
  side_new k = sym (p.mine new k) ∙ ap (λ (u : View T). count k u.sides) blank_new

  new_sides : (k : ℕ) → count k v.sides ≡ one_same (Held new) (turned k)
  new_sides k = let a = my_sides k in let b = side_new k in ⊎_elim
      (λ (z : (one_same (Held id) (p.side k) ≡ 1) × (p.side k ≡ Held id) × (turned k ≡ Held new)). let c = z.0 in
      let d = ap (one_same (Held new)) z.2 in let e = self_held new in omega arith)
      (λ (z : (one_same (Held id) (p.side k) ≡ 0) × (turned k ≡ p.side k)). let c = z.0 in
      let d = ap (one_same (Held new)) z.1 in omega arith)
      (case k)

  none_mine : (k : ℕ) → one_same (Held id) (turned k) ≡ 0
  none_mine k = ⊎_elim
      (λ (z : (one_same (Held id) (p.side k) ≡ 1) × (p.side k ≡ Held id) × (turned k ≡ Held new)). ap
      (one_same (Held id)) z.2 ∙ one_held id new apart)
      (λ (z : (one_same (Held id) (p.side k) ≡ 0) × (turned k ≡ p.side k)). ap (one_same (Held id)) z.1 ∙ z.0)
      (case k)

  else_sides : (a k : ℕ) → a ≢ id → a ≢ new → one_same (Held a) (turned k) ≡ one_same (Held a) (p.side k)
  else_sides a k n n' = ⊎_elim
      (λ (z : (one_same (Held id) (p.side k) ≡ 1) × (p.side k ≡ Held id) × (turned k ≡ Held new)). ap
      (one_same (Held a)) z.2 ∙ one_held a new n' ∙ sym (ap (one_same (Held a)) z.1 ∙ one_held a id n))
      (λ (z : (one_same (Held id) (p.side k) ≡ 0) × (turned k ≡ p.side k)). ap (one_same (Held a)) z.1)
      (case k)

  taken_same : (a k : ℕ) → count k (view_at views2 a).taken ≡ count k (view_at s.views a).taken
  taken_same a k = dite (ℕ_discrete a new)
      (λ e. ap (λ (u : View T). count k u.taken) (ap (view_at views2) e ∙ at_new) ∙ free k
      ∙ sym (ap (λ (u : View T). count k u.taken) (ap (view_at s.views) e ∙ blank_new)))
      (λ n. dite (ℕ_discrete a id)
      (λ e. ap (λ (u : View T). count k u.taken) (ap (view_at views2) e ∙ new_id)
      ∙ sym (ap (λ (u : View T). count k u.taken) (ap (view_at s.views) e ∙ old_id) ∙ free k))
      (λ n'. ap (λ (u : View T). count k u.taken) (new_else a n' n)))

  pub moves_sides : Pairing fits tag_of place_of nodes s.homes views2 arr g.armed g.ran
  moves_sides = record {
    tag = p.tag;
    side = turned;
    sided = record {
      pairs = p.sided.pairs;
      both = λ i t e f. all_turned (Held id) (Held new) f (m i) (g.arrivals i) (my_part nodes s g r id v at i)
          ∙ p.sided.both i t e (λ z. f (turn (Held id) (Held new) z));
      alone = λ i b e. ap (turn (Held id) (Held new)) (p.sided.alone i b e);
      never = λ i. ap (turn (Held id) (Held new)) (p.sided.never i);
    };
    mine = λ a k. dite (ℕ_discrete a new)
        (λ e. ap (λ (u : View T). count k u.sides) (ap (view_at views2) e ∙ at_new) ∙ new_sides k
        ∙ ap (λ b. one_same (Held b) (turned k)) (sym e))
        (λ n. dite (ℕ_discrete a id)
        (λ e. ap (λ (u : View T). count k u.sides) (ap (view_at views2) e ∙ new_id) ∙ sym (none_mine k)
        ∙ ap (λ b. one_same (Held b) (turned k)) (sym e))
        (λ n'. ap (λ (u : View T). count k u.sides) (new_else a n' n) ∙ p.mine a k ∙ sym (else_sides a k n' n)));
    keeping = keeping_as s.views views2 turned (λ i. sums (λ u. total (names i) u.armed_sides) refl) side_same
        (λ i k. ⊎_elim
        (λ (z : (one_same (Held id) (p.side k) ≡ 1) × (p.side k ≡ Held id) × (turned k ≡ Held new)). ap
        (one_same (Kept i)) z.2 ∙ sym (ap (one_same (Kept i)) z.1))
        (λ (z : (one_same (Held id) (p.side k) ≡ 0) × (turned k ≡ p.side k)). ap (one_same (Kept i)) z.1)
        (case k)) p.keeping;
    noting = noting_as s.views views2 (λ a i l e. from (λ u. u.noted_sides) refl a i l e)
        (λ a i t e. from (λ u. u.tags) refl a i t e) (λ a i q e. from (λ u. u.places) refl a i q e) side_same p.noting;
    slotted = slotted_as s.views views2 fits tag_of place_of g.armed g.ran turned taken_same
        (λ a i t h. subst (λ k. 0 < k) (sym (claims_same a i)) h)
        (λ k e. ⊎_elim
        (λ (z : (one_same (Held id) (p.side k) ≡ 1) × (p.side k ≡ Held id) × (turned k ≡ Held new)). absurd
        (held_not_made new (Held new) refl (sym z.2 ∙ e)))
        (λ (z : (one_same (Held id) (p.side k) ≡ 0) × (turned k ≡ p.side k)). sym z.1 ∙ e)
        (case k))
        (λ k e. ap (turn (Held id) (Held new)) e)
        (λ a k e h. ⊎_elim
        (λ (z : (one_same (Held id) (p.side k) ≡ 1) × (p.side k ≡ Held id) × (turned k ≡ Held new)). let is : id ≡ a =
        held_is id a (ap (one_same (Held id)) (sym e ∙ z.1) ∙ self_held id) in
        let y : count k (view_at s.views a).taken ≡ 0 =
        ap (λ b. count k (view_at s.views b).taken) (sym is) ∙ ap (λ (u : View T). count k u.taken) old_id
        ∙ free k in absurd (omega arith))
        (λ (z : (one_same (Held id) (p.side k) ≡ 0) × (turned k ≡ p.side k)). z.1 ∙ e)
        (case k))
        (λ i e. e) (λ i e. e) (λ i j t e. kept_same i j) (λ i k t e. side_same i k)
        (λ a i q e. from (λ u. u.places) refl a i q e)
        p.slotted;
  }
