-- What splitting and joining seats is to the sides of pairs.
use Rattle.std.proofs.Common.{◌≡◌, ◌≢◌, ℕ, ◌+◌, ◌<◌, ◌≤◌, List, [], ◌++◌, length, set, sym, refl, ap, ◌∙◌, subst, arith}
use Rattle.std.proofs.Common.{Option, Some, ◌⊎◌, ⊎_elim}
use mathlib.Core.Logic.{dite}
use mathlib.Core.Option.{some}
use native.Mathlib.Decide.{ℕ_discrete}
use lib.ListN.{get_elem?}
use Rattle.atomic_table.specs.Table.{State}
use Rattle.atomic_table.proofs.Lists.{set_else}
use Rattle.completion_core.specs.Graph.{Arrival, Made, Held, Kept, one_same, total, amount, Graph}
use Rattle.completion_core.specs.Legal.{renamed, rename, only_at, count}
use Rattle.pending_count.specs.declared.view.View.{View}
use Rattle.pending_count.specs.declared.place.Side.{Side}
use Rattle.pending_count.specs.declared.place.Place.{Place}
use Rattle.pending_count.specs.declared.place.Slot.{Slot}
use Rattle.pending_count.specs.Views.{left_slot, right_slot, kept_slot, blank, view_at, names, keeps_at, note_of}
use Rattle.pending_count.specs.Views.{rest_view, part_view, joined_view}
use Rattle.pending_count.specs.Shows.{Shows}
use Rattle.pending_count.specs.Pairs.{side_slot, side_kept_at, Pairing}
use Rattle.pending_count.proofs.SumLemmas.{one_at, total-append, total-rename, self_held, one_held}
use Rattle.pending_count.proofs.RuleLemmas.{mine, here_is, else_is, stays, sum_stays}
use Rattle.pending_count.proofs.SideRuleLemmas.{none_some, one_is, one_le, held_is, held_not_made, keeping_as}
use Rattle.pending_count.proofs.SideRuleLemmas.{noting_as, slotted_as}
use Rattle.pending_count.proofs.ChangedHandsLemmas.{turn, turn_is, all_turned, moved, moved_out, moved_is, both_moved}
use Rattle.pending_count.proofs.ChangedHandsLemmas.{else_moved, rest_moved}
use Rattle.pending_count.proofs.RuleLemmas.{my_part}
use Rattle.pending_count.proofs.PlainSideLemmas as plain
use Rattle.pending_count.proofs.GiveLemmas as giving
use Rattle.pending_count.proofs.JoinLemmas as joining

module _ {V K T : Type 0} (fits : T → Side → V → Type 0) (tag_of : K → T) (place_of : K → Option (Place T)) (nodes : ℕ)
    (s : State (Option (Slot V K)) (View T)) (g : Graph) (r : Shows nodes s g)
    (p : Pairing fits tag_of place_of nodes s.homes s.views g.arrivals g.armed g.ran) where
  -- a new seat gets k arrivals at a node, and of pairs these sides
  module _ (id : ℕ) (v : View T) (at : get_elem? s.views id ≡ some v) (node k c : ℕ) (l : List ℕ)
      (have : k ≤ count node v.held) (pays : c ≤ v.credit)
      (within : (j : ℕ) → count j l ≤ count j v.sides) (free : (j : ℕ) → count j v.taken ≡ 0)
      (each : (i : ℕ) (t : T) → p.tag i ≡ Some t
      → only_at node k i ≡ count (left_slot i) l + count (right_slot i) l) where
    my_sides : (k : ℕ) → count k v.sides ≡ one_same (Held id) (p.side k)
    my_sides = plain.my_sides fits tag_of place_of nodes s g r p id v at

    in_l : (j : ℕ) → 0 < count j l → p.side j ≡ Held id
    in_l j h = let a = within j in let b = my_sides j in sym (one_is (Held id) (p.side j) (omega arith))

    once : (j : ℕ) → count j l ≤ 1
    once j = let a = within j in let b = my_sides j in let d = one_le (Held id) (p.side j) in omega arith

    abbrev new : ℕ
    new = length s.views

    apart : id ≢ new
    apart = giving.new_apart nodes s g r id v at node k c l have pays

    abbrev sent : ℕ → Arrival
    sent = moved p.side l id (Held new) in_l once

    abbrev views2 : List (View T)
    views2 = giving.views2 nodes s g r id v at node k c l have pays

    abbrev rest : View T
    rest = rest_view node k c l v

    at_new : view_at views2 new ≡ part_view node k c l v
    at_new = giving.at_new nodes s g r id v at node k c l have pays

    at_old : (a : ℕ) → a ≢ new → view_at views2 a ≡ view_at (set s.views id rest) a
    at_old = giving.at_old nodes s g r id v at node k c l have pays

    blank_new : view_at s.views new ≡ blank
    blank_new = giving.beyond blank s.views new (omega arith)

    side_new : (j : ℕ) → one_same (Held new) (p.side j) ≡ 0
    side_new j = sym (p.mine new j) ∙ ap (λ (u : View T). count j u.sides) blank_new

    sent_made : (j : ℕ) → sent j ≡ Made → p.side j ≡ Made
    sent_made j m = ⊎_elim
        (λ (z : (count j l ≡ 0) × (sent j ≡ p.side j)). sym z.1 ∙ m)
        (λ (z : (count j l ≡ 1) × (sent j ≡ Held new) × (p.side j ≡ Held id)). absurd
        (held_not_made new (Held new) refl (sym z.1 ∙ m)))
        (moved_is p.side l id (Held new) in_l once j)

    made_sent : (j : ℕ) → p.side j ≡ Made → sent j ≡ Made
    made_sent j m = dite (ℕ_discrete (count j l) 0) (λ z. moved_out p.side l id (Held new) in_l once j z ∙ m)
        (λ n. absurd (held_not_made id (p.side j) (in_l j (omega arith)) m))

    kept_sent : (i j : ℕ) → one_same (Kept i) (sent j) ≡ one_same (Kept i) (p.side j)
    kept_sent i j = ⊎_elim
        (λ (z : (count j l ≡ 0) × (sent j ≡ p.side j)). ap (one_same (Kept i)) z.1)
        (λ (z : (count j l ≡ 1) × (sent j ≡ Held new) × (p.side j ≡ Held id)). ap (one_same (Kept i)) z.1
        ∙ sym (ap (one_same (Kept i)) z.2))
        (moved_is p.side l id (Held new) in_l once j)

    new_sent : (j : ℕ) → one_same (Held new) (sent j) ≡ count j l
    new_sent j = ⊎_elim
        (λ (z : (count j l ≡ 0) × (sent j ≡ p.side j)). let a = ap (one_same (Held new)) z.1 in let b = side_new j in
        let d = z.0 in omega arith)
        (λ (z : (count j l ≡ 1) × (sent j ≡ Held new) × (p.side j ≡ Held id)). let a = ap (one_same (Held new)) z.1 in
        let b = self_held new in let d = z.0 in omega arith)
        (moved_is p.side l id (Held new) in_l once j)

    sums : (f : View T → ℕ) → f rest ≡ f v → f (part_view node k c l v) ≡ 0 → total f views2 ≡ total f s.views
    sums f e z = let a = giving.sum_is nodes s g r id v at node k c l have pays f in
        let b = sum_stays s.views id v at f rest e in omega arith

    side_sums : (i j : ℕ) → side_kept_at i j views2 ≡ side_kept_at i j s.views
    side_sums i j = sums (λ u. total (keeps_at i j) u.armed_sides) refl refl

    -- a note of the new seat was one of the first
    from : {A : Type 0} (q : View T → A) → q rest ≡ q v → q (part_view node k c l v) ≡ q v → (a : ℕ)
        → (b : ℕ) × (q (view_at views2 a) ≡ q (view_at s.views b))
    from q e f a = ⊎_elim
        (λ (z : q (view_at views2 a) ≡ q v). (id, z ∙ ap q (sym (mine s.views id v at))))
        (λ (z : q (view_at views2 a) ≡ q (view_at s.views a)). (a, z))
        (giving.both_have nodes s g r id v at node k c l have pays q e f a)

    taken_as : (a j : ℕ) → count j (view_at views2 a).taken ≡ count j (view_at s.views a).taken
    taken_as a j = dite (ℕ_discrete a new)
        (λ e. ap (λ (u : View T). count j u.taken) (ap (view_at views2) e ∙ at_new)
        ∙ sym (ap (λ (u : View T). count j u.taken) (ap (view_at s.views) e ∙ blank_new)))
        (λ n. ap (λ (u : View T). count j u.taken) (at_old a n)
        ∙ stays s.views id v at (λ u. count j u.taken) rest refl a)

    claims_as : (a i : ℕ) → 0 < count i (view_at s.views a).claims → 0 < count i (view_at views2 a).claims
    claims_as a i h = dite (ℕ_discrete a new)
        (λ e. let z : count i (view_at s.views a).claims ≡ 0 =
        ap (λ (u : View T). count i u.claims) (ap (view_at s.views) e ∙ blank_new) in absurd (omega arith))
        (λ n. subst (λ j. 0 < j) (sym (ap (λ (u : View T). count i u.claims) (at_old a n)
        ∙ stays s.views id v at (λ u. count i u.claims) rest refl a)) h)

    pub parts_sides : Pairing fits tag_of place_of nodes s.homes views2
        (renamed (Held id) (Held new) (only_at node k) g.arrivals) g.armed g.ran
    parts_sides = record {
      tag = p.tag;
      side = sent;
      sided = record {
        pairs = p.sided.pairs;
        both = λ i t e f. both_moved p.side l id (Held new) in_l once f (g.arrivals i)
            (rename (only_at node k i) (Held id) (Held new) (g.arrivals i)) (only_at node k i) (left_slot i)
            (right_slot i)
            (total-rename f (only_at node k i) (Held id) (Held new) (g.arrivals i)
            (giving.part_fit nodes s g r id v at node k c l have pays i)) (each i t e) (p.sided.both i t e f);
        alone = λ i b e. made_sent (side_slot i b) (p.sided.alone i b e);
        never = λ i. made_sent (kept_slot i) (p.sided.never i);
      };
      mine = λ a j. dite (ℕ_discrete a new)
          (λ e. ap (λ (u : View T). count j u.sides) (ap (view_at views2) e ∙ at_new) ∙ sym (new_sent j)
          ∙ ap (λ b. one_same (Held b) (sent j)) (sym e))
          (λ n. ap (λ (u : View T). count j u.sides) (at_old a n) ∙ dite (ℕ_discrete a id)
          (λ e. ap (λ (u : View T). count j u.sides)
          (ap (view_at (set s.views id rest)) e ∙ here_is s.views id v at rest)
          ∙ rest_moved p.side l id (Held new) in_l once v.sides my_sides (one_held id new apart) j
          ∙ ap (λ b. one_same (Held b) (sent j)) (sym e))
          (λ m. ap (λ (u : View T). count j u.sides) (else_is s.views id v at rest a m) ∙ p.mine a j
          ∙ sym (else_moved p.side l id (Held new) in_l once a m (one_held a new n) j)));
      keeping = keeping_as s.views views2 sent (λ i. sums (λ u. total (names i) u.armed_sides) refl refl) side_sums
          kept_sent p.keeping;
      noting = noting_as s.views views2
          (λ a i q e. let b = from (λ u. note_of i u.noted_sides) refl refl a in (b.0, sym b.1 ∙ e))
          (λ a i q e. let b = from (λ u. note_of i u.tags) refl refl a in (b.0, sym b.1 ∙ e))
          (λ a i q e. let b = from (λ u. note_of i u.places) refl refl a in (b.0, sym b.1 ∙ e))
          side_sums p.noting;
      slotted = slotted_as s.views views2 fits tag_of place_of g.armed g.ran sent taken_as (λ a i t h. claims_as a i h)
          sent_made made_sent
          (λ a j e t. dite (ℕ_discrete (count j l) 0)
          (λ z. moved_out p.side l id (Held new) in_l once j z ∙ e)
          (λ n. let is : a ≡ id = held_is a id
          (ap (one_same (Held a)) (sym (in_l j (omega arith)) ∙ e) ∙ self_held a) in
          let y : 0 < count j v.taken = subst (λ (u : View T). 0 < count j u.taken)
          (ap (view_at s.views) is ∙ mine s.views id v at) t in let f = free j in absurd (omega arith)))
          (λ i e. e) (λ i e. e)
          (λ i j t e. sums (λ u. total (keeps_at i j) u.armed) refl refl)
          (λ i j t e. side_sums i j)
          (λ a i q e. let b = from (λ u. note_of i u.places) refl refl a in (b.0, sym b.1 ∙ e))
          p.slotted;
    }

  -- a second seat is joined into the first one
  module _ (id other : ℕ) (apart : other ≢ id) (v u : View T) (at : get_elem? s.views id ≡ some v)
      (there' : get_elem? s.views other ≡ some u) (spent : (i : ℕ) → count i u.claims ≡ 0)
      (free : (j : ℕ) → count j u.taken ≡ 0) where
    abbrev both : View T
    both = joined_view v u

    abbrev views1 : List (View T)
    views1 = set s.views id both

    abbrev joint : List (View T)
    joint = set views1 other blank

    at1 : get_elem? views1 other ≡ some u
    at1 = set_else s.views id other both apart ∙ there'

    abbrev turned : ℕ → Arrival
    turned k = turn (Held other) (Held id) (p.side k)

    part_of : {A : Type 0} (q : View T → A) (a : ℕ)
        → (q (view_at joint a) ≡ q both)
        ⊎ ((q (view_at joint a) ≡ q blank) ⊎ (q (view_at joint a) ≡ q (view_at s.views a)))
    part_of = joining.part_of nodes s g r id other apart v u at there' spent

    joint_sums : (f : View T → ℕ) → f blank ≡ 0 → f both ≡ f v + f u → total f joint ≡ total f s.views
    joint_sums f z e = let a = joining.sum_is nodes s g r id other apart v u at there' spent f z in omega arith

    joint_side_sums : (i j : ℕ) → side_kept_at i j joint ≡ side_kept_at i j s.views
    joint_side_sums i j = joint_sums (λ w. total (keeps_at i j) w.armed_sides) refl
        (total-append (keeps_at i j) v.armed_sides u.armed_sides)

    -- a note of the joint seat was one of the two
    joint_from : {A : Type 0} (q : View T → List (ℕ × A)) → q both ≡ q v ++ q u → q blank ≡ [] → (a i : ℕ) (x : A)
        → note_of i (q (view_at joint a)) ≡ Some x → (b : ℕ) × (note_of i (q (view_at s.views b)) ≡ Some x)
    joint_from q e z a i x h = ⊎_elim
        (λ (y : q (view_at joint a) ≡ q both). ⊎_elim
        (λ m. (id, ap (λ (w : View T). note_of i (q w)) (mine s.views id v at) ∙ m))
        (λ m. (other, ap (λ (w : View T). note_of i (q w)) (mine s.views other u there') ∙ m))
        (joining.note-append i x (q v) (q u) (sym (ap (note_of i) (y ∙ e)) ∙ h)))
        (λ y. ⊎_elim
        (λ (m : q (view_at joint a) ≡ q blank). absurd (none_some x (sym (ap (note_of i) (m ∙ z)) ∙ h)))
        (λ (m : q (view_at joint a) ≡ q (view_at s.views a)). (a, sym (ap (note_of i) m) ∙ h))
        y)
        (part_of q a)

    turned_case : (k : ℕ) → ((one_same (Held other) (p.side k) ≡ 1) × (p.side k ≡ Held other) × (turned k ≡ Held id))
        ⊎ ((one_same (Held other) (p.side k) ≡ 0) × (turned k ≡ p.side k))
    turned_case k = turn_is (Held other) (Held id) (p.side k)

    their_sides : (k : ℕ) → count k u.sides ≡ one_same (Held other) (p.side k)
    their_sides = plain.my_sides fits tag_of place_of nodes s g r p other u there'

    our_sides : (k : ℕ) → count k v.sides ≡ one_same (Held id) (p.side k)
    our_sides = plain.my_sides fits tag_of place_of nodes s g r p id v at

    not_taken : (k : ℕ) → count k (view_at s.views other).taken ≡ 0
    not_taken k = ap (λ (w : View T). count k w.taken) (mine s.views other u there') ∙ free k

    joint_taken_as : (a k : ℕ) → count k (view_at joint a).taken ≡ count k (view_at s.views a).taken
    joint_taken_as a k = dite (ℕ_discrete a other)
        (λ e. ap (λ (w : View T). count k w.taken) (ap (view_at joint) e ∙ here_is views1 other u at1 blank)
        ∙ sym (ap (λ b. count k (view_at s.views b).taken) e ∙ not_taken k))
        (λ n. ap (λ (w : View T). count k w.taken) (else_is views1 other u at1 blank a n)
        ∙ stays s.views id v at (λ w. count k w.taken) both refl a)

    joint_claims_as : (a i : ℕ) → 0 < count i (view_at s.views a).claims → 0 < count i (view_at joint a).claims
    joint_claims_as a i h = dite (ℕ_discrete a other)
        (λ e. let z : count i (view_at s.views a).claims ≡ 0 =
        ap (λ (w : View T). count i w.claims) (ap (view_at s.views) e ∙ mine s.views other u there') ∙ spent i in
        absurd (omega arith))
        (λ n. subst (λ j. 0 < j) (sym (ap (λ (w : View T). count i w.claims) (else_is views1 other u at1 blank a n)
        ∙ stays s.views id v at (λ w. count i w.claims) both refl a)) h)

    -- all that the second seat held at a node
    all_held : (i : ℕ) → joining.m nodes s g r id other apart v u at there' spent i ≡ amount (Held other) (g.arrivals i)
    all_held i = joining.m_is nodes s g r id other apart v u at there' spent i ∙ my_part nodes s g r other u there' i

    pub joins_sides : Pairing fits tag_of place_of nodes s.homes joint
        (renamed (Held other) (Held id) (joining.m nodes s g r id other apart v u at there' spent) g.arrivals) g.armed
        g.ran
    joins_sides = record {
      tag = p.tag;
      side = turned;
      sided = record {
        pairs = p.sided.pairs;
        both = λ i t e f. all_turned (Held other) (Held id) f
            (joining.m nodes s g r id other apart v u at there' spent i) (g.arrivals i) (all_held i)
            ∙ p.sided.both i t e (λ z. f (turn (Held other) (Held id) z));
        alone = λ i b e. ap (turn (Held other) (Held id)) (p.sided.alone i b e);
        never = λ i. ap (turn (Held other) (Held id)) (p.sided.never i);
      };
      mine = λ a k. dite (ℕ_discrete a other)
          (λ e. ap (λ (w : View T). count k w.sides) (ap (view_at joint) e ∙ here_is views1 other u at1 blank)
          ∙ sym (none_theirs k) ∙ ap (λ b. one_same (Held b) (turned k)) (sym e))
          (λ n. ap (λ (w : View T). count k w.sides) (else_is views1 other u at1 blank a n) ∙ dite (ℕ_discrete a id)
          (λ e. ap (λ (w : View T). count k w.sides) (ap (view_at views1) e ∙ here_is s.views id v at both) ∙ all_ours k
          ∙ ap (λ b. one_same (Held b) (turned k)) (sym e))
          (λ m. ap (λ (w : View T). count k w.sides) (else_is s.views id v at both a m) ∙ p.mine a k
          ∙ sym (else_turned a k n m)));
      keeping = keeping_as s.views joint turned
          (λ i. joint_sums (λ w. total (names i) w.armed_sides) refl
          (total-append (names i) v.armed_sides u.armed_sides)) joint_side_sums kept_turned p.keeping;
      noting = noting_as s.views joint (λ a i l e. joint_from (λ w. w.noted_sides) refl refl a i l e)
          (λ a i t e. joint_from (λ w. w.tags) refl refl a i t e)
          (λ a i q e. joint_from (λ w. w.places) refl refl a i q e) joint_side_sums p.noting;
      slotted = slotted_as s.views joint fits tag_of place_of g.armed g.ran turned joint_taken_as
          (λ a i t h. joint_claims_as a i h)
          (λ k m. ⊎_elim
          (λ (z : (one_same (Held other) (p.side k) ≡ 1) × (p.side k ≡ Held other) × (turned k ≡ Held id)). absurd
          (held_not_made id (Held id) refl (sym z.2 ∙ m)))
          (λ (z : (one_same (Held other) (p.side k) ≡ 0) × (turned k ≡ p.side k)). sym z.1 ∙ m)
          (turned_case k))
          (λ k m. ap (turn (Held other) (Held id)) m)
          (λ a k e t. ⊎_elim
          (λ (z : (one_same (Held other) (p.side k) ≡ 1) × (p.side k ≡ Held other) × (turned k ≡ Held id)).
          let is : other ≡ a = held_is other a (ap (one_same (Held other)) (sym e ∙ z.1) ∙ self_held other) in
          let y : count k (view_at s.views a).taken ≡ 0 =
          ap (λ b. count k (view_at s.views b).taken) (sym is) ∙ not_taken k in absurd (omega arith))
          (λ (z : (one_same (Held other) (p.side k) ≡ 0) × (turned k ≡ p.side k)). z.1 ∙ e)
          (turned_case k))
          (λ i e. e) (λ i e. e)
          (λ i j t e. joint_sums (λ w. total (keeps_at i j) w.armed) refl (total-append (keeps_at i j) v.armed u.armed))
          (λ i k t e. joint_side_sums i k)
          (λ a i q e. joint_from (λ w. w.places) refl refl a i q e)
          p.slotted;
    }
      where
        none_theirs : (k : ℕ) → one_same (Held other) (turned k) ≡ 0
        none_theirs k = ⊎_elim
            (λ (z : (one_same (Held other) (p.side k) ≡ 1) × (p.side k ≡ Held other) × (turned k ≡ Held id)). ap
            (one_same (Held other)) z.2 ∙ one_held other id apart)
            (λ (z : (one_same (Held other) (p.side k) ≡ 0) × (turned k ≡ p.side k)). ap (one_same (Held other)) z.1
            ∙ z.0)
            (turned_case k)

        all_ours : (k : ℕ) → count k both.sides ≡ one_same (Held id) (turned k)
        all_ours k = let x = total-append (one_at k) v.sides u.sides in let a = our_sides k in let b = their_sides k in
            ⊎_elim
            (λ (z : (one_same (Held other) (p.side k) ≡ 1) × (p.side k ≡ Held other) × (turned k ≡ Held id)). let c =
            z.0 in let d : one_same (Held id) (p.side k) ≡ 0 =
            ap (one_same (Held id)) z.1 ∙ one_held id other (λ e. apart (sym e)) in
            let f = ap (one_same (Held id)) z.2 in let h = self_held id in omega arith)
            (λ (z : (one_same (Held other) (p.side k) ≡ 0) × (turned k ≡ p.side k)). let c = z.0 in
            let f = ap (one_same (Held id)) z.1 in omega arith)
            (turned_case k)

        else_turned : (a k : ℕ) → a ≢ other → a ≢ id → one_same (Held a) (turned k) ≡ one_same (Held a) (p.side k)
        else_turned a k n m = ⊎_elim
            (λ (z : (one_same (Held other) (p.side k) ≡ 1) × (p.side k ≡ Held other) × (turned k ≡ Held id)). ap
            (one_same (Held a)) z.2 ∙ one_held a id m ∙ sym (ap (one_same (Held a)) z.1 ∙ one_held a other n))
            (λ (z : (one_same (Held other) (p.side k) ≡ 0) × (turned k ≡ p.side k)). ap (one_same (Held a)) z.1)
            (turned_case k)

        kept_turned : (i k : ℕ) → one_same (Kept i) (turned k) ≡ one_same (Kept i) (p.side k)
        kept_turned i k = ⊎_elim
            (λ (z : (one_same (Held other) (p.side k) ≡ 1) × (p.side k ≡ Held other) × (turned k ≡ Held id)). ap
            (one_same (Kept i)) z.2 ∙ sym (ap (one_same (Kept i)) z.1))
            (λ (z : (one_same (Held other) (p.side k) ≡ 0) × (turned k ≡ p.side k)). ap (one_same (Kept i)) z.1)
            (turned_case k)
