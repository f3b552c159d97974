-- What a claim and an addition are to the sides of pairs, and what is split off.
use Rattle.std.proofs.Common.{◌≡◌, ◌≢◌, ℕ, ◌+◌, ◌-◌, ◌<◌, ◌≤◌, cond, Bool, true, false, List, [], ◌∷◌, ◌++◌, set, sym}
use Rattle.std.proofs.Common.{refl, ap, ◌∙◌, arith, ne_eqb, Option, Some, None, ◌⊎◌, ⊎_elim}
use mathlib.Core.Logic.{dite}
use mathlib.Core.Option.{some}
use native.Mathlib.Decide.{ℕ_discrete}
use lib.ListN.{get_elem?}
use Rattle.atomic_table.specs.Table.{State}
use Rattle.completion_core.specs.Graph.{Held, one_same, total, copies, Graph}
use Rattle.completion_core.specs.Legal.{with_fresh, only_at, count, upd}
use Rattle.pending_count.specs.declared.view.View.{View}
use Rattle.pending_count.specs.declared.place.Side.{Side}
use Rattle.pending_count.specs.declared.place.Place.{Place}
use Rattle.pending_count.specs.declared.place.Slot.{Slot}
use Rattle.pending_count.specs.Views.{left_slot, right_slot, IsPlainAt, SplitOff, added_view}
use Rattle.pending_count.specs.Shows.{Shows}
use Rattle.pending_count.specs.Pairs.{Pairing, side_slot}
use Rattle.pending_count.proofs.SumLemmas.{one_at, total-append, at_here, at_else}
use Rattle.pending_count.proofs.SideRuleLemmas.{by_option, none_some}
use Rattle.pending_count.proofs.RecordLemmas.{fresh_else}
use Rattle.pending_count.proofs.RuleLemmas.{mine}
use Rattle.pending_count.proofs.PlainSideLemmas as plain

module _ {V K T : Type 0} (fits : T → Side → V → Type 0) (tag_of : K → T) (place_of : K → Option (Place T)) (nodes : ℕ)
    (s : State (Option (Slot V K)) (View T)) (g : Graph) (r : Shows nodes s g)
    (p : Pairing fits tag_of place_of nodes s.homes s.views g.arrivals g.armed g.ran) where
  -- END is no pair
  pub end_plain : p.tag 0 ≡ None
  end_plain = by_option (p.tag 0) (p.tag 0 ≡ None) (λ e. e)
      (λ t e. let b = (r.running.below 0 (p.sided.pairs 0 t e)).0 in absurd (omega arith))

  module _ (id : ℕ) (v : View T) (at : get_elem? s.views id ≡ some v) where
    pub claimed_sides : (n : ℕ) (b c : Bool)
        → Pairing fits tag_of place_of nodes s.homes
        (set s.views id (cond b (record v { credit = v.credit - 1; claims = (n + 1) ∷ v.claims })
        (record v { credit = v.credit - 1; none_left = true })))
        (cond c (record g { drawn = g.drawn + 1; claimer = upd g.claimer (g.drawn + 1) id }) g).arrivals
        (cond c (record g { drawn = g.drawn + 1; claimer = upd g.claimer (g.drawn + 1) id }) g).armed
        (cond c (record g { drawn = g.drawn + 1; claimer = upd g.claimer (g.drawn + 1) id }) g).ran
    claimed_sides n true true = plain.plain_stays fits tag_of place_of nodes s g r p id v at
        (record v { credit = v.credit - 1; claims = (n + 1) ∷ v.claims }) g.arrivals refl refl refl refl refl refl refl
        (λ i h. omega arith) (λ i t e f. refl)
    claimed_sides n true false = plain.plain_stays fits tag_of place_of nodes s g r p id v at
        (record v { credit = v.credit - 1; claims = (n + 1) ∷ v.claims }) g.arrivals refl refl refl refl refl refl refl
        (λ i h. omega arith) (λ i t e f. refl)
    claimed_sides n false true = plain.plain_stays fits tag_of place_of nodes s g r p id v at
        (record v { credit = v.credit - 1; none_left = true }) g.arrivals refl refl refl refl refl refl refl (λ i h. h)
        (λ i t e f. refl)
    claimed_sides n false false = plain.plain_stays fits tag_of place_of nodes s g r p id v at
        (record v { credit = v.credit - 1; none_left = true }) g.arrivals refl refl refl refl refl refl refl (λ i h. h)
        (λ i t e f. refl)

    -- it holds no side of a node that isn't drawn yet
    pub not_drawn : (i : ℕ) (b : Bool) → g.drawn < i → count (side_slot i b) v.sides ≡ 0
    not_drawn i b behind = ap (λ (u : View T). count (side_slot i b) u.sides) (sym (mine s.views id v at))
        ∙ p.mine id (side_slot i b)
        ∙ ap (one_same (Held id)) (p.sided.alone i b
        (by_option (p.tag i) (p.tag i ≡ None) (λ e. e)
        (λ t e. let low = (r.running.below i (p.sided.pairs i t e)).1 in absurd (omega arith))))

    pub added_sides : (node d : ℕ) → p.tag node ≡ None
        → Pairing fits tag_of place_of nodes s.homes (set s.views id (added_view node d v))
        (with_fresh node d (Held id) g.arrivals) g.armed g.ran
    added_sides node d none_there = plain.plain_stays fits tag_of place_of nodes s g r p id v at (added_view node d v)
        (with_fresh node d (Held id) g.arrivals) refl refl refl refl refl refl refl (λ i h. h)
        (λ i t e f. let apart : i ≢ node = (λ h. none_some t (sym none_there ∙ ap p.tag (sym h) ∙ e)) in
        ap (λ b. total f (g.arrivals i ++ cond b (copies d (Held id)) [])) (ne_eqb i node apart)
        ∙ total-append f (g.arrivals i) [] ∙ omega arith)

    pub split_off : (node k : ℕ) (l : List ℕ) → k ≤ count node v.held → (k ≡ 0 → node ≡ 0) → SplitOff node k l v
        → (i : ℕ) (t : T) → p.tag i ≡ Some t → only_at node k i ≡ count (left_slot i) l + count (right_slot i) l
    split_off node k l have end off i t e = ⊎_elim
        (λ (z : (l ≡ []) × (0 < node → IsPlainAt node v)).
        let a = ap (count (left_slot i)) z.0 in let b = ap (count (right_slot i)) z.0 in
        let none_there : p.tag node ≡ None =
        dite (ℕ_discrete node 0) (λ h. ap p.tag h ∙ end_plain)
        (λ n. plain.is_plain fits tag_of place_of nodes s g r p id v at node
        (dite (ℕ_discrete k 0) (λ q. absurd (n (end q))) (λ m. omega arith)) (z.1 (omega arith))) in
        let c = fresh_else node k i (λ h. none_some t (sym none_there ∙ ap p.tag (sym h) ∙ e)) in omega arith)
        (λ (z : (k ≡ 1) × (0 < node) × ((l ≡ left_slot node ∷ []) ⊎ (l ≡ right_slot node ∷ []))).
        let one : only_at node k i ≡ only_at node 1 i = ap (λ k. only_at node k i) z.0 in ⊎_elim
        (λ (q : l ≡ left_slot node ∷ []). let a = ap (count (left_slot i)) q in let b = ap (count (right_slot i)) q in
        let c = at_else (right_slot i) (left_slot node) (λ h. absurd (omega arith)) in dite (ℕ_discrete i node)
        (λ h. let d : one_at (left_slot i) (left_slot node) ≡ 1 =
        ap (λ j. one_at (left_slot j) (left_slot node)) h ∙ at_here (left_slot node) in
        let f : only_at node 1 i ≡ 1 = ap (only_at node 1) h ∙ at_here node in omega arith)
        (λ n. let d = at_else (left_slot i) (left_slot node) (λ h. n (omega arith)) in let f = fresh_else node 1 i n in
        omega arith))
        (λ (q : l ≡ right_slot node ∷ []). let a = ap (count (left_slot i)) q in let b = ap (count (right_slot i)) q in
        let c = at_else (left_slot i) (right_slot node) (λ h. absurd (omega arith)) in dite (ℕ_discrete i node)
        (λ h. let d : one_at (right_slot i) (right_slot node) ≡ 1 =
        ap (λ j. one_at (right_slot j) (right_slot node)) h ∙ at_here (right_slot node) in
        let f : only_at node 1 i ≡ 1 = ap (only_at node 1) h ∙ at_here node in omega arith)
        (λ n. let d = at_else (right_slot i) (right_slot node) (λ h. n (omega arith)) in
        let f = fresh_else node 1 i n in omega arith))
        z.2)
        off
