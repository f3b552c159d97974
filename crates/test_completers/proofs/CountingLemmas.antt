-- What the callers in the tests know before each of their calls.
use Rattle.std.proofs.Common.{◌≡◌, ◌≢◌, ℕ, ◌<◌, ◌≤◌, [], ◌∷◌, ◌+◌, sym, ap, ◌∙◌, subst, arith, Some}
use mathlib.Core.Logic.{dite}
use native.Mathlib.Decide.{ℕ_discrete}
use Rattle.completion_core.specs.Legal.{count}
use Rattle.pending_count.specs.declared.view.View.{View}
use Rattle.pending_count.specs.Views.{IsPlainAt, left_slot, right_slot, first_view, note_of, less, armed_view}
use Rattle.pending_count.specs.Views.{rest_view, part_view}
use Rattle.pending_count.specs.Steps.{IsClaimed, IsArmed, IsArrived, drawn_node}
use Rattle.pending_count.proofs.SumLemmas.{one_at, total-less, at_here, at_else}
use Rattle.pending_count.proofs.RecordLemmas.{fresh_here}
use Rattle.pending_count.proofs.CallerLemmas.{drawn_is, claim_held, claim_noted, claim_credit, claim_sides}
use Rattle.pending_count.proofs.CallerLemmas.{claim_larger, pending_held, pending_sides, pending_side_notes, arm_held}
use Rattle.pending_count.proofs.CallerLemmas.{arm_sides, arm_side_note, arm_note, arm_note_else, pending_noted}
use Rattle.pending_count.proofs.CallerLemmas.{last_sides, last_held, last_noted}

-- the single entry of a list
pub only_one : (i a : ℕ) → 0 < count i (a ∷ []) → i ≡ a
only_one i a h = dite (ℕ_discrete i a) (λ e. e) (λ n. let z = at_else i a (λ e. n (sym e)) in absurd (omega arith))

-- a seat that drew one node, and armed it, can pay for another
pub can_claim : {S T : Type 0} {nodes k1 k2 : ℕ} (v0 v1 v2 : View T) (a n1 : ℕ) → v0 ≡ first_view 1
    → IsClaimed S nodes k1 v0 n1 v1 → drawn_node nodes n1 ≡ Some a → IsArmed S nodes k2 a 0 (0 ∷ []) v1 v2
    → 0 < v2.credit
can_claim v0 v1 v2 a n1 first c1 d1 r1 =
    let e : v2.credit ≡ v1.credit = ap (λ (u : View _). u.credit) r1.view in
    let f = claim_credit n1 a c1 d1 in
    let h : v0.credit ≡ 4611686018427387904 = ap (λ (u : View _). u.credit) first in
    omega arith

-- three seats, each with one of a plain node's three arrivals
module _ {T : Type 0} (node : ℕ) (w first rest second third : View T) (is1 : first ≡ rest_view node 2 0 [] w)
    (is2 : rest ≡ part_view node 2 0 [] w) (is3 : second ≡ rest_view node 1 0 [] rest)
    (is4 : third ≡ part_view node 1 0 [] rest) where
  pub three_have : (v : View T) → w ≡ armed_view node 2 [] v
      → (0 < count node first.held) × (0 < count node second.held) × (0 < count node third.held)
  three_have v armed =
      let o = at_here node in
      let h0 : count node w.held ≡ one_at node node + (one_at node node + (one_at node node + count node v.held)) =
      ap (λ (x : View T). count node x.held) armed in
      let h1 : count node first.held ≡ count node (less node (less node w.held)) =
      ap (λ (x : View T). count node x.held) is1 in
      let l1 = total-less (one_at node) node w.held (omega arith) in
      let l2 = total-less (one_at node) node (less node w.held) (omega arith) in
      let h2 : count node rest.held ≡ one_at node node + (one_at node node + 0) =
      ap (λ (x : View T). count node x.held) is2 in
      let h3 : count node second.held ≡ count node (less node rest.held) = ap (λ (x : View T). count node x.held) is3 in
      let l3 = total-less (one_at node) node rest.held (omega arith) in
      let h4 : count node third.held ≡ one_at node node + 0 = ap (λ (x : View T). count node x.held) is4 in
      (omega arith, omega arith, omega arith)

  pub three_plain : ((k : ℕ) → count k w.sides ≡ 0)
      → IsPlainAt node first × IsPlainAt node second × IsPlainAt node third
  three_plain none_held =
      let p1 : (k : ℕ) → count k first.sides ≡ 0 = λ k. ap (λ (x : View T). count k x.sides) is1 ∙ none_held k in
      let p2 : (k : ℕ) → count k rest.sides ≡ 0 = λ k. ap (λ (x : View T). count k x.sides) is2 in
      let p3 : (k : ℕ) → count k second.sides ≡ 0 = λ k. ap (λ (x : View T). count k x.sides) is3 ∙ p2 k in
      let p4 : (k : ℕ) → count k third.sides ≡ 0 = λ k. ap (λ (x : View T). count k x.sides) is4 in
      let l : IsPlainAt node third = (p4 (left_slot node), p4 (right_slot node)) in
      ((p1 (left_slot node), p1 (right_slot node)), (p3 (left_slot node), p3 (right_slot node)), l)

-- no side is held by a first seat that drew a node and armed it with nothing to keep
pub none_taken : {S T : Type 0} {nodes k1 k2 p : ℕ} (v0 v1 v2 : View T) (a n : ℕ) → v0 ≡ first_view 0
    → IsClaimed S nodes k1 v0 n v1 → drawn_node nodes n ≡ Some a → IsArmed S nodes k2 a p [] v1 v2 → (k : ℕ)
    → count k v2.sides ≡ 0
none_taken {p = p} v0 v1 v2 a n first claimed drew armed =
    arm_sides a p [] armed (λ k. ap (count k) (claim_sides n a claimed drew ∙ ap (λ (u : View _). u.sides) first))

-- a claims and arms the first node, b the second, which keeps an arrival at the first
module _ {S T : Type 0} {nodes k1 k2 k3 : ℕ} (v0 v1 v2 v3 : View T) (a b n1 n2 : ℕ) (first : v0 ≡ first_view 1)
    (c1 : IsClaimed S nodes k1 v0 n1 v1) (d1 : drawn_node nodes n1 ≡ Some a)
    (r1 : IsArmed S nodes k2 a 0 (0 ∷ []) v1 v2) (c2 : IsClaimed S nodes k3 v2 n2 v3)
    (d2 : drawn_node nodes n2 ≡ Some b) where
  pub first_above : 0 < a
  first_above = let d = (drawn_is nodes n1 a d1).0 in omega arith

  fit1 : (i : ℕ) → count i (0 ∷ []) ≤ count i v1.held
  fit1 i = let e : count i v1.held ≡ count i (0 ∷ []) =
      ap (count i) (claim_held n1 a c1 d1 ∙ ap (λ (u : View T). u.held) first) in omega arith

  have_first : 0 < count a v2.held
  have_first = let h = arm_held a 0 (0 ∷ []) r1 fit1 a in let o = at_here a in let f = fit1 a in omega arith

  pub second_above : a < b
  second_above = claim_larger n2 b c2 d2 a have_first

  pub onward_smaller : (i : ℕ) → 0 < count i (a ∷ []) → i < b
  onward_smaller i h = let e = only_one i a h in let s = second_above in omega arith

  fit2 : (i : ℕ) → count i (a ∷ []) ≤ count i v3.held
  fit2 i = let e : count i v3.held ≡ count i v2.held = ap (count i) (claim_held n2 b c2 d2) in dite (ℕ_discrete i a)
      (λ q. subst (λ k. count k (a ∷ []) ≤ count k v3.held) (sym q)
      (let o = at_here a in let f : count a v3.held ≡ count a v2.held = ap (count a) (claim_held n2 b c2 d2) in
      let h = have_first in omega arith))
      (λ m. let z = at_else i a (λ q. m (sym q)) in omega arith)

  none_held1 : (k : ℕ) → count k v1.sides ≡ 0
  none_held1 k = ap (count k) (claim_sides n1 a c1 d1 ∙ ap (λ (u : View T). u.sides) first)

  none_held3 : (k : ℕ) → count k v3.sides ≡ 0
  none_held3 k = ap (count k) (claim_sides n2 b c2 d2) ∙ arm_sides a 0 (0 ∷ []) r1 none_held1 k

  pub both_above : 0 < b
  both_above = let s = second_above in let f = first_above in omega arith

  -- the arrivals at the second node
  module _ {k4 : ℕ} (v4 : View T) (r2 : IsArmed S nodes k4 b 1 (a ∷ []) v3 v4) where
    pub second_plain : IsPlainAt b v4
    second_plain = (
      arm_sides b 1 (a ∷ []) r2 none_held3 (left_slot b),
      arm_sides b 1 (a ∷ []) r2 none_held3 (right_slot b),
    )

    second_held : 1 < count b v4.held
    second_held = let h = arm_held b 1 (a ∷ []) r2 fit2 b in let o = fresh_here b 2 in
        let z = at_else b a (λ e. let s = second_above in absurd (omega arith)) in omega arith

    module _ {k5 : ℕ} (v5 : View T) (n3 : ℕ) (p : IsArrived S nodes k5 b v4 n3 v5) (more : n3 ≢ 1) where
      some_held : 0 < count b v4.held
      some_held = let h = second_held in omega arith

      pub second_again : IsPlainAt b v5
      second_again = (
        ap (count (left_slot b)) (pending_sides b n3 p some_held more) ∙ second_plain.0,
        ap (count (right_slot b)) (pending_sides b n3 p some_held more) ∙ second_plain.1,
      )

      pub second_left : 0 < count b v5.held
      second_left = let h = pending_held b n3 p some_held more b in let t = second_held in let o = at_here b in
          omega arith

  module _ {k4 k5 k6 : ℕ} (v4 v5 v6 : View T) (r2 : IsArmed S nodes k4 b 1 (a ∷ []) v3 v4) (n3 n4 : ℕ)
      (p : IsArrived S nodes k5 b v4 n3 v5) (more : n3 ≢ 1) (l : IsArrived S nodes k6 b v5 n4 v6) (one : n4 ≡ 1) where
    apart : a ≢ b
    apart e = let s = second_above in absurd (omega arith)

    two_there : 1 < count b v4.held
    two_there = let h = arm_held b 1 (a ∷ []) r2 fit2 b in let o = fresh_here b 2 in let z = at_else b a apart in
        omega arith

    some_there : 0 < count b v4.held
    some_there = let h = two_there in omega arith

    one_there : 0 < count b v5.held
    one_there = let h = pending_held b n3 p some_there more b in let t = two_there in let o = at_here b in omega arith

    none_held4 : (k : ℕ) → count k v4.sides ≡ 0
    none_held4 = arm_sides b 1 (a ∷ []) r2 none_held3

    none_held5 : (k : ℕ) → count k v5.sides ≡ 0
    none_held5 k = ap (count k) (pending_sides b n3 p some_there more) ∙ none_held4 k

    none_held6 : (k : ℕ) → count k v6.sides ≡ 0
    none_held6 = last_sides b n4 l one_there one
        (ap (note_of b) (pending_side_notes b n3 p some_there more) ∙ arm_side_note b 1 (a ∷ []) r2 none_held3)
        none_held5

    pub first_plain : IsPlainAt a v6
    first_plain = (none_held6 (left_slot a), none_held6 (right_slot a))

    pub first_is_back : 0 < count a v6.held
    first_is_back =
        let note : note_of b v5.noted ≡ Some (a ∷ []) =
        ap (note_of b) (pending_noted b n3 p some_there more) ∙ arm_note b 1 (a ∷ []) r2 in
        let h = last_held b n4 l one_there one (a ∷ []) note a in
        let o = at_here a in
        let z = at_else b a apart in
        omega arith

    module _ {k7 : ℕ} (v7 : View T) (n5 : ℕ) (m : IsArrived S nodes k7 a v6 n5 v7) (one' : n5 ≡ 1) where
      pub end_is_back : 0 < count 0 v7.held
      end_is_back =
          let note : note_of a v6.noted ≡ Some (0 ∷ []) =
          ap (note_of a) (last_noted b n4 l one_there one ∙ pending_noted b n3 p some_there more)
          ∙ arm_note_else b 1 (a ∷ []) r2 a apart ∙ ap (note_of a) (claim_noted n2 b c2 d2)
          ∙ arm_note a 0 (0 ∷ []) r1 in
          let h = last_held a n5 m first_is_back one' (0 ∷ []) note 0 in
          let z = at_else a 0 (λ e. let q = first_above in absurd (omega arith)) in
          omega arith
