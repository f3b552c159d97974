-- What the callers know that join seats, and that arm and climb a tree.
use Rattle.std.proofs.Common.{◌≡◌, ◌≢◌, ℕ, ◌+◌, ◌-◌, ◌*◌, ◌/◌, ◌%◌, ◌<◌, ◌≤◌, [], ◌∷◌, ◌++◌, List, Some, cond, false}
use Rattle.std.proofs.Common.{nat_lt, ap, ◌∙◌, sym, subst, arith, ne_eqb, eq-eqb}
use Rattle.std.proofs.Math.Nat.{mod-lt}
use Rattle.std.proofs.lemmas.Grind.{common_steps}
use mathlib.Core.Logic.{dite}
use native.Mathlib.Decide.{ℕ_discrete}
use Rattle.completion_core.specs.declared.action.Reply.TheVariants.{Pending, Last}
use Rattle.completion_core.specs.Graph.{copies}
use Rattle.completion_core.specs.Legal.{count, only_at, reply_of_arrival}
use Rattle.pending_count.specs.declared.view.View.{View}
use Rattle.pending_count.specs.Views.{less, minus, note_of, rest_view, part_view, joined_view}
use Rattle.pending_count.specs.Steps.{IsArrived, IsArmed, IsAdded, IsClaimed, IsSettled, drawn_node}
use Rattle.test_completers.specs.RandomTrees.{parent, Knows, Has}
use Rattle.pending_count.proofs.SumLemmas.{one_at, total-append, total-minus, total-less, at_here, at_else, at_sym}
use Rattle.pending_count.proofs.RecordLemmas.{fresh-count, fresh_here, copies_fit}
use Rattle.pending_count.proofs.CallerLemmas.{was_pending, was_last, pending_held, last_held, last_noted}
use Rattle.pending_count.proofs.CallerLemmas.{last_side_notes, last_sides, claim_held, claim_noted, claim_side_notes}
use Rattle.pending_count.proofs.CallerLemmas.{claim_sides, arm_held, arm_note, arm_note_else, arm_side_note}
use Rattle.pending_count.proofs.CallerLemmas.{arm_side_note_else, arm_sides}

-- an arrival that wasn't the last
module _ {S T : Type 0} {nodes actor : ℕ} {v w : View T} (node n k : ℕ) (told : IsArrived S nodes actor node v n w)
    (have : 0 < count node v.held) (answer : Pending k ≡ reply_of_arrival (n - 1)) where
  more : n ≢ 1
  more = (was_pending n k answer told.some_owed).0

  pub only_one_fewer : (j : ℕ) → count j v.held ≤ count j w.held + count j (node ∷ [])
  only_one_fewer j = let h = pending_held node n told have more j in let s = at_sym j node in omega arith

-- k arrivals at the node are split off
module _ {T : Type 0} (node k c : ℕ) (v rest part : View T) (is : rest ≡ rest_view node k c [] v)
    (off : part ≡ part_view node k c [] v) where
  pub rest_knows : (upto : ℕ) → Knows upto v → Knows upto rest
  rest_knows upto old = record {
    notes = λ i p l. ap (λ (u : View T). note_of i u.noted) is ∙ old.notes i p l;
    side_notes = λ i p l. ap (λ (u : View T). note_of i u.noted_sides) is ∙ old.side_notes i p l;
    plain = λ i. ap (λ (u : View T). count i u.sides) is ∙ old.plain i;
  }

  pub part_knows : (upto : ℕ) → Knows upto v → Knows upto part
  part_knows upto old = record {
    notes = λ i p l. ap (λ (u : View T). note_of i u.noted) off ∙ old.notes i p l;
    side_notes = λ i p l. ap (λ (u : View T). note_of i u.noted_sides) off ∙ old.side_notes i p l;
    plain = λ i. ap (λ (u : View T). count i u.sides) off;
  }

  pub part_held : (i : ℕ) → count i part.held ≡ only_at node k i
  part_held i = ap (λ (u : View T). count i u.held) off ∙ fresh-count node k i

  module _ (have : k ≤ count node v.held) where
    pub rest_held : (i : ℕ) → count i rest.held + only_at node k i ≡ count i v.held
    rest_held i =
        let e : count i rest.held ≡ count i (minus (copies k node) v.held) = ap (λ (u : View T). count i u.held) is in
        let m = total-minus (one_at i) (copies k node) v.held (copies_fit node k v.held have) in
        let f = fresh-count node k i in
        omega arith

-- a first note stays the first
note_first : {A : Type 0} (i : ℕ) (a : A) (xs ys : List (ℕ × A)) → note_of i xs ≡ Some a → note_of i (xs ++ ys) ≡ Some a
note_first i a [] ys e = absurd (grind arith)
note_first i a (x ∷ xs) ys e = dite (ℕ_discrete x.0 i)
    (λ h. ap (λ b. cond b (Some x.1) (note_of i (xs ++ ys))) (eq-eqb x.0 i h)
    ∙ sym (ap (λ b. cond b (Some x.1) (note_of i xs)) (eq-eqb x.0 i h)) ∙ e)
    (λ n. ap (λ b. cond b (Some x.1) (note_of i (xs ++ ys))) (ne_eqb x.0 i n)
    ∙ note_first i a xs ys (sym (ap (λ b. cond b (Some x.1) (note_of i xs)) (ne_eqb x.0 i n)) ∙ e))

-- a seat is joined into one
module _ {T : Type 0} (v u both : View T) (all : both ≡ joined_view v u) where
  pub joined_held : (i : ℕ) → count i both.held ≡ count i v.held + count i u.held
  joined_held i = ap (λ (w : View T). count i w.held) all ∙ total-append (one_at i) v.held u.held

  pub joined_knows : (upto : ℕ) → Knows upto v → Knows upto u → Knows upto both
  joined_knows upto mine theirs = record {
    notes = λ i p l. ap (λ (w : View T). note_of i w.noted) all
        ∙ note_first i (parent i ∷ []) v.noted u.noted (mine.notes i p l);
    side_notes = λ i p l. ap (λ (w : View T). note_of i w.noted_sides) all
        ∙ note_first i [] v.noted_sides u.noted_sides (mine.side_notes i p l);
    plain = λ i. ap (λ (w : View T). count i w.sides) all
        ∙ (let a = total-append (one_at i) v.sides u.sides in let m = mine.plain i in let t = theirs.plain i in
        omega arith);
  }

-- a node is armed to keep the arrival that was added at its parent
module _ {S T : Type 0} {nodes k1 k2 k3 : ℕ} (node p n : ℕ) (is : p ≡ parent node) (v0 v1 v2 v3 : View T)
    (add : IsAdded S nodes k1 p 1 v0 v1) (claim : IsClaimed S nodes k2 v1 n v2) (drew : drawn_node nodes n ≡ Some node)
    (arm : IsArmed S nodes k3 node 0 (p ∷ []) v2 v3) (old : Knows (node - 1) v0) where
  none_held : (k : ℕ) → count k v2.sides ≡ 0
  none_held k = ap (count k) (claim_sides n node claim drew ∙ ap (λ (u : View T). u.sides) add.view) ∙ old.plain k

  pub grown_knows : Knows node v3
  grown_knows = record {
    notes = λ i q l. dite (ℕ_discrete i node)
        (λ e. subst (λ k. note_of k v3.noted ≡ Some (parent k ∷ [])) (sym e)
        (arm_note node 0 (p ∷ []) arm ∙ ap (λ k. Some (k ∷ [])) is))
        (λ m. arm_note_else node 0 (p ∷ []) arm i m
        ∙ ap (note_of i) (claim_noted n node claim drew ∙ ap (λ (u : View T). u.noted) add.view)
        ∙ old.notes i q (omega arith));
    side_notes = λ i q l. dite (ℕ_discrete i node)
        (λ e. subst (λ k. note_of k v3.noted_sides ≡ Some []) (sym e) (arm_side_note node 0 (p ∷ []) arm none_held))
        (λ m. arm_side_note_else node 0 (p ∷ []) arm i m
        ∙ ap (note_of i) (claim_side_notes n node claim drew ∙ ap (λ (u : View T). u.noted_sides) add.view)
        ∙ old.side_notes i q (omega arith));
    plain = arm_sides node 0 (p ∷ []) arm none_held;
  }

  more_held : (i : ℕ) → count i v2.held ≡ count i (copies 1 p) + count i v0.held
  more_held i = ap (count i) (claim_held n node claim drew) ∙ ap (λ (u : View T). count i u.held) add.view
      ∙ total-append (one_at i) (copies 1 p) v0.held

  pub grown_has : Has 1 node v0 → Has 1 (node + 1) v3
  grown_has has i low high =
      let h = arm_held node 0 (p ∷ []) arm (λ j. let m = more_held j in omega arith) i in
      let m = more_held i in
      dite (ℕ_discrete i node)
      (λ e. let o : only_at node 1 i ≡ 1 = ap (only_at node 1) e ∙ fresh_here node 1 in omega arith)
      (λ d. let a = has i low (omega arith) in omega arith)

pub parent_low : (node : ℕ) → 0 < node → parent node < node
parent_low node pos = dite (ℕ_discrete node 1)
    (λ e. subst (λ k. parent k < k) (sym e) (omega arith))
    (λ n. let b : nat_lt node 2 ≡ false = not_low node (omega arith) in
    subst (λ t. cond t 0 (node * 2654435761 / 65536 % (node - 1) + 1) < node) (sym b)
    (let m = mod-lt (node * 2654435761 / 65536) {m = node - 1} (omega arith) in omega arith))
  where
    not_low : (node : ℕ) → 1 < node → nat_lt node 2 ≡ false
    not_low node h = grind (arith, common_steps)

-- the last arrival at a node of the tree
module _ {S T : Type 0} {nodes actor : ℕ} {v w : View T} (node n : ℕ) (told : IsArrived S nodes actor node v n w)
    (have : 0 < count node v.held) (answer : Last ≡ reply_of_arrival (n - 1)) (old : Knows nodes v) (pos : 0 < node)
    (low : node ≤ nodes) where
  one : n ≡ 1
  one = was_last n answer told.some_owed

  pub last_knows : Knows nodes w
  last_knows = record {
    notes = λ i p l. ap (note_of i) (last_noted node n told have one) ∙ old.notes i p l;
    side_notes = λ i p l. ap (note_of i) (last_side_notes node n told have one) ∙ old.side_notes i p l;
    plain = last_sides node n told have one (old.side_notes node pos low) old.plain;
  }

  pub last_gives : (j : ℕ) → count j w.held + count j (node ∷ []) ≡ count j (parent node ∷ []) + count j v.held
  last_gives j = let h = last_held node n told have one (parent node ∷ []) (old.notes node pos low) j in
      let s = at_sym j node in omega arith

  pub parent_is_back : 0 < count (parent node) w.held
  parent_is_back =
      let g = last_gives (parent node) in
      let h = at_here (parent node) in
      let z = at_else (parent node) node (λ e. let l = parent_low node pos in absurd (omega arith)) in
      omega arith

  -- and, where that is the root, the arrival at END
  module _ {actor' : ℕ} (u : View T) (settled : IsSettled S nodes actor' w u) (top : parent node ≡ 0) where
    pub settled_knows : Knows nodes u
    settled_knows = record {
      notes = λ i p l. ap (λ (x : View T). note_of i x.noted) settled.view ∙ last_knows.notes i p l;
      side_notes = λ i p l. ap (λ (x : View T). note_of i x.noted_sides) settled.view ∙ last_knows.side_notes i p l;
      plain = λ i. ap (λ (x : View T). count i x.sides) settled.view ∙ last_knows.plain i;
    }

    pub settled_fewer : (j : ℕ) → count j v.held ≤ count j u.held + count j (node ∷ [])
    settled_fewer j =
        let g = last_gives j in
        let back : 0 < count 0 w.held = subst (λ k. 0 < count k w.held) top parent_is_back in
        let e : count j u.held ≡ count j (less 0 w.held) = ap (λ (x : View T). count j x.held) settled.view in
        let l = total-less (one_at j) 0 w.held back in
        let t : count j (parent node ∷ []) ≡ count j (0 ∷ []) = ap (λ k. count j (k ∷ [])) top in
        omega arith
