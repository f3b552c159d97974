-- What a seat's notes say of the top of its tree, when it forks and when it climbs.
use Rattle.std.proofs.Common.{◌≡◌, ◌≢◌, ℕ, ◌+◌, ◌-◌, ◌<◌, ◌≤◌, cond, nat_lt, Bool, true, List, [], ◌∷◌, ◌++◌, sym, refl}
use Rattle.std.proofs.Common.{ap, ◌∙◌, subst, arith, ne_eqb, Some, None, Option}
use Rattle.std.proofs.lemmas.Grind.{common_steps}
use Rattle.std.specs.Prelude.{IfSome}
use Rattle.pending_count.specs.declared.place.Fits.{Ghosts}
use Rattle.atomic_table.specs.Seated.{TableId}
use Rattle.pending_count.specs.declared.seat.Seat.{Seat}
use Rattle.pending_count.specs.Seats.{view_of, table_of}
use Rattle.completer_tree.specs.Trees.{CanHand, CanFork, IsUnchanged}
use mathlib.Core.Logic.{dite}
use native.Mathlib.Decide.{ℕ_discrete}
use Rattle.completion_core.specs.Legal.{count}
use Rattle.pending_count.specs.declared.view.View.{View}
use Rattle.pending_count.specs.declared.place.Place.{Place}
use Rattle.pending_count.specs.declared.place.Side.{Side}
use Rattle.pending_count.specs.Views.{less, minus, note_of, sides_of, closed_view, paired_view, rest_view, part_view}
use Rattle.pending_count.specs.Views.{left_slot, right_slot}
use Rattle.pending_count.specs.Pairs.{slot_of, noted_place, tags_after}
use Rattle.pending_count.specs.PairSteps.{IsKept}
use Rattle.pending_count.specs.Steps.{IsClaimed, drawn_node}
use Rattle.pending_count.proofs.SumLemmas.{one_at, total-append, total-less, here, some_is}
use Rattle.pending_count.proofs.CallerLemmas.{drawn_is}
use Rattle.completer_tree.proofs.ForkLemmas.{less_le, minus_le}
use Rattle.completer_tree.specs.Roots.{Notes, Leads, Rooted, KnowsTop, HasKept, parent_of, root_of, root_note}
use Rattle.completer_tree.specs.Places.{place_by}
use Rattle.completer_tree.specs.Climbs.{HasMoved}

-- what is noted is known
some_of : {A : Type 0} (o : Option A) → o ≢ None → (a : A) × (o ≡ Some a)
some_of None n = absurd (n refl)
some_of (Some a) n = (a, refl)

not_none : {A : Type 0} (o : Option A) (a : A) → o ≡ Some a → o ≢ None
not_none o a e n = absurd (grind arith)

below : (n nodes : ℕ) → n < nodes → nat_lt n nodes ≡ true
below n nodes h = grind (arith, common_steps)

-- a note of one node is no note of another
else_note : {A : Type 0} (node i : ℕ) (a : A) (xs : List (ℕ × A)) → i ≢ node → note_of i ((node, a) ∷ xs) ≡ note_of i xs
else_note node i a xs n = ap (λ b. cond b (Some a) (note_of i xs)) (ne_eqb node i (λ e. n (sym e)))

here_note : {A : Type 0} (node : ℕ) (a : A) (xs : List (ℕ × A)) → note_of node ((node, a) ∷ xs) ≡ Some a
here_note node a xs = ap (λ b. cond b (Some a) (note_of node xs)) (here node)

-- a place of this tree that was noted is the one with which the node was armed
pub place_is : {T : Type 0} (at : Option (Place T)) (goes : Option (T × Bool)) (node : ℕ) → (at ≡ None → goes ≡ None)
    → ((p : Place T) → at ≡ Some p → at ≡ place_by p.node p.root goes)
    → place_by (parent_of at) (root_of at node) goes ≡ at
place_is None goes node top placed = ap (λ o. place_by 0 node o) (top refl)
place_is (Some p) goes node top placed = sym (placed p refl)

module _ {S T : Type 0} {nodes actor n : ℕ} (node : ℕ) (onward : List ℕ) (tag : T) (at : Option (Place T))
    (v0 v1 v2 : View T) (claim : IsClaimed S nodes actor v0 n v1) (drew : drawn_node nodes n ≡ Some node)
    (is : v2 ≡ paired_view node onward tag (noted_place at) v1) (rooted : Rooted v0.places)
    (leads : (p : Place T) → at ≡ Some p → Leads v0.places p.node p.root × (p.node ≤ n)) where
  abbrev drawn : View T
  drawn = record v0 { credit = v0.credit - 1; claims = (n + 1) ∷ v0.claims }

  claim_is : v1 ≡ drawn
  claim_is = claim.view ∙ ap (λ c. cond c drawn (record v0 { credit = v0.credit - 1; none_left = true }))
      (below n nodes (drawn_is nodes n node drew).1)

  node_is : node ≡ n + 1
  node_is = (drawn_is nodes n node drew).0

  pub places_is : v2.places ≡ (node, noted_place at) ∷ v0.places
  places_is = ap (λ (u : View T). u.places) is ∙ ap (λ (u : View T). (node, noted_place at) ∷ u.places) claim_is

  pub noted_is : v2.noted ≡ (node, onward) ∷ v0.noted
  noted_is = ap (λ (u : View T). u.noted) is ∙ ap (λ (u : View T). (node, onward) ∷ u.noted) claim_is

  pub noted_sides_is : v2.noted_sides ≡ (node, sides_of onward v0.sides) ∷ v0.noted_sides
  noted_sides_is = ap (λ (u : View T). u.noted_sides) is
      ∙ ap (λ (u : View T). (node, sides_of onward u.sides) ∷ u.noted_sides) claim_is

  abbrev after : Notes T
  after = (node, noted_place at) ∷ v0.places

  older : (m : ℕ) → note_of m v0.places ≢ None → m ≢ node
  older m known e = let s = some_of (note_of m v0.places) known in let l = claim.unplaced m s.0 s.1 in
      let k = node_is in absurd (omega arith)

  same : (m : ℕ) → m ≢ node → note_of m after ≡ note_of m v0.places
  same m other = else_note node m (noted_place at) v0.places other

  leads_on : (m root : ℕ) → Leads v0.places m root → Leads after m root
  leads_on m root l =
      let o = same m (older m l.known) in
      record {
        known = λ z. l.known (sym o ∙ z);
        top = λ z. l.top (sym o ∙ z);
        under = λ q z. l.under q (sym o ∙ z);
        low = l.low;
      }

  under_here : (o : Option (Place T)) → ((p : Place T) → o ≡ Some p → Leads v0.places p.node p.root × (p.node ≤ n))
      → (q : ℕ × (ℕ × (ℕ × T))) → noted_place o ≡ Some q → Leads after q.0 q.1.1.0
  under_here None l q e = absurd (grind arith)
  under_here (Some p) l q e = subst (λ (z : ℕ × (ℕ × (ℕ × T))). Leads after z.0 z.1.1.0)
      (some_is (p.node, (slot_of p.node p.side, (p.root, p.tag))) q e) (leads_on p.node p.root (l p refl).0)

  rooted_on : Rooted after
  rooted_on m q e = dite (ℕ_discrete m node)
      (λ z. under_here at leads q (some_is (noted_place at) (Some q)
      (sym (here_note node (noted_place at) v0.places) ∙ ap (λ k. note_of k after) (sym z) ∙ e)))
      (λ z. leads_on q.0 q.1.1.0 (rooted m q (sym (same m z) ∙ e)))

  leads_here : (o : Option (Place T)) → noted_place o ≡ noted_place at
      → ((p : Place T) → o ≡ Some p → Leads v0.places p.node p.root × (p.node ≤ n)) → Leads after node (root_of o node)
  leads_here None e l = record {
    known = not_none (note_of node after) (noted_place at) (here_note node (noted_place at) v0.places);
    top = λ z. refl;
    under = λ q z. let f : None ≡ Some q =
        e ∙ some_is (noted_place at) (Some q) (sym (here_note node (noted_place at) v0.places) ∙ z) in
        absurd (grind arith);
    low = omega arith;
  }
  leads_here (Some p) e l = record {
    known = not_none (note_of node after) (noted_place at) (here_note node (noted_place at) v0.places);
    top = λ z. let f : Some (p.node, (slot_of p.node p.side, (p.root, p.tag))) ≡ None =
        e ∙ some_is (noted_place at) None (sym (here_note node (noted_place at) v0.places) ∙ z) in absurd (grind arith);
    under = λ q z.
        let f : Some (p.node, (slot_of p.node p.side, (p.root, p.tag))) ≡ Some q =
        e ∙ some_is (noted_place at) (Some q) (sym (here_note node (noted_place at) v0.places) ∙ z) in
        sym (ap (λ (y : ℕ × (ℕ × (ℕ × T))). y.1.1.0) (some_is (p.node, (slot_of p.node p.side, (p.root, p.tag))) q f));
    low = (let a = (l p refl).0.low in let b = (l p refl).1 in let k = node_is in omega arith);
  }

  root_known : (o : Option (Place T)) → ((p : Place T) → o ≡ Some p → Leads v0.places p.node p.root × (p.node ≤ n))
      → (given : List ℕ) (mine : List ℕ) (noted : List (ℕ × List ℕ)) → root_note o mine noted ≡ Some given
      → note_of (root_of o node) ((node, mine) ∷ noted) ≡ Some given
  root_known None l given mine noted e = here_note node mine noted ∙ e
  root_known (Some p) l given mine noted e =
      else_note node p.root mine noted (λ z. let a = (l p refl).0.low in let b = (l p refl).1 in let k = node_is in
      absurd (omega arith)) ∙ e

  sides_is : v2.sides ≡ left_slot node ∷ right_slot node ∷ minus (sides_of onward v0.sides) v0.sides
  sides_is = ap (λ (u : View T). u.sides) is
      ∙ ap (λ (u : View T). left_slot node ∷ right_slot node ∷ minus (sides_of onward u.sides) u.sides) claim_is

  -- of a seat with these notes: a place of this tree that was noted is the one with which the node was armed
  module _ (w : View T) (p : Place T) (where_is : p.node ≡ node) (root_is : p.root ≡ root_of at node)
      (places : w.places ≡ v2.places) (noted : w.noted ≡ v2.noted) (noted_sides : w.noted_sides ≡ v2.noted_sides)
      (few : (k : ℕ) → count k w.sides ≤ count k v2.sides) where
    pub fork_leads : Leads w.places p.node p.root
    fork_leads = subst (λ l. Leads l p.node p.root) (sym (places ∙ places_is))
        (subst (λ k. Leads after k p.root) (sym where_is)
        (subst (λ k. Leads after node k) (sym root_is) (leads_here at refl leads)))

    pub fork_rooted : Rooted w.places
    fork_rooted = subst (λ l. Rooted l) (sym (places ∙ places_is)) rooted_on

    pub fork_knows : KnowsTop at onward p v0 w
    fork_knows = record {
      root = root_is ∙ ap (λ k. root_of at k) (sym where_is);
      inner = let k = node_is in let at_node = where_is in omega arith;
      above = λ i given e. let l = claim.unnoted i given e in let k = node_is in let at_node = where_is in omega arith;
      noted = λ given e. ap (λ k. note_of k w.noted) root_is ∙ ap (λ l. note_of (root_of at node) l) (noted ∙ noted_is)
          ∙ root_known at leads given onward v0.noted e;
      noted_sides = λ given e. ap (λ k. note_of k w.noted_sides) root_is
          ∙ ap (λ l. note_of (root_of at node) l) (noted_sides ∙ noted_sides_is)
          ∙ root_known at leads given (sides_of onward v0.sides) v0.noted_sides e;
      only_own = λ k.
          let a = few k in
          let b = ap (count k) sides_is in
          let m = minus_le k (sides_of onward v0.sides) v0.sides in
          let here_is : count k (left_slot p.node ∷ right_slot p.node ∷ [])
          ≡ count k (left_slot node ∷ right_slot node ∷ []) =
          ap (λ i. count k (left_slot i ∷ right_slot i ∷ [])) where_is in
          omega arith;
      still_noted = λ i given e. ap (note_of i) (noted ∙ noted_is)
          ∙ else_note node i onward v0.noted
          (λ z. let l = claim.unnoted i given e in let k = node_is in absurd (omega arith)) ∙ e;
      still_noted_sides = λ i given e. ap (note_of i) (noted_sides ∙ noted_sides_is)
          ∙ else_note node i (sides_of onward v0.sides) v0.noted_sides
          (λ z. let l = claim.unnoted_sides i given e in let k = node_is in absurd (omega arith)) ∙ e;
    }

module _ {V K T : Type 0} (fits : T → Side → V → Type 0) (tag_of : K → T) (place_of : K → Option (Place T))
    (at : Place T) (tag : T) (v w : View T) (k : K) (kept kept_sides : List ℕ)
    (is : w ≡ closed_view at.node (slot_of at.node at.side) kept kept_sides (tags_after (place_of k) v.tags) v)
    (told : IsKept fits tag_of place_of at.node tag v k kept kept_sides)
    (leads : Leads v.places at.node at.root) (rooted : Rooted v.places)
    (have : 0 < count at.node v.held) (have_side : 0 < count (slot_of at.node at.side) v.sides) where
  abbrev known : (r : Option (ℕ × (ℕ × (ℕ × T)))) × (note_of at.node v.places ≡ Some r)
  known = some_of (note_of at.node v.places) leads.known

  armed_is : noted_place (place_of k) ≡ known.0
  armed_is = told.armed_with known.0 known.1

  places_same : w.places ≡ v.places
  places_same = ap (λ (u : View T). u.places) is

  held_is : (j : ℕ) → count j w.held + count j (at.node ∷ []) ≡ count j kept + count j v.held
  held_is j =
      let e : count j w.held ≡ count j (kept ++ less at.node v.held) = ap (λ (u : View T). count j u.held) is in
      let a = total-append (one_at j) kept (less at.node v.held) in
      let l = total-less (one_at j) at.node v.held have in
      omega arith

  sides_are : (j : ℕ) → count j w.sides + count j (slot_of at.node at.side ∷ []) ≡ count j kept_sides + count j v.sides
  sides_are j =
      let s : ℕ = slot_of at.node at.side in
      let e : count j w.sides ≡ count j (kept_sides ++ less s v.sides) = ap (λ (u : View T). count j u.sides) is in
      let a = total-append (one_at j) kept_sides (less s v.sides) in
      let l = total-less (one_at j) s v.sides have_side in
      omega arith

  module _ (p : Place T) (goes : place_of k ≡ Some p) where
    note_is : note_of at.node v.places ≡ Some (Some (p.node, (slot_of p.node p.side, (p.root, p.tag))))
    note_is = known.1 ∙ ap (λ z. Some z) (sym armed_is) ∙ ap (λ o. Some (noted_place o)) goes

    pub root_same : p.root ≡ at.root
    root_same = leads.under (p.node, (slot_of p.node p.side, (p.root, p.tag))) note_is

    pub next_leads : Leads w.places p.node p.root
    next_leads = subst (λ l. Leads l p.node p.root) (sym places_same)
        (rooted at.node (p.node, (slot_of p.node p.side, (p.root, p.tag))) note_is)

    pub next_rooted : Rooted w.places
    next_rooted = subst (λ l. Rooted l) (sym places_same) rooted

    pub moved_there : HasMoved at p v w
    moved_there = record {
      root = root_same;
      smaller = told.smaller p goes;
      held = λ j. let b = held_is j in let c = (told.place p goes).0 j in omega arith;
      sides = λ j. let b = sides_are j in let c = (told.place p goes).1 j in omega arith;
      noted = ap (λ (u : View T). u.noted) is;
      noted_sides = ap (λ (u : View T). u.noted_sides) is;
      places = places_same;
    }

  module _ (goes : place_of k ≡ None) where
    pub at_top : at.node ≡ at.root
    at_top = leads.top (known.1 ∙ ap (λ z. Some z) (sym armed_is) ∙ ap (λ o. Some (noted_place o)) goes)

    pub kept_here : HasKept at v w
    kept_here = record {
      held = λ given e j. let b = held_is j in let c = told.noted given (ap (λ i. note_of i v.noted) at_top ∙ e) j in
          omega arith;
      sides = λ given e j. let b = sides_are j in
          let c = told.noted_sides given (ap (λ i. note_of i v.noted_sides) at_top ∙ e) j in omega arith;
      noted = ap (λ (u : View T). u.noted) is;
      noted_sides = ap (λ (u : View T). u.noted_sides) is;
      places = places_same;
    }

-- the result at the next place is the result here
pub kept_above : {T : Type 0} (at p : Place T) (v w z : View T) → HasMoved at p v w → HasKept p w z → HasKept at v z
kept_above at p v w z m h = record {
  held = λ given e j.
      let a = h.held given (ap (λ i. note_of i w.noted) m.root ∙ ap (λ l. note_of at.root l) m.noted ∙ e) j in
      let b = m.held j in omega arith;
  sides = λ given e j.
      let a = h.sides given (ap (λ i. note_of i w.noted_sides) m.root ∙ ap (λ l. note_of at.root l) m.noted_sides ∙ e)
      j in
      let b = m.sides j in omega arith;
  noted = h.noted ∙ m.noted;
  noted_sides = h.noted_sides ∙ m.noted_sides;
  places = h.places ∙ m.places;
}

-- what is so in any case is so where there is an answer
whenever : {A X : Type 0} (r : Option A) → X → IfSome r (λ _. X)
whenever None x = tt
whenever (Some a) x = x

-- the result of the climb from the next place on is that from here on
pub climb_kept : {T A : Type 0} (o : Option (Place T)) (r : Option A) (at : Place T) (v w z : View T)
    → ((p : Place T) → o ≡ Some p → HasMoved at p v w) → (o ≡ None → HasKept at v w) → (o ≡ None → z ≡ w)
    → IfSome o (λ p. IfSome r (λ _. HasKept p w z)) → IfSome r (λ _. HasKept at v z)
climb_kept None r at v w z moved kept same h = whenever r (subst (λ u. HasKept at v u) (sym (same refl)) (kept refl))
climb_kept (Some p) None at v w z moved kept same h = tt
climb_kept (Some p) (Some a) at v w z moved kept same h = kept_above at p v w z (moved p refl) h

-- the node that ran last is the top of the tree
pub climb_ran : {T A : Type 0} (Ran : ℕ → Type 0) (o : Option (Place T)) (r : Option A) (at : Place T)
    → ((p : Place T) → o ≡ Some p → p.root ≡ at.root) → (o ≡ None → at.node ≡ at.root) → Ran at.node
    → IfSome o (λ p. IfSome r (λ _. Ran p.root)) → IfSome r (λ _. Ran at.root)
climb_ran Ran None r at root top ran h = whenever r (subst Ran (top refl) ran)
climb_ran Ran (Some p) None at root top ran h = tt
climb_ran Ran (Some p) (Some a) at root top ran h = subst Ran (root p refl) h

pub at_some : {A : Type 0} (P : A → Type 0) (o : Option A) → IfSome o P → (a : A) → o ≡ Some a → P a
at_some P o h a e = subst (λ z. IfSome z P) e h

-- what is known of the top of a tree doesn't rest on what a node below it keeps
pub knows_top : {T : Type 0} (at : Option (Place T)) (a b : List ℕ) (p : Place T) (v w : View T) → (at ≡ None → a ≡ b)
    → KnowsTop at a p v w → KnowsTop at b p v w
knows_top None a b p v w same known = subst (λ l. KnowsTop None l p v w) (same refl) known
knows_top (Some q) a b p v w same known = record {
  root = known.root;
  inner = known.inner;
  above = known.above;
  noted = known.noted;
  noted_sides = known.noted_sides;
  only_own = known.only_own;
  still_noted = known.still_noted;
  still_noted_sides = known.still_noted_sides;
}

-- the node was armed with the place at which the tree is forked
pub paired_as : {T : Type 0} (at : Option (Place T)) (goes : Option (T × Bool)) (node : ℕ) (above : ℕ × ℕ)
    → (above.0 ≡ parent_of at) × (above.1 ≡ root_of at node) → (at ≡ None → goes ≡ None)
    → ((p : Place T) → at ≡ Some p → Some p ≡ place_by p.node p.root goes)
    → (onward : List ℕ) (tag : T) (v1 v2 : View T)
    → v2 ≡ paired_view node onward tag (noted_place (place_by above.0 above.1 goes)) v1
    → v2 ≡ paired_view node onward tag (noted_place at) v1
paired_as at goes node above is top placed onward tag v1 v2 w =
    w ∙ ap (λ o. paired_view node onward tag (noted_place o) v1)
    (ap (λ k. place_by k above.1 goes) is.0 ∙ ap (λ k. place_by (parent_of at) k goes) is.1
    ∙ place_is at goes node top (λ p e. e ∙ placed p e))

-- what the seat has at the place at which it forks
pub led : {V K T : Type 0} {g : Ghosts K V T} {S : Type 0} {nodes actor n : ℕ} {v1 : View T} (id : TableId)
    (seat : Seat V K T g) (at : Option (Place T)) → ((p : Place T) → at ≡ Some p → CanFork id p seat)
    → IsClaimed S nodes actor (view_of seat) n v1
    → (p : Place T) → at ≡ Some p → Leads (view_of seat).places p.node p.root × (p.node ≤ n)
led id seat at can claim p e = let f = can p e in let h = f.can_hand.held in
    (f.can_hand.leads, claim.larger p.node (omega arith))

-- a seat that is as it was can hand in what it could
pub unchanged_can : {V K T : Type 0} {g : Ghosts K V T} {id : TableId} {p : Place T} {seat later : Seat V K T g}
    → CanHand id p seat → table_of later ≡ id → IsUnchanged seat later → CanHand id p later
unchanged_can {p = p} h table same = record {
  table = table;
  held = (let a = ap (count p.node) same.held in let b = h.held in omega arith);
  side = ((let a = ap (count (slot_of p.node p.side)) same.sides in let b = h.side.0 in omega arith), h.side.1);
  tag = ap (note_of p.node) same.tags ∙ h.tag;
  leads = subst (λ l. Leads l p.node p.root) (sym same.places) h.leads;
  rooted = subst (λ l. Rooted l) (sym same.places) h.rooted;
}

pub unchanged_fork : {V K T : Type 0} {g : Ghosts K V T} {id : TableId} {p : Place T} {seat later : Seat V K T g}
    → CanFork id p seat → table_of later ≡ id → IsUnchanged seat later → CanFork id p later
unchanged_fork {p = p} h table same = record {
  can_hand = unchanged_can h.can_hand table same;
  one_side = (let a = ap (count (left_slot p.node)) same.sides in let b = ap (count (right_slot p.node)) same.sides in
      let c = h.one_side in omega arith);
}

-- the sides of the two halves
pub few_left : {T : Type 0} (node half : ℕ) (v2 v3 : View T) → v3 ≡ rest_view node 1 half (right_slot node ∷ []) v2
    → (k : ℕ) → count k v3.sides ≤ count k v2.sides
few_left node half v2 v3 rest k = let e : count k v3.sides ≡ count k (less (right_slot node) v2.sides) =
    ap (λ (u : View _). count k u.sides) rest in let l = less_le k (right_slot node) v2.sides in omega arith

pub few_right : {T : Type 0} (node half : ℕ) (onward : List ℕ) (tag : T) (q : Option (ℕ × (ℕ × (ℕ × T))))
    (v1 v2 v4 : View T) → v2 ≡ paired_view node onward tag q v1 → v4 ≡ part_view node 1 half (right_slot node ∷ []) v2
    → (k : ℕ) → count k v4.sides ≤ count k v2.sides
few_right node half onward tag q v1 v2 v4 is part k =
    let e : count k v4.sides ≡ count k (right_slot node ∷ []) = ap (λ (u : View _). count k u.sides) part in
    let f : count k v2.sides ≡ count k (left_slot node ∷ right_slot node ∷ minus (sides_of onward v1.sides) v1.sides) =
    ap (λ (u : View _). count k u.sides) is in
    omega arith
