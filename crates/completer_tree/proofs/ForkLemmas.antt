-- What a seat has after it armed a pair, and after it was split in two.
use Rattle.std.proofs.Common.{◌≡◌, ℕ, ◌+◌, ◌<◌, ◌≤◌, cond, Bool, List, [], ◌∷◌, ◌++◌, sym, ap, ◌∙◌, subst, arith}
use Rattle.std.proofs.Common.{ne_eqb, eq-eqb, Some, Option}
use mathlib.Core.Logic.{dite}
use native.Mathlib.Decide.{ℕ_discrete}
use Rattle.completion_core.specs.Graph.{copies}
use Rattle.completion_core.specs.Legal.{count}
use Rattle.pending_count.specs.declared.view.View.{View}
use Rattle.pending_count.specs.Views.{left_slot, right_slot, less, minus, sides_of, note_of, paired_view, rest_view}
use Rattle.pending_count.specs.Views.{part_view}
use Rattle.pending_count.specs.Steps.{IsClaimed, drawn_node}
use Rattle.pending_count.proofs.SumLemmas.{one_at, total-append, total-less, at_here, at_else, here}
use Rattle.pending_count.proofs.RecordLemmas.{fresh-count, fresh_here}
use Rattle.pending_count.proofs.CallerLemmas.{drawn_is}
use Rattle.pending_count.specs.declared.place.Place.{Place}
use Rattle.pending_count.specs.declared.place.Fits.{Ghosts}
use Rattle.atomic_table.specs.Seated.{TableId}
use Rattle.pending_count.specs.declared.seat.Seat.{Seat}
use Rattle.pending_count.specs.Pairs.{slot_of, side_of}
use Rattle.pending_count.specs.Seats.{view_of, table_of}
use Rattle.completer_tree.specs.Places.{place_at}
use Rattle.completer_tree.specs.Trees.{CanFork}
use Rattle.completer_tree.specs.Roots.{Leads, Rooted}
use Rattle.completer_tree.proofs.ClimbLemmas.{not_whole}

pub less_le : (k i : ℕ) (xs : List ℕ) → count k (less i xs) ≤ count k xs
less_le k i [] = omega arith
less_le k i (j ∷ js) = dite (ℕ_discrete j i)
    (λ e. subst (λ b. count k (cond b js (j ∷ less i js)) ≤ count k (j ∷ js)) (sym (eq-eqb j i e)) (omega arith))
    (λ n. let r = less_le k i js in subst (λ b. count k (cond b js (j ∷ less i js)) ≤ count k (j ∷ js))
    (sym (ne_eqb j i n)) (omega arith))

pub minus_le : (k : ℕ) (is xs : List ℕ) → count k (minus is xs) ≤ count k xs
minus_le k [] xs = omega arith
minus_le k (i ∷ is) xs = let a = minus_le k is (less i xs) in let b = less_le k i xs in omega arith

module _ {S T : Type 0} {nodes actor n : ℕ} (node : ℕ) (onward : List ℕ) (tag : T) (q : Option (ℕ × (ℕ × (ℕ × T))))
    (v0 v1 v2 : View T) (claim : IsClaimed S nodes actor v0 n v1) (drew : drawn_node nodes n ≡ Some node)
    (is : v2 ≡ paired_view node onward tag q v1) where
  none_before : (count (left_slot node) v1.sides ≡ 0) × (count (right_slot node) v1.sides ≡ 0)
  none_before = subst (λ k. (count (left_slot k) v1.sides ≡ 0) × (count (right_slot k) v1.sides ≡ 0))
      (sym (drawn_is nodes n node drew).0) claim.no_side

  abbrev before : List ℕ
  before = minus (sides_of onward v1.sides) v1.sides

  pub two_there : 1 < count node v2.held
  two_there =
      let e : count node v2.held ≡ count node (copies 2 node ++ minus onward v1.held) =
      ap (λ (u : View T). count node u.held) is in
      let a = total-append (one_at node) (copies 2 node) (minus onward v1.held) in
      let f = fresh-count node 2 node in
      let h = fresh_here node 2 in
      omega arith

  all_sides : (k : ℕ) → count k v2.sides ≡ one_at k (left_slot node) + (one_at k (right_slot node) + count k before)
  all_sides k = ap (λ (u : View T). count k u.sides) is

  pub left_there : count (left_slot node) v2.sides ≡ 1
  left_there =
      let a = all_sides (left_slot node) in
      let h = at_here (left_slot node) in
      let z = at_else (left_slot node) (right_slot node) (λ e. absurd (omega arith)) in
      let m = minus_le (left_slot node) (sides_of onward v1.sides) v1.sides in
      let b = none_before.0 in
      omega arith

  pub right_there : count (right_slot node) v2.sides ≡ 1
  right_there =
      let a = all_sides (right_slot node) in
      let h = at_here (right_slot node) in
      let z = at_else (right_slot node) (left_slot node) (λ e. absurd (omega arith)) in
      let m = minus_le (right_slot node) (sides_of onward v1.sides) v1.sides in
      let b = none_before.1 in
      omega arith

  pub tag_there : note_of node v2.tags ≡ Some tag
  tag_there = ap (λ (u : View T). note_of node u.tags) is
      ∙ ap (λ b. cond b (Some tag) (note_of node v1.tags)) (here node)

  module _ (half : ℕ) (v3 v4 : View T) (rest : v3 ≡ rest_view node 1 half (right_slot node ∷ []) v2)
      (part : v4 ≡ part_view node 1 half (right_slot node ∷ []) v2) where
    pub rest_held : 0 < count node v3.held
    rest_held =
        let e : count node v3.held ≡ count node (less node v2.held) = ap (λ (u : View T). count node u.held) rest in
        let t = two_there in
        let l = total-less (one_at node) node v2.held (omega arith) in
        let h = at_here node in
        omega arith

    less_right : (k : ℕ) → count k v3.sides + one_at k (right_slot node) ≡ count k v2.sides
    less_right k =
        let e : count k v3.sides ≡ count k (less (right_slot node) v2.sides) =
        ap (λ (u : View T). count k u.sides) rest in
        let r = right_there in
        let l = total-less (one_at k) (right_slot node) v2.sides (omega arith) in
        omega arith

    pub rest_left : count (left_slot node) v3.sides ≡ 1
    rest_left = let a = less_right (left_slot node) in let b = left_there in
        let z = at_else (left_slot node) (right_slot node) (λ e. absurd (omega arith)) in omega arith

    pub rest_right : count (right_slot node) v3.sides ≡ 0
    rest_right = let a = less_right (right_slot node) in let b = right_there in let z = at_here (right_slot node) in
        omega arith

    pub rest_tag : note_of node v3.tags ≡ Some tag
    rest_tag = ap (λ (u : View T). note_of node u.tags) rest ∙ tag_there

    pub part_held : 0 < count node v4.held
    part_held =
        let e : count node v4.held ≡ count node (copies 1 node) = ap (λ (u : View T). count node u.held) part in
        let f = fresh-count node 1 node in
        let h = fresh_here node 1 in
        omega arith

    pub part_left : count (left_slot node) v4.sides ≡ 0
    part_left = let e : count (left_slot node) v4.sides ≡ count (left_slot node) (right_slot node ∷ []) =
        ap (λ (u : View T). count (left_slot node) u.sides) part in
        let z = at_else (left_slot node) (right_slot node) (λ e. absurd (omega arith)) in omega arith

    pub part_right : count (right_slot node) v4.sides ≡ 1
    part_right = let e : count (right_slot node) v4.sides ≡ count (right_slot node) (right_slot node ∷ []) =
        ap (λ (u : View T). count (right_slot node) u.sides) part in let z = at_here (right_slot node) in omega arith

    pub part_tag : note_of node v4.tags ≡ Some tag
    part_tag = ap (λ (u : View T). note_of node u.tags) part ∙ tag_there

-- a seat that holds one side of a node, and knows the node's tag
module _ {V K T : Type 0} {g : Ghosts K V T} (id : TableId) (seat : Seat V K T g) (p : Place T) (node root : ℕ)
    (t tag : T) (b : Bool) (where_is : p ≡ place_at node root (t, b)) (known : t ≡ tag)
    (table : table_of seat ≡ id) (have : 0 < count node (view_of seat).held)
    (one : count (slot_of node (side_of b)) (view_of seat).sides ≡ 1)
    (both : count (left_slot node) (view_of seat).sides + count (right_slot node) (view_of seat).sides ≤ 1)
    (note : note_of node (view_of seat).tags ≡ Some tag) (leads : Leads (view_of seat).places p.node p.root)
    (rooted : Rooted (view_of seat).places) where
  pub can_fork : CanFork id p seat
  can_fork =
      subst (λ x. CanFork id x seat) (sym where_is) (record {
        can_hand = record {
          table = table;
          held = have;
          side = (omega arith, not_whole b);
          tag = note ∙ ap (λ z. Some z) (sym known);
          leads = subst (λ x. Leads (view_of seat).places x.node x.root) where_is leads;
          rooted = rooted;
        };
        one_side = both;
      })
