-- What the seat of a last arrival has for the place that the kept value has.
use Rattle.std.proofs.Common.{◌≡◌, ◌≢◌, ℕ, suc, ◌<◌, cond, Bool, true, false, List, ◌++◌, sym, refl, ap, ◌∙◌, subst}
use Rattle.std.proofs.Common.{arith, Some, None, Option}
use Rattle.completion_core.specs.Legal.{count}
use Rattle.pending_count.specs.declared.view.View.{View}
use Rattle.pending_count.specs.declared.place.Place.{Place}
use Rattle.pending_count.specs.declared.place.Side.{Side}
use Rattle.pending_count.specs.declared.place.Side.TheVariants.{Whole}
use Rattle.pending_count.specs.Views.{less, note_of, closed_view}
use Rattle.pending_count.specs.Pairs.{slot_of, side_of, tags_after}
use Rattle.pending_count.specs.PairSteps.{IsKept, IsHanded}
use Rattle.pending_count.specs.declared.place.Slot.{Slot}
use Rattle.completer_tree.specs.Trees.{RanAt}
use Rattle.std.specs.Prelude.{IfNone}
use Rattle.pending_count.specs.declared.place.Fits.{Ghosts}
use Rattle.pending_count.specs.declared.counts.Counts.{Counts}
use Rattle.pending_count.specs.declared.seat.Seat.{Seat}
use Rattle.pending_count.specs.Seats.{view_of, nodes_of, actor_of}
use Rattle.completer_tree.specs.Climbs.{WasPending}
use Rattle.pending_count.proofs.SumLemmas.{one_at, total-append, at_here, here, some_is}
use Rattle.completer_tree.specs.Places.{place_at, place_by}

pub not_whole : (b : Bool) → side_of b ≢ Whole
not_whole true e = absurd (grind arith)
not_whole false e = absurd (grind arith)

pub placed : {T : Type 0} (parent root : ℕ) (goes : Option (T × Bool)) (p : Place T)
    → place_by parent root goes ≡ Some p → (q : T × Bool) × (goes ≡ Some q) × (p ≡ place_at parent root q)
placed parent root None p e = absurd (grind arith)
placed parent root (Some q) p e = (q, refl, sym (some_is _ _ e))

pub unplaced : {T : Type 0} (parent root : ℕ) (goes : Option (T × Bool)) → place_by parent root goes ≡ None
    → goes ≡ None
unplaced parent root None e = refl
unplaced parent root (Some q) e = absurd (grind arith)

module _ {V K T : Type 0} (fits : T → Side → V → Type 0) (tag_of : K → T) (place_of : K → Option (Place T))
    (node slot : ℕ) (tag : T) (v w : View T) (k : K) (kept kept_sides : List ℕ)
    (is : w ≡ closed_view node slot kept kept_sides (tags_after (place_of k) v.tags) v)
    (told : IsKept fits tag_of place_of node tag v k kept kept_sides)
    (p : Place T) (goes : place_of k ≡ Some p) where
  pub on_held : 0 < count p.node w.held
  on_held =
      let e : count p.node w.held ≡ count p.node (kept ++ less node v.held) =
      ap (λ (u : View T). count p.node u.held) is in
      let a = total-append (one_at p.node) kept (less node v.held) in
      let c = (told.place p goes).0 p.node in
      let h = at_here p.node in
      omega arith

  pub on_side : 0 < count (slot_of p.node p.side) w.sides
  on_side =
      let s : ℕ = slot_of p.node p.side in
      let e : count s w.sides ≡ count s (kept_sides ++ less slot v.sides) = ap (λ (u : View T). count s u.sides) is in
      let a = total-append (one_at s) kept_sides (less slot v.sides) in
      let c = (told.place p goes).1 s in
      let h = at_here s in
      omega arith

  pub on_tag : note_of p.node w.tags ≡ Some p.tag
  on_tag =
      ap (λ (u : View T). note_of p.node u.tags) is
      ∙ ap (λ o. note_of p.node (tags_after o v.tags)) goes
      ∙ ap (λ b. cond b (Some p.tag) (note_of p.node v.tags)) (here p.node)

-- the step of a last arrival runs the node
pub ran_last : {V K T : Type 0} (fits : T → Side → V → Type 0) (tag_of : K → T) (place_of : K → Option (Place T))
    (nodes actor node : ℕ) {slot : ℕ} {v w : View T} (n : ℕ) → n ≡ 1
    → IsHanded fits tag_of place_of nodes actor node slot v n w → RanAt T (Option (Slot V K)) nodes actor node
ran_last fits tag_of place_of nodes actor node {slot} {v} {w} n one told =
    let at_one : IsHanded fits tag_of place_of nodes actor node slot v 1 w =
    subst (λ k. IsHanded fits tag_of place_of nodes actor node slot v k w) one told in
    record { old = _; new = w; step = at_one.one_step }

-- an arrival that wasn't the last, said of another seat of one actor
pub pending_as : {V K T A : Type 0} {g : Ghosts K V T} (r : Option A) (counts : Counts V K T)
    (seat next later : Seat V K T g) → actor_of next ≡ actor_of seat → IfNone r (WasPending counts next later)
    → IfNone r (WasPending counts seat later)
pending_as {g = g} None counts seat next later same h =
    record {
      place = h.place;
      before = h.before;
      owed = h.owed;
      others = h.others;
      handed = subst (λ a. IsHanded g.fits g.tag_of g.place_of (nodes_of counts) a h.place.node
          (slot_of h.place.node h.place.side) h.before h.owed (view_of later)) same h.handed;
    }
pending_as (Some x) counts seat next later same h = tt

-- what is left of a climb: nothing at the top, else the nodes up to the parent
abbrev pub height : {T : Type 0} → ℕ → Option (T × Bool) → ℕ
height parent None = 0
height parent (Some q) = suc parent

pub lower : {T : Type 0} (parent root : ℕ) (goes : Option (T × Bool)) (parent2 root2 : ℕ) (goes2 : Option (T × Bool))
    (p : Place T) → place_by parent root goes ≡ Some p
    → ((q : Place T) → place_by parent2 root2 goes2 ≡ Some q → q.node < p.node)
    → height parent2 goes2 < height parent goes
lower parent root None parent2 root2 goes2 p e h = absurd (grind arith)
lower parent root (Some q) parent2 root2 None p e h = omega arith
lower parent root (Some q) parent2 root2 (Some q2) p e h =
    let at : parent ≡ p.node = ap (λ (x : Place _). x.node) (some_is (place_at parent root q) p e) in
    let below : parent2 < p.node = h (place_at parent2 root2 q2) refl in
    omega arith
