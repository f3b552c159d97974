-- At the start no node is a pair, and all slots are at home and empty.
use Rattle.std.proofs.Common.{◌≡◌, ℕ, zero, suc, ◌+◌, ◌*◌, ◌<◌, ◌≤◌, Bool, true, false, List, [], ◌∷◌, length, sym}
use Rattle.std.proofs.Common.{refl, subst, arith, true≢false, Option, Some, None}
use mathlib.Core.Option.{none, some}
use mathlib.Core.Option as mc
use lib.ListN.{get_elem?}
use Rattle.completion_core.specs.Graph.{Made}
use Rattle.completion_core.specs.Legal.{count}
use Rattle.pending_count.specs.declared.view.View.{View}
use Rattle.pending_count.specs.declared.place.Side.{Side}
use Rattle.pending_count.specs.declared.place.Place.{Place}
use Rattle.pending_count.specs.declared.place.Slot.{Slot}
use Rattle.pending_count.specs.Views.{kept_slot, view_at, note_of}
use Rattle.pending_count.specs.Pairs.{side_slot, Pairing}
use Rattle.pending_count.proofs.SideRuleLemmas.{none_some}
use Rattle.std.proofs.Common.{replicate, map}
use Rattle.atomic_table.specs.Table.{opening}
use Rattle.completion_core.specs.Graph.{start}
use Rattle.pending_count.specs.Views.{first_view}
use Rattle.pending_count.specs.Pairs.{Ruled}
use Rattle.pending_count.proofs.StartLemmas.{opens}

module _ {V K T : Type 0} (fits : T → Side → V → Type 0) (tag_of : K → T) (place_of : K → Option (Place T))
    (nodes ends : ℕ) where
  abbrev empty_slots : ℕ → List (Option (Slot V K))
  empty_slots n = replicate n None

  abbrev homes : List (mc.Option (Option (Slot V K)))
  homes = map some (empty_slots (3 * (nodes + 1)))

  long : (n : ℕ) → length (map some (empty_slots n)) ≡ n
  long zero = refl
  long (suc n) = let h = long n in omega arith

  at_home : (n k : ℕ) → k < n → get_elem? (map some (empty_slots n)) k ≡ some (some None)
  at_home zero k h = absurd (omega arith)
  at_home (suc n) zero h = refl
  at_home (suc n) (suc k) h = at_home n k (omega arith)

  abbrev views' : List (View T)
  views' = first_view ends ∷ []

  no_sides : (a k : ℕ) → count k (view_at views' a).sides ≡ 0
  no_sides zero k = refl
  no_sides (suc a) k = refl

  no_taken : (a k : ℕ) → count k (view_at views' a).taken ≡ 0
  no_taken zero k = refl
  no_taken (suc a) k = refl

  no_noted : (a i : ℕ) (l : List ℕ) → note_of i (view_at views' a).noted_sides ≡ Some l → ⊥
  no_noted zero i l e = absurd (none_some l e)
  no_noted (suc a) i l e = absurd (none_some l e)

  no_tags : (a i : ℕ) (t : T) → note_of i (view_at views' a).tags ≡ Some t → ⊥
  no_tags zero i t e = absurd (none_some t e)
  no_tags (suc a) i t e = absurd (none_some t e)

  no_places : (a i : ℕ) (q : Option (ℕ × (ℕ × (ℕ × T)))) → note_of i (view_at views' a).places ≡ Some q → ⊥
  no_places zero i q e = absurd (none_some q e)
  no_places (suc a) i q e = absurd (none_some q e)

  side_low : (i : ℕ) (b : Bool) → i ≤ nodes → side_slot i b < 3 * (nodes + 1)
  side_low i true h = omega arith
  side_low i false h = omega arith

  pub opens_sides : Pairing fits tag_of place_of nodes homes views' (start nodes ends).arrivals (λ _. false)
      (λ _. false)
  opens_sides = record {
    tag = λ _. None;
    side = λ _. Made;
    sided = record {
      pairs = λ i t e. absurd (none_some t e);
      both = λ i t e. absurd (none_some t e);
      alone = λ i b e. refl;
      never = λ i. refl;
    };
    mine = λ a k. no_sides a k;
    keeping = record { records = λ i. refl; keeping = λ i k e. refl; spent = λ i k e. absurd (true≢false (sym e)) };
    noting = record {
      noted = λ a i l e. absurd (no_noted a i l e);
      tags = λ a i t e. absurd (no_tags a i t e);
      placed = λ a i q e. absurd (no_places a i q e);
    };
    slotted = record {
      room = long (3 * (nodes + 1));
      once = λ a k. let h = no_taken a k in omega arith;
      out = λ a i b h. let z = no_taken a (side_slot i b) in absurd (omega arith);
      out_kept = λ a i h. let z = no_taken a (kept_slot i) in absurd (omega arith);
      empty = λ i b low none_made all. at_home (3 * (nodes + 1)) (side_slot i b) (side_low i b low);
      full = λ i b t e. absurd (none_some t e);
      kept_empty = λ i pos low e all. at_home (3 * (nodes + 1)) (kept_slot i) (omega arith);
      kept_full = λ i t e. absurd (none_some t e);
    };
  }

  pub opens_all : (ws : List ℕ) → ws ≡ ends ∷ replicate (nodes + 1) 0
      → Ruled fits tag_of place_of nodes (opening ws (empty_slots (3 * (nodes + 1))) (first_view ends))
  opens_all ws is = subst (λ ws. Ruled fits tag_of place_of nodes
      (opening ws (empty_slots (3 * (nodes + 1))) (first_view ends))) (sym is)
      (start nodes ends, opens (Option (Slot V K)) T nodes ends (empty_slots (3 * (nodes + 1))), opens_sides)
