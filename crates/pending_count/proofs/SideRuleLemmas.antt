-- What a step leaves of sides and slots.
use Rattle.std.proofs.Common.{◌≡◌, ◌≢◌, ℕ, ◌+◌, ◌*◌, ◌/◌, ◌%◌, ◌<◌, ◌≤◌, cond, not, Bool, true, false, List, sym, refl}
use Rattle.std.proofs.Common.{ap, ◌∙◌, subst, arith, Option, Some, None}
use mathlib.Core.Logic.{dite}
use mathlib.Core.Option.{none, some}
use mathlib.Core.Option as mc
use native.Mathlib.Decide.{ℕ_discrete}
use Rattle.completion_core.specs.Graph.{Arrival, Made, Held, Kept, same, one_same, total}
use Rattle.completion_core.specs.Legal.{count}
use Rattle.pending_count.specs.declared.view.View.{View}
use Rattle.pending_count.specs.declared.place.Side.{Side}
use Rattle.pending_count.specs.declared.place.Place.{Place}
use Rattle.pending_count.specs.declared.place.Slot.{Slot}
use Rattle.pending_count.specs.Views.{kept_slot, view_at, names, note_of}
use Rattle.pending_count.specs.Shows.{kept_at}
use Rattle.pending_count.specs.Pairs.{side_slot, side_kept_at, SideKeeping, SideNoting, Slotted}
use Rattle.pending_count.proofs.SumLemmas.{bool_case, self_held, self_kept, one_held, same_is}

-- whether an optional value is there
pub by_option : {A : Type 0} (o : Option A) (F : Type 0) → (o ≡ None → F) → ((a : A) → o ≡ Some a → F) → F
by_option None F p q = p refl
by_option (Some a) F p q = q a refl

pub none_some : {A : Type 0} (a : A) → None ≡ Some a → ⊥
none_some a e = absurd (grind arith)

pub one_is : (x z : Arrival) → 0 < one_same x z → x ≡ z
one_is x z h = bool_case (same x z) (x ≡ z) (λ e. same_is x z e)
    (λ e. let k : one_same x z ≡ 0 = ap (λ b. cond b 1 0) e in absurd (omega arith))

pub one_le : (x z : Arrival) → one_same x z ≤ 1
one_le x z = bool_case (same x z) (one_same x z ≤ 1)
    (λ e. let k : one_same x z ≡ 1 = ap (λ b. cond b 1 0) e in omega arith)
    (λ e. let k : one_same x z ≡ 0 = ap (λ b. cond b 1 0) e in omega arith)

pub held_is : (a b : ℕ) → one_same (Held a) (Held b) ≡ 1 → a ≡ b
held_is a b e = dite (ℕ_discrete a b) (λ h. h) (λ n. let z = one_held a b n in absurd (omega arith))

pub held_not_made : (a : ℕ) (z : Arrival) → z ≡ Held a → z ≢ Made
held_not_made a z e m = let p : one_same (Held a) z ≡ 1 = ap (one_same (Held a)) e ∙ self_held a in
    let q : one_same (Held a) z ≡ 0 = ap (one_same (Held a)) m in absurd (omega arith)

pub kept_not_made : (a : ℕ) (z : Arrival) → z ≡ Kept a → z ≢ Made
kept_not_made a z e m = let p : one_same (Kept a) z ≡ 1 = ap (one_same (Kept a)) e ∙ self_kept a in
    let q : one_same (Kept a) z ≡ 0 = ap (one_same (Kept a)) m in absurd (omega arith)

pub slot_node : (i j : ℕ) (b c : Bool) → side_slot i b ≡ side_slot j c → i ≡ j
slot_node i j true true e = omega arith
slot_node i j true false e = absurd (omega arith)
slot_node i j false true e = absurd (omega arith)
slot_node i j false false e = omega arith

pub slot_bool : (i j : ℕ) (b c : Bool) → side_slot i b ≡ side_slot j c → b ≡ c
slot_bool i j true true e = refl
slot_bool i j true false e = absurd (omega arith)
slot_bool i j false true e = absurd (omega arith)
slot_bool i j false false e = refl

pub slot_not_kept : (i j : ℕ) (b : Bool) → side_slot i b ≢ kept_slot j
slot_not_kept i j true e = absurd (omega arith)
slot_not_kept i j false e = absurd (omega arith)

pub slot_other : (i : ℕ) (b : Bool) → side_slot i (not b) ≢ side_slot i b
slot_other i true e = absurd (omega arith)
slot_other i false e = absurd (omega arith)

-- a slot is a left side's, a right side's, or a kept value's
pub slot_cases : (k : ℕ) (F : ℕ → Type 0) → ((i : ℕ) (b : Bool) → F (side_slot i b)) → ((i : ℕ) → F (kept_slot i)) → F k
slot_cases k F sides kept =
    let i : ℕ = k / 3 in
    dite (ℕ_discrete (k % 3) 0) (λ e. subst F (let h : 3 * i ≡ k = omega arith in h) (sides i true))
    (λ n. dite (ℕ_discrete (k % 3) 1) (λ e. subst F (let h : 3 * i + 1 ≡ k = omega arith in h) (sides i false))
    (λ m. subst F (let h : 3 * i + 2 ≡ k = omega arith in h) (kept i)))

module _ {T : Type 0} (views views' : List (View T)) where
  pub keeping_as : {armed ran : ℕ → Bool} {side : ℕ → Arrival} (side' : ℕ → Arrival)
      → ((i : ℕ) → total (λ v. total (names i) v.armed_sides) views' ≡ total (λ v. total (names i) v.armed_sides) views)
      → ((i k : ℕ) → side_kept_at i k views' ≡ side_kept_at i k views)
      → ((i k : ℕ) → one_same (Kept i) (side' k) ≡ one_same (Kept i) (side k)) → SideKeeping views armed ran side
      → SideKeeping views' armed ran side'
  keeping_as side' named kept same r = record {
    records = λ i. named i ∙ r.records i;
    keeping = λ i k e. same i k ∙ r.keeping i k e ∙ sym (kept i k);
    spent = λ i k e. same i k ∙ r.spent i k e;
  }

  -- what is noted now was noted before, by some seat
  pub noting_as : {armed : ℕ → Bool} {tag : ℕ → Option T}
      → ((a i : ℕ) (l : List ℕ) → note_of i (view_at views' a).noted_sides ≡ Some l
      → (b : ℕ) × (note_of i (view_at views b).noted_sides ≡ Some l))
      → ((a i : ℕ) (t : T) → note_of i (view_at views' a).tags ≡ Some t
      → (b : ℕ) × (note_of i (view_at views b).tags ≡ Some t))
      → ((a i : ℕ) (p : Option (ℕ × (ℕ × (ℕ × T)))) → note_of i (view_at views' a).places ≡ Some p
      → (b : ℕ) × (note_of i (view_at views b).places ≡ Some p))
      → ((i k : ℕ) → side_kept_at i k views' ≡ side_kept_at i k views) → SideNoting views armed tag
      → SideNoting views' armed tag
  noting_as sides tags places kept r = record {
    noted = λ a i l e. let b = sides a i l e in let h = r.noted b.0 i l b.1 in (h.0, λ k. h.1 k ∙ sym (kept i k));
    tags = λ a i t e. let b = tags a i t e in r.tags b.0 i t b.1;
    placed = λ a i p e. let b = places a i p e in r.placed b.0 i p b.1;
  }

  module _ {V K : Type 0} (fits : T → Side → V → Type 0) (tag_of : K → T) (place_of : K → Option (Place T)) where
    -- where slots and tags are as they were
    pub slotted_as : {nodes : ℕ} {homes : List (mc.Option (Option (Slot V K)))} {armed ran : ℕ → Bool}
        {tag : ℕ → Option T} {side : ℕ → Arrival} (armed' ran' : ℕ → Bool) (side' : ℕ → Arrival)
        → ((a k : ℕ) → count k (view_at views' a).taken ≡ count k (view_at views a).taken)
        → ((a i : ℕ) → 0 < count (kept_slot i) (view_at views a).taken → 0 < count i (view_at views a).claims
        → 0 < count i (view_at views' a).claims)
        → ((k : ℕ) → side' k ≡ Made → side k ≡ Made) → ((k : ℕ) → side k ≡ Made → side' k ≡ Made)
        → ((a k : ℕ) → side k ≡ Held a → 0 < count k (view_at views a).taken → side' k ≡ Held a)
        → ((i : ℕ) → armed' i ≡ false → armed i ≡ false) → ((i : ℕ) → ran' i ≡ false → ran i ≡ false)
        → ((i j : ℕ) (t : T) → tag i ≡ Some t → kept_at i j views' ≡ kept_at i j views)
        → ((i k : ℕ) (t : T) → tag i ≡ Some t → side_kept_at i k views' ≡ side_kept_at i k views)
        → ((a i : ℕ) (p : Option (ℕ × (ℕ × (ℕ × T)))) → note_of i (view_at views' a).places ≡ Some p
        → (b : ℕ) × (note_of i (view_at views b).places ≡ Some p))
        → Slotted fits tag_of place_of nodes homes views armed ran tag side
        → Slotted fits tag_of place_of nodes homes views' armed' ran' tag side'
    slotted_as armed' ran' side' taken claims made made' out arm run kept sides places r = record {
      room = r.room;
      once = λ a k. subst (λ n. n ≤ 1) (sym (taken a k)) (r.once a k);
      out = λ a i b h. let q = subst (λ n. 0 < n) (taken a (side_slot i b)) h in
          out a (side_slot i b) (r.out a i b q) q;
      out_kept = λ a i h. let q = subst (λ n. 0 < n) (taken a (kept_slot i)) h in claims a i q (r.out_kept a i q);
      empty = λ i b low none all. r.empty i b low (λ m. none (made' (side_slot i b) m))
          (λ a. sym (taken a (side_slot i b)) ∙ all a);
      full = λ i b t e q m. r.full i b t e (run i q) (made (side_slot i b) m);
      kept_empty = λ i pos low e all. r.kept_empty i pos low (arm i e) (λ a. sym (taken a (kept_slot i)) ∙ all a);
      kept_full = λ i t e q. let h = r.kept_full i t e (run i q) in (
        h.0,
        h.1,
        h.2,
        (λ p z. let y = h.3 p z in
            (y.0, (λ j. kept i j t e ∙ y.1 j), (λ j. sides i j t e ∙ y.2 j), y.3)),
        λ a p z. let b = places a i p z in
            h.4 b.0 p b.1,
      );
    }
