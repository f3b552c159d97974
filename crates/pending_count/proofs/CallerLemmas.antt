-- What a caller knows of its seat after a call, as numbers of arrivals and as notes.
use Rattle.std.proofs.Common.{eq-eqb, eqb, [], ◌≡◌, ◌≢◌, ℕ, zero, suc, ◌+◌, ◌-◌, ◌<◌, ◌≤◌, cond, true, List, ◌∷◌, ◌++◌}
use Rattle.std.proofs.Common.{sym, refl, ap, ◌∙◌, arith, ne_eqb, Some, nat_lt}
use Rattle.std.proofs.lemmas.Grind.{common_steps}
use Rattle.completion_core.specs.declared.action.Reply.TheVariants.{Pending, Last}
use Rattle.completion_core.specs.Graph.{copies}
use Rattle.completion_core.specs.Legal.{count, only_at, reply_of_arrival}
use Rattle.pending_count.specs.declared.view.View.{View}
use Rattle.pending_count.specs.Views.{IsPlainAt, part_view, left_slot, right_slot, side_at, sides_of, note_of, less}
use Rattle.pending_count.specs.Views.{minus}
use Rattle.pending_count.specs.Steps.{IsClaimed, IsArmed, IsArrived, drawn_node}
use Rattle.pending_count.proofs.SumLemmas.{one_at, total-append, total-less, total-minus, here, at_here, at_sym}
use Rattle.pending_count.proofs.RecordLemmas.{fresh-count, fresh_here}

pub drawn_is : (nodes n b : ℕ) → drawn_node nodes n ≡ Some b → (b ≡ n + 1) × (n < nodes)
drawn_is nodes n b e = (first nodes n b e, second nodes n b e)
  where
    first : (nodes n b : ℕ) → drawn_node nodes n ≡ Some b → b ≡ n + 1
    first nodes n b e = grind (arith, common_steps)

    second : (nodes n b : ℕ) → drawn_node nodes n ≡ Some b → n < nodes
    second nodes n b e = grind (arith, common_steps)

pub was_pending : (n k : ℕ) → Pending k ≡ reply_of_arrival (n - 1) → 0 < n → (n ≢ 1) × (n ≡ k + 2)
was_pending zero k e h = absurd (omega arith)
was_pending (suc zero) k e h = absurd (grind (arith, common_steps))
was_pending (suc (suc n)) k e h = let is : n ≡ k = grind (arith, common_steps) in
    ((λ m. absurd (omega arith)), omega arith)

pub was_last : (n : ℕ) → Last ≡ reply_of_arrival (n - 1) → 0 < n → n ≡ 1
was_last zero e h = absurd (omega arith)
was_last (suc zero) e h = refl
was_last (suc (suc n)) e h = absurd (grind (arith, common_steps))

-- where no side is held, none belongs to an entry
pub no_sides_of : (onward sides : List ℕ) → ((k : ℕ) → count k sides ≡ 0) → sides_of onward sides ≡ []
no_sides_of [] sides none_held = refl
no_sides_of (i ∷ is) sides none_held =
    let a : side_at i sides ≡ [] = ap (λ b. cond b (cond (eqb (count (right_slot i) sides) 0) [] (right_slot i ∷ []))
    (left_slot i ∷ [])) (eq-eqb (count (left_slot i) sides) 0 (none_held (left_slot i)))
    ∙ ap (λ b. cond b [] (right_slot i ∷ [])) (eq-eqb (count (right_slot i) sides) 0 (none_held (right_slot i))) in
    ap (λ l. l ++ sides_of is sides) a ∙ no_sides_of is sides none_held

module _ {S T : Type 0} {nodes actor : ℕ} {v w : View T} where
  module _ (n b : ℕ) (said : IsClaimed S nodes actor v n w) (drew : drawn_node nodes n ≡ Some b) where
    abbrev drawn : View T
    drawn = record v { credit = v.credit - 1; claims = (n + 1) ∷ v.claims }

    claim_view : w ≡ drawn
    claim_view = said.view ∙ ap (λ c. cond c drawn (record v { credit = v.credit - 1; none_left = true }))
        (let d = drawn_is nodes n b drew in below n nodes d.1)
      where
        below : (n nodes : ℕ) → n < nodes → nat_lt n nodes ≡ true
        below n nodes h = grind (arith, common_steps)

    pub claim_held : w.held ≡ v.held
    claim_held = ap (λ (u : View T). u.held) claim_view

    pub claim_noted : w.noted ≡ v.noted
    claim_noted = ap (λ (u : View T). u.noted) claim_view

    pub claim_credit : w.credit ≡ v.credit - 1
    claim_credit = ap (λ (u : View T). u.credit) claim_view

    pub claim_sides : w.sides ≡ v.sides
    claim_sides = ap (λ (u : View T). u.sides) claim_view

    pub claim_side_notes : w.noted_sides ≡ v.noted_sides
    claim_side_notes = ap (λ (u : View T). u.noted_sides) claim_view

    pub claim_larger : (i : ℕ) → 0 < count i v.held → i < b
    claim_larger i h = let d = drawn_is nodes n b drew in let e = said.larger i (omega arith) in omega arith

  module _ (node p : ℕ) (onward : List ℕ) (said : IsArmed S nodes actor node p onward v w) where
    pub arm_held : ((i : ℕ) → count i onward ≤ count i v.held) → (i : ℕ)
        → count i w.held + count i onward ≡ only_at node (p + 1) i + count i v.held
    arm_held have i =
        let e : count i w.held ≡ count i (copies (p + 1) node ++ minus onward v.held) =
        ap (λ (u : View T). count i u.held) said.view in
        let a = total-append (one_at i) (copies (p + 1) node) (minus onward v.held) in
        let b = fresh-count node (p + 1) i in
        let c = total-minus (one_at i) onward v.held have in
        omega arith

    pub arm_note : note_of node w.noted ≡ Some onward
    arm_note = ap (λ (u : View T). note_of node u.noted) said.view
        ∙ ap (λ b. cond b (Some onward) (note_of node v.noted)) (here node)

    pub arm_sides : ((k : ℕ) → count k v.sides ≡ 0) → (k : ℕ) → count k w.sides ≡ 0
    arm_sides none_held k = ap (λ (u : View T). count k u.sides) said.view
        ∙ ap (λ l. count k (minus l v.sides)) (no_sides_of onward v.sides none_held) ∙ none_held k

    pub arm_side_note : ((k : ℕ) → count k v.sides ≡ 0) → note_of node w.noted_sides ≡ Some []
    arm_side_note none_held = ap (λ (u : View T). note_of node u.noted_sides) said.view
        ∙ ap (λ b. cond b (Some (sides_of onward v.sides)) (note_of node v.noted_sides)) (here node)
        ∙ ap Some (no_sides_of onward v.sides none_held)

    pub arm_note_else : (i : ℕ) → i ≢ node → note_of i w.noted ≡ note_of i v.noted
    arm_note_else i n = ap (λ (u : View T). note_of i u.noted) said.view
        ∙ ap (λ b. cond b (Some onward) (note_of i v.noted)) (ne_eqb node i (λ e. n (sym e)))

    pub arm_side_note_else : (i : ℕ) → i ≢ node → note_of i w.noted_sides ≡ note_of i v.noted_sides
    arm_side_note_else i n = ap (λ (u : View T). note_of i u.noted_sides) said.view
        ∙ ap (λ b. cond b (Some (sides_of onward v.sides)) (note_of i v.noted_sides)) (ne_eqb node i (λ e. n (sym e)))

  module _ (node n : ℕ) (said : IsArrived S nodes actor node v n w) (have : 0 < count node v.held) where
    pub pending_held : n ≢ 1 → (i : ℕ) → count i w.held + only_at node 1 i ≡ count i v.held
    pending_held more i = let e : count i w.held ≡ count i (less node v.held) =
        ap (λ (u : View T). count i u.held) (said.pending more) in let a = total-less (one_at i) node v.held have in
        let b = at_sym i node in omega arith

    pub pending_noted : n ≢ 1 → w.noted ≡ v.noted
    pending_noted more = ap (λ (u : View T). u.noted) (said.pending more)

    pub pending_sides : n ≢ 1 → w.sides ≡ v.sides
    pending_sides more = ap (λ (u : View T). u.sides) (said.pending more)

    pub pending_side_notes : n ≢ 1 → w.noted_sides ≡ v.noted_sides
    pending_side_notes more = ap (λ (u : View T). u.noted_sides) (said.pending more)

    pub last_sides : n ≡ 1 → note_of node v.noted_sides ≡ Some [] → ((k : ℕ) → count k v.sides ≡ 0) → (k : ℕ)
        → count k w.sides ≡ 0
    last_sides one note none_held k =
        let l = said.last one in
        let e : count k w.sides ≡ count k (l.1 ++ v.sides) = ap (λ (u : View T). count k u.sides) l.2 in
        let a = total-append (one_at k) l.1 v.sides in
        let c : count k l.1 ≡ 0 = l.4 [] note k in
        let d = none_held k in
        omega arith

    pub last_held : n ≡ 1 → (given : List ℕ) → note_of node v.noted ≡ Some given → (i : ℕ)
        → count i w.held + only_at node 1 i ≡ count i given + count i v.held
    last_held one given note i =
        let l = said.last one in
        let e : count i w.held ≡ count i (l.0 ++ less node v.held) = ap (λ (u : View T). count i u.held) l.2 in
        let a = total-append (one_at i) l.0 (less node v.held) in
        let b = total-less (one_at i) node v.held have in
        let c = l.3 given note i in
        let d = at_sym i node in
        omega arith

    pub last_noted : n ≡ 1 → w.noted ≡ v.noted
    last_noted one = ap (λ (u : View T). u.noted) (said.last one).2

    pub last_side_notes : n ≡ 1 → w.noted_sides ≡ v.noted_sides
    last_side_notes one = ap (λ (u : View T). u.noted_sides) (said.last one).2

-- a seat that was split off with k arrivals at a node, and no side
pub part_has : {T : Type 0} (node k c : ℕ) (v u : View T) → u ≡ part_view node k c [] v → 0 < k
    → ((0 < count node u.held) × (k - 1 ≤ count node u.held)) × IsPlainAt node u
part_has node k c v u is some_there =
    let e : count node u.held ≡ k = ap (λ (w : View _). count node w.held) is ∙ fresh-count node k node
    ∙ fresh_here node k in (
      (omega arith, omega arith),
      (
        ap (λ (w : View _). count (left_slot node) w.sides) is,
        ap (λ (w : View _). count (right_slot node) w.sides) is,
      ),
    )
