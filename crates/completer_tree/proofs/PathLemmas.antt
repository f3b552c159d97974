-- A path whose first node was left by its last arrival.
use Rattle.std.proofs.Common.{◌≡◌, ℕ, ◌+◌, ◌<◌, List, [], ◌∷◌, ◌++◌, ap, ◌∙◌, arith}
use Rattle.completion_core.specs.Legal.{count}
use Rattle.pending_count.specs.declared.view.View.{View}
use Rattle.pending_count.specs.Views.{left_slot, right_slot, note_of, less}
use Rattle.pending_count.specs.Steps.{IsArrived}
use Rattle.pending_count.proofs.SumLemmas.{one_at, total-append}
use Rattle.completer_tree.specs.Paths.{KeepsNext, IsPath, Propagates}

module _ {T : Type 0} where
  -- what a seat knows of a path it knows by its notes
  keeps_on : (i : ℕ) (path : List ℕ) (v w : View T) → w.noted ≡ v.noted → w.noted_sides ≡ v.noted_sides
      → KeepsNext i path v → KeepsNext i path w
  keeps_on i [] v w same same_sides k = tt
  keeps_on i (j ∷ path) v w same same_sides k =
      let a = k.0 in (
        record {
          given = a.given;
          noted = ap (note_of i) same ∙ a.noted;
          some = a.some;
          sides = a.sides;
          noted_sides = ap (note_of i) same_sides ∙ a.noted_sides;
          plain = a.plain;
        },
        keeps_on j path v w same same_sides k.1,
      )

  pub next_path : {S : Type 0} {nodes actor : ℕ} (i n : ℕ) (path : List ℕ) (v w : View T) → IsPath (i ∷ path) v
      → IsArrived S nodes actor i v n w → n ≡ 1 → IsPath path w
  next_path i n [] v w p told one = tt
  next_path i n (j ∷ path) v w p told one =
      let l = told.last one in
      let keeps = p.2.0 in
      let held_is : count j w.held ≡ count j (l.0 ++ less i v.held) = ap (λ (u : View T). count j u.held) l.2 in
      let both = total-append (one_at j) l.0 (less i v.held) in
      let given_is = l.3 keeps.given keeps.noted j in
      let some = keeps.some in
      let side : (s : ℕ) → count s w.sides ≡ count s l.1 + count s v.sides =
      λ s. ap (λ (u : View T). count s u.sides) l.2 ∙ total-append (one_at s) l.1 v.sides in
      let kept_sides = l.4 keeps.sides keeps.noted_sides in (
        omega arith,
        (λ k h.
            let before = p.1 k (omega arith) in
            let none = keeps.plain k h in (
              before.0,
              (
                (let a = side (left_slot k) in let b = kept_sides (left_slot k) in let d = none.0 in
                    let e = before.1.0 in omega arith),
                (let a = side (right_slot k) in let b = kept_sides (right_slot k) in let d = none.1 in
                    let e = before.1.1 in omega arith),
              ),
            )),
        keeps_on j path v w (ap (λ (u : View T). u.noted) l.2) (ap (λ (u : View T). u.noted_sides) l.2) p.2.1,
      )

  -- the arrivals along a path whose first node was left by its last arrival
  pub goes_on : (S : Type 0) {nodes actor : ℕ} (i n : ℕ) (path : List ℕ) (v u w : View T) (later : ℕ)
      → IsArrived S nodes actor i v n u → n ≡ 1 → Propagates S nodes actor path u w later
      → Propagates S nodes actor (i ∷ path) v w (later + 1)
  goes_on S i n path v u w later told one rest =
      (n, u, told, (λ more. absurd (more one)), λ e. (later, omega arith, rest))
