-- The first book means the new graph.
use Rattle.std.proofs.Common.{◌≡◌, ℕ, zero, suc, ◌<◌, ◌^◌, cond, false, List, [], ◌∷◌, length, None, refl, ap, ◌∙◌, sym}
use Rattle.std.proofs.Common.{arith, ne_eqb}
use Rattle.completion_core.specs.declared.node_state.NodeState.{NodeState}
use Rattle.completion_core.specs.Graph.{Held, Kept, total, copies, left, one_same, not_made, Graph, start}
use Rattle.completion_core.specs.Legal.{only_at}
use Rattle.completion_core.specs.Book.{Book, StandsFor, state_of, blank, held_in}
use Rattle.completion_core.specs.Holdings.{place}
use Rattle.completion_core.proofs.HeldArrivalLemmas.{place_is}
use Rattle.completion_core.proofs.TotalLemmas.{total-ones, total-zeros, total-fresh, length-copies}

abbrev pub first_state : ℕ → NodeState
first_state ends = record { claimer = 0; armed = false; ran = false; owed = ends; left = ends; last = None; kept = [] }

-- a part of the first state that is as in a blank one
as_blank : {A : Type 0} (p : NodeState → A) (ends : ℕ) → p (first_state ends) ≡ p blank → (i : ℕ)
    → p (state_of (first_state ends ∷ []) i) ≡ p blank
as_blank p ends e zero = e
as_blank p ends e (suc i) = refl

module _ (nodes ends : ℕ) (small : ends < 2 ^ 64) (held : List ((ℕ × ℕ) × ℕ))
    (h : (a i : ℕ) → held_in held a i ≡ place 0 0 ends a i) where
  abbrev first : Book
  first = record { nodes = nodes; states = first_state ends ∷ []; holdings = held }

  abbrev g : Graph
  g = start nodes ends

  nothing : (i : ℕ) → 0 < i → g.arrivals i ≡ []
  nothing i p = ap (λ b. cond b (copies ends (Held 0)) []) (ne_eqb i 0 (λ e. absurd (omega arith)))

  owed : (i : ℕ) → length (g.arrivals i) ≡ (state_of first.states i).owed
  owed zero = length-copies ends (Held 0)
  owed (suc i) = ap length (nothing (suc i) (omega arith))

  lefts : (i : ℕ) → left (g.arrivals i) ≡ (state_of first.states i).left
  lefts zero = total-ones not_made ends (Held 0) refl
  lefts (suc i) = ap left (nothing (suc i) (omega arith))

  pub starts : StandsFor first g
  starts = record {
    nodes = refl;
    drawn = refl;
    within = omega arith;
    claimer = λ i. sym (as_blank (λ (s : NodeState). s.claimer) ends refl i);
    armed = λ i. sym (as_blank (λ (s : NodeState). s.armed) ends refl i);
    ran = λ i. sym (as_blank (λ (s : NodeState). s.ran) ends refl i);
    last = λ i. sym (as_blank (λ (s : NodeState). s.last) ends refl i);
    owed = owed;
    left = lefts;
    held = λ a i. total-fresh (one_same (Held a)) 0 ends (Held 0) i ∙ place_is 0 0 ends a i ∙ sym (h a i);
    kept = λ k i. total-fresh (one_same (Kept k)) 0 ends (Held 0) i
        ∙ total-zeros (one_same (Kept k)) (only_at 0 ends i) (Held 0) refl
        ∙ ap (λ l. total (only_at i 1) l) (sym (as_blank (λ (s : NodeState). s.kept) ends refl k));
    idle = λ k i u. total-fresh (one_same (Kept k)) 0 ends (Held 0) i
        ∙ total-zeros (one_same (Kept k)) (only_at 0 ends i) (Held 0) refl;
    bare = λ i p u. nothing i p;
    few = λ i p. let e = ap length (nothing i p) in omega arith;
    fits = λ i. fits_at i;
  }
    where
      fits_at : (i : ℕ) → length (g.arrivals i) < 2 ^ 64
      fits_at zero = let e = length-copies ends (Held 0) in omega arith
      fits_at (suc i) = let e = ap length (nothing (suc i) (omega arith)) in omega arith
