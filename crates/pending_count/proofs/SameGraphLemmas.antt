-- A view that changes in what it says of pairs alone shows one graph.
use Rattle.std.proofs.Common.{◌≡◌, ℕ, zero, suc, ◌<◌, List, [], ◌∷◌, length, set, refl, ap, ◌∙◌, subst, arith}
use mathlib.Core.Option.{none, some}
use mathlib.Core.Option as mc
use lib.ListN.{get_elem?}
use Rattle.atomic_table.proofs.Lists.{set_here}
use Rattle.completion_core.specs.Graph.{same, total, Graph}
use Rattle.completion_core.specs.Legal.{count}
use Rattle.pending_count.specs.declared.view.View.{View}
use Rattle.pending_count.specs.Views.{names, keeps_at}
use Rattle.pending_count.specs.Shows.{Shows, kept_at}
use Rattle.pending_count.proofs.RuleLemmas.{stays, sum_stays}
use Rattle.pending_count.proofs.RuleLemmas.{claiming_as, keeping_as as keeps_as, noting_as as notes_as}

set-set : {A : Type 0} (l : List A) (i : ℕ) (a b : A) → set (set l i a) i b ≡ set l i b
set-set [] i a b = refl
set-set (x ∷ xs) zero a b = refl
set-set (x ∷ xs) (suc i) a b = ap (λ l. x ∷ l) (set-set xs i a b)

-- the two views agree in all but what they say of pairs
pub record Agrees {T : Type 0} (v u : View T) : Type 0 where
  pub credit : u.credit ≡ v.credit
  pub added : u.added ≡ v.added
  pub held : u.held ≡ v.held
  pub claims : u.claims ≡ v.claims
  pub armed : u.armed ≡ v.armed
  pub noted : u.noted ≡ v.noted
  pub seen : u.seen ≡ v.seen
  pub none_left : u.none_left ≡ v.none_left

module _ {S T : Type 0} (nodes : ℕ) (words : List ℕ) (g : Graph) (id : ℕ) where
  pub same_graph : (views : List (View T)) (homes homes' : List (mc.Option S)) (v u : View T)
      → get_elem? views id ≡ some v → Agrees v u
      → Shows nodes (record { words = words; homes = homes; views = views }) g
      → Shows nodes (record { words = words; homes = homes'; views = set views id u }) g
  same_graph views homes homes' v u at same r = record {
    all_nodes = r.all_nodes;
    counting = record {
      size = r.counting.size;
      draws = r.counting.draws;
      paid = (let a = sum_stays views id v at (λ w. w.credit) u same.credit in
          let b = sum_stays views id v at (λ w. w.added) u same.added in let p = r.counting.paid in omega arith);
      few = λ i p. let b = sum_stays views id v at (λ w. w.added) u same.added in let f = r.counting.few i p in
          omega arith;
      word = r.counting.word;
    };
    holding = λ a i. stays views id v at (λ w. count i w.held) u (ap (count i) same.held) a ∙ r.holding a i;
    claiming = claiming_as views (set views id u)
        (λ a i. stays views id v at (λ w. count i w.claims) u (ap (count i) same.claims) a) r.claiming;
    running = r.running;
    keeping = keeps_as views (set views id u)
        (λ i. sum_stays views id v at (λ w. total (names i) w.armed) u (ap (total (names i)) same.armed)) kept
        (λ i j. refl) r.keeping;
    noting = notes_as views (set views id u) (stays views id v at (λ w. w.noted) u same.noted)
        (stays views id v at (λ w. w.seen) u same.seen) (stays views id v at (λ w. w.none_left) u same.none_left) kept
        (omega arith) (omega arith) r.noting;
  }
    where
      kept : (i j : ℕ) → kept_at i j (set views id u) ≡ kept_at i j views
      kept i j = sum_stays views id v at (λ w. total (keeps_at i j) w.armed) u (ap (total (keeps_at i j)) same.armed)

  -- a step of this seat to u instead of v, where the step to v is known
  pub same_graph_step : (views : List (View T)) (homes homes' : List (mc.Option S)) (v u : View T) → id < length views
      → Agrees v u → Shows nodes (record { words = words; homes = homes; views = set views id v }) g
      → Shows nodes (record { words = words; homes = homes'; views = set views id u }) g
  same_graph_step views homes homes' v u low same r =
      subst (λ l. Shows nodes (record { words = words; homes = homes'; views = l }) g) (set-set views id v u)
      (same_graph (set views id v) homes homes' v u (set_here views id v low) same r)
