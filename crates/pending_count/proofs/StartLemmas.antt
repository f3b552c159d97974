-- The table at the start.
use Rattle.std.proofs.Common.{◌≡◌, ◌≢◌, ℕ, zero, suc, ◌+◌, ◌<◌, ◌≤◌, cond, true, List, [], ◌∷◌, length, get_or, sym}
use Rattle.std.proofs.Common.{refl, ap, ◌∙◌, subst, arith, ne_eqb, true≢false, Some, replicate}
use mathlib.Core.Logic.{dite}
use native.Mathlib.Decide.{ℕ_discrete}
use Rattle.atomic_table.specs.Table.{opening}
use Rattle.completion_core.specs.Graph.{Held, Kept, one_same, not_made, copies, amount, left, Graph, start}
use Rattle.completion_core.specs.Legal.{count}
use Rattle.pending_count.specs.declared.view.View.{View}
use Rattle.pending_count.specs.Views.{InRange, first_view, view_at, note_of}
use Rattle.pending_count.specs.Steps.{IsOpened}
use Rattle.pending_count.specs.Shows.{Shows}
use Rattle.pending_count.proofs.SumLemmas.{one_at, total-ones, total-zeros, one_held, at_else, some_is}

abbrev row : ℕ → List ℕ
row n = replicate n 0

zeros : (n i : ℕ) → get_or (row n) i 0 ≡ 0
zeros zero i = refl
zeros (suc n) zero = refl
zeros (suc n) (suc i) = zeros n i

long_zeros : (n : ℕ) → length (row n) ≡ n
long_zeros zero = refl
long_zeros (suc n) = let r = long_zeros n in omega arith

module _ (S T : Type 0) (nodes ends : ℕ) where
  abbrev g : Graph
  g = start nodes ends

  abbrev words' : List ℕ
  words' = ends ∷ row (nodes + 1)

  abbrev views' : List (View T)
  views' = first_view ends ∷ []

  at_first : (i : ℕ) → i ≢ 0 → g.arrivals i ≡ []
  at_first i n = ap (λ b. cond b (copies ends (Held 0)) []) (ne_eqb i 0 n)

  first_holds : (a i : ℕ) → count i (view_at views' a).held ≡ amount (Held a) (g.arrivals i)
  first_holds zero zero = total-ones (one_at 0) ends 0 refl ∙ sym (total-ones (one_same (Held 0)) ends (Held 0) refl)
  first_holds zero (suc i) = total-zeros (one_at (suc i)) ends 0 (at_else (suc i) 0 (λ e. absurd (omega arith)))
      ∙ sym (ap (amount (Held 0)) (at_first (suc i) (λ e. absurd (omega arith))))
  first_holds (suc a) zero = sym (total-zeros (one_same (Held (suc a))) ends (Held 0)
      (one_held (suc a) 0 (λ e. absurd (omega arith))))
  first_holds (suc a) (suc i) = sym (ap (amount (Held (suc a))) (at_first (suc i) (λ e. absurd (omega arith))))

  first_words : (i : ℕ) → i ≤ nodes → get_or words' i 0 ≡ left (g.arrivals i)
  first_words zero h = sym (total-ones not_made ends (Held 0) refl)
  first_words (suc i) h = zeros (nodes + 1) i ∙ sym (ap left (at_first (suc i) (λ e. absurd (omega arith))))

  no_claims : (a i : ℕ) → 0 < count i (view_at views' a).claims → ⊥
  no_claims zero i h = absurd (omega arith)
  no_claims (suc a) i h = absurd (omega arith)

  kept_first : (k j : ℕ) → amount (Kept k) (g.arrivals j) ≡ 0
  kept_first k zero = total-zeros (one_same (Kept k)) ends (Held 0) refl
  kept_first k (suc j) = ap (amount (Kept k)) (at_first (suc j) (λ e. absurd (omega arith)))

  no_notes : (a i : ℕ) (kept : List ℕ) → note_of i (view_at views' a).noted ≡ Some kept → ⊥
  no_notes zero i kept e = absurd (grind arith)
  no_notes (suc a) i kept e = absurd (grind arith)

  first_seen : (a n : ℕ) → (view_at views' a).seen ≡ Some n → ends ≤ n
  first_seen zero n e = let h : ends ≡ n = some_is ends n e in omega arith
  first_seen (suc a) n e = absurd (grind arith)

  none_spent : (a : ℕ) → (view_at views' a).none_left ≡ true → ⊥
  none_spent zero e = true≢false (sym e)
  none_spent (suc a) e = true≢false (sym e)

  last_zero : get_or words' (nodes + 1) 0 ≡ 0
  last_zero = let e : nodes + 1 ≡ suc nodes = omega arith in ap (λ k. get_or words' k 0) e ∙ zeros (nodes + 1) nodes

  pub opens : (slots : List S) → Shows {T = T} nodes (opening words' slots (first_view ends)) g
  opens slots =
      record {
        all_nodes = refl;
        counting = record {
          size = (let a = long_zeros (nodes + 1) in omega arith);
          draws = (let a = last_zero in omega arith);
          paid = (let a = last_zero in omega arith);
          few = λ i p. let a = ap left (at_first i (λ e. absurd (omega arith))) in omega arith;
          word = first_words;
        };
        holding = first_holds;
        claiming = record {
          drew = λ a i h. absurd (no_claims a i h);
          once = λ a i p q. absurd (omega arith);
        };
        running = record {
          below = λ i e. absurd (true≢false (sym e));
          bare = λ i p e. at_first i (λ e. absurd (omega arith));
          idle = λ i e. refl;
          waits = λ i e. absurd (true≢false (sym e));
          over = λ i e. absurd (true≢false (sym e));
        };
        keeping = record {
          records = λ i. refl;
          keeping = λ i j e. kept_first i j;
          spent = λ i j e. kept_first i j;
        };
        noting = record {
          noted = λ a i k e. absurd (no_notes a i k e);
          seen = first_seen;
          exhausted = λ a e. absurd (none_spent a e);
        };
      }

-- the first seat holds arrivals at END alone
pub first_ranged : {T : Type 0} (words ends : ℕ) (v : View T) → v ≡ first_view ends → (n : ℕ) → words ≡ n + 2
    → InRange n v
first_ranged words ends v is n e = subst (λ u. InRange n u) (sym is)
    (λ i h. dite (ℕ_discrete i 0) (λ z. omega arith)
    (λ m. let q = total-zeros (one_at i) ends 0 (at_else i 0 (λ e. m (sym e))) in absurd (omega arith)))

pub opened_as : (S : Type 0) {T : Type 0} (nodes ends : ℕ) (v : View T) → v ≡ first_view ends → IsOpened S nodes ends v
opened_as S {T} nodes ends v is slots = subst
    (λ u. Shows nodes (opening (ends ∷ replicate (nodes + 1) 0) slots u) (start nodes ends)) (sym is)
    (opens S T nodes ends slots)
