-- A text stops at one place.
use Rattle.std.proofs.Common.{◌≡◌, ℕ, ◌+◌, ◌<◌, ◌≤◌, List, ◌++◌, take, drop, sym, ap, subst, ◌∙◌, ⊎_elim, append_assoc}
use Rattle.std.proofs.Common.{arith}
use Rattle.std.proofs.lemmas.List.{take-take, take-append-drop}
use Rattle.std.proofs.str.Laws.{order}
use Rattle.lambda_expr.specs.Stops.{Begins, StopsAt}

-- what begins with some words begins with fewer
shorter : {W : Type 0} (G : List W → Type 0) (ws : List W) (k n : ℕ) → k ≤ n → Begins G (take n ws)
    → Begins G (take k ws)
shorter G ws k n h b =
    let cut : take k ws ++ drop k (take n ws) ≡ take n ws =
    ap (λ v. v ++ drop k (take n ws)) (sym (take-take k n ws h)) ∙ take-append-drop k (take n ws) in (
      drop k (take n ws) ++ b.0,
      subst G (ap (λ v. v ++ b.0) (sym cut)
          ∙ append_assoc (take k ws) (drop k (take n ws)) b.0) b.1,
    )

not_below : {W : Type 0} (G : List W → Type 0) (ws : List W) (m n : ℕ) → StopsAt G ws m → StopsAt G ws n → m < n → ⊥
not_below G ws m n s t h =
    let w = t.within in
    s.stops (omega arith) (shorter G ws (m + 1) n (omega arith) t.begins)

pub one_place : {W : Type 0} (G : List W → Type 0) (ws : List W) (m n : ℕ) → StopsAt G ws m → StopsAt G ws n → m ≡ n
one_place G ws m n s t =
    ⊎_elim (λ (lt : m < n). absurd (not_below G ws m n s t lt))
    (λ (ge : n ≤ m). ⊎_elim (λ (gt : n < m). absurd (not_below G ws n m t s gt)) (λ (le : m ≤ n). omega arith)
    (order n m))
    (order m n)
