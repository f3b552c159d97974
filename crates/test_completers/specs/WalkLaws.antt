-- Condition: the law of parts that the continuations of the tests need.
use Rattle.std.proofs.Common.{◌≡◌, ℕ, subst}

-- a fact of a part, by other bounds
pub by_bounds : (fact : ℕ → ℕ → Type 0) (from from' to to' : ℕ) → from ≡ from' → to ≡ to' → fact from to
    → fact from' to'
by_bounds fact from from' to to' f t h = subst (λ k. fact from' k) t (subst (λ k. fact k to) f h)
