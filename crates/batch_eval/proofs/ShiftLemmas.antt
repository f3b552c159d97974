-- Comparisons with a number, of integers after the shift that makes it the least one.
use Rattle.std.proofs.Common.{◌≡◌, ◌∙◌, ◌^◌, ℤ, pos, negsuc, ◌+ℤ◌, ◌-ℤ◌, ◌*ℤ◌, ◌≤ℤ◌, ◌<ℤ◌, Bool, true, false, not}
use Rattle.std.proofs.Common.{FitsSigned, ap, arith, if◌then◌else◌, rules, subst, sym, w64}
use Rattle.std.proofs.lemmas.Int.{by_lt_z, ints}
use Rattle.std.specs.Int.Signed.{le_z}
use Rattle.std.specs.Ordering.{int_eq}
use Rattle.std.specs.Prelude.{int_lt}
use Rattle.lambda_values.specs.Wrap.{wrap}
use Rattle.lambda_values.proofs.Multiples.{wrap_only}
use Rattle.batch_eval.specs.NumberTests.{to_least}

-- an integer after that shift, wrapped
abbrev from_least : ℤ → ℤ → ℤ
from_least n z = if int_lt z n then (z -ℤ n) +ℤ pos (2 ^ 63) else (z -ℤ n) -ℤ pos (2 ^ 63)

wraps_to : (y k w : ℤ) → y +ℤ k *ℤ pos (2 ^ 64) ≡ w → FitsSigned w64 w → wrap y ≡ w
wraps_to y k w is fits = wrap_only y k (subst (λ (x : ℤ). FitsSigned w64 x) (sym is) fits) ∙ is

module _ (z n : ℤ) (f : FitsSigned w64 z) (g : FitsSigned w64 n) where
  below : z <ℤ n → FitsSigned w64 ((z -ℤ n) +ℤ pos (2 ^ 63)) × ((z -ℤ n) +ℤ pos (2 ^ 63) ≡ from_least n z)
  below o = (search rules, search rules)

  above : n ≤ℤ z → FitsSigned w64 ((z -ℤ n) -ℤ pos (2 ^ 63)) × ((z -ℤ n) -ℤ pos (2 ^ 63) ≡ from_least n z)
  above o = (search rules, search rules)

  -- by the sign of the number
  by_sign : (b : Bool) → wrap (z -ℤ (if b then n +ℤ pos (2 ^ 63) else n -ℤ pos (2 ^ 63))) ≡ from_least n z
  by_sign true = by_lt_z z n
      (λ o. wraps_to (z -ℤ (n +ℤ pos (2 ^ 63))) (pos 1) _ (omega (arith, ints)) (below o).0 ∙ (below o).1)
      (λ o. wraps_to (z -ℤ (n +ℤ pos (2 ^ 63))) (pos 0) _ (omega (arith, ints)) (above o).0 ∙ (above o).1)
  by_sign false = by_lt_z z n
      (λ o. wraps_to (z -ℤ (n -ℤ pos (2 ^ 63))) (pos 0) _ (omega (arith, ints)) (below o).0 ∙ (below o).1)
      (λ o. wraps_to (z -ℤ (n -ℤ pos (2 ^ 63))) (negsuc 0) _ (omega (arith, ints)) (above o).0 ∙ (above o).1)

  least : wrap (z -ℤ to_least n) ≡ from_least n z
  least = by_lt_z n (pos 0)
      (λ o. ap (λ s. wrap (z -ℤ s)) (wraps_to (n +ℤ pos (2 ^ 63)) (pos 0) _ (omega (arith, ints)) (negative o))
      ∙ by_sign true)
      (λ o. ap (λ s. wrap (z -ℤ s)) (wraps_to (n +ℤ pos (2 ^ 63)) (negsuc 0) _ (omega (arith, ints)) (other o))
      ∙ by_sign false)
    where
      negative : n <ℤ pos 0 → FitsSigned w64 (n +ℤ pos (2 ^ 63))
      negative o = search rules

      other : pos 0 ≤ℤ n → FitsSigned w64 (n -ℤ pos (2 ^ 63))
      other o = search rules

  pub holds_equal : le_z (wrap (z -ℤ to_least n)) (negsuc 9223372036854775807) ≡ int_eq z n
  holds_equal = ap (λ x. le_z x (negsuc 9223372036854775807)) least ∙ search rules

  pub holds_from : le_z (wrap (z -ℤ to_least n)) (negsuc 0 -ℤ n) ≡ not (int_lt z n)
  holds_from = ap (λ x. le_z x (negsuc 0 -ℤ n)) least ∙ search rules

  module _ (m : ℤ) (is : n ≡ m +ℤ pos 1) (h : FitsSigned w64 m) where
    pub holds_above : le_z (wrap (z -ℤ to_least n)) (negsuc 1 -ℤ m) ≡ int_lt m z
    holds_above = ap (λ x. le_z x (negsuc 1 -ℤ m)) least ∙ search rules

    pub holds_other : le_z (wrap (z -ℤ to_least n)) (pos 9223372036854775806) ≡ not (int_eq z m)
    holds_other = ap (λ x. le_z x (pos 9223372036854775806)) least ∙ search rules
