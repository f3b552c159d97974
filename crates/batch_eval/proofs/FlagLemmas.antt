-- Booleans in registers: what an expression's definition says of booleans, said of flags.
use Rattle.std.proofs.Common.{◌≡◌, ◌∙◌, ℕ, ◌%◌, ◌^◌, ℤ, pos, negsuc, Bool, true, false, not, Result, Ok, Err}
use Rattle.std.proofs.Common.{FitsSigned, ap, of_z, refl, rules, subst, to_z, w64}
use Rattle.std.proofs.lemmas.Nat.{and_mask}
use Rattle.std.specs.Int.{int_bit_and}
use Rattle.lambda_values.specs.declared.fault.FaultKind.{FaultKind}
use Rattle.lambda_values.specs.declared.operator.Comparison.{Comparison}
use Rattle.lambda_values.specs.declared.operator.Comparison.TheVariants as comparison
use Rattle.lambda_values.specs.Operators.{on, comparison_value}
use Rattle.lambda_values.specs.declared.operator.Connective.{Connective}
use Rattle.lambda_values.specs.declared.operator.Connective.TheVariants as connective
use Rattle.lambda_values.specs.Value.{chosen, connected}
use Rattle.batch_eval.specs.Choices.{between, chosen_value, connected_flag}
use Rattle.batch_eval.specs.Lanes.{compared, flag_of, flagged, is_set}

pub flagged_between : (c : Comparison) (a b : Result ℤ FaultKind)
    → flagged (on a (λ v. on b (λ w. Ok (comparison_value c v w)))) ≡ between (compared c) a b
flagged_between c (Err e) b = refl
flagged_between c (Ok v) (Err e) = refl
flagged_between c (Ok v) (Ok w) = refl

pub flagged_opposite : (a : Result Bool FaultKind)
    → flagged (on a (λ p. Ok (not p))) ≡ on (flagged a) (λ z. compared comparison.Equal z (pos 0))
flagged_opposite (Err e) = refl
flagged_opposite (Ok true) = refl
flagged_opposite (Ok false) = refl

pub flagged_chosen : (c a b : Result Bool FaultKind)
    → flagged (on c (λ t. chosen t a b)) ≡ chosen_value c (flagged a) (flagged b)
flagged_chosen (Err e) a b = refl
flagged_chosen (Ok true) a b = refl
flagged_chosen (Ok false) a b = refl

pub flagged_connected : (c : Connective) (a r : Result Bool FaultKind) (b : Bool) → r ≡ Ok b
    → flagged (on a (λ p. connected c p r)) ≡ on (flagged a) (λ z. Ok (connected_flag c z b))
flagged_connected c (Err e) r b is = refl
flagged_connected connective.And (Ok true) r true is = ap flagged is
flagged_connected connective.And (Ok true) r false is = ap flagged is
flagged_connected connective.And (Ok false) r b is = refl
flagged_connected connective.Or (Ok true) r b is = refl
flagged_connected connective.Or (Ok false) r true is = ap flagged is
flagged_connected connective.Or (Ok false) r false is = ap flagged is

-- all bits of a number
pub all_bits : (z : ℤ) → FitsSigned w64 z → int_bit_and w64 z (negsuc 0) ≡ z
all_bits z fits = ap (λ (n : ℕ). to_z w64 n) (and_mask (of_z w64 z) 64 ∙ below) ∙ same where
  below : of_z w64 z % 2 ^ 64 ≡ of_z w64 z
  below = search rules

  same : to_z w64 (of_z w64 z) ≡ z
  same = search rules

-- a boolean in a register
pub flag_is : (r : Result Bool FaultKind) (z : ℤ) → flagged r ≡ Ok z → flag_of (is_set z) ≡ z
flag_is (Ok true) z is = let same : negsuc 0 ≡ z = cc in subst (λ (z : ℤ). flag_of (is_set z) ≡ z) same refl
flag_is (Ok false) z is = let same : pos 0 ≡ z = cc in subst (λ (z : ℤ). flag_of (is_set z) ≡ z) same refl
flag_is (Err kind) z is = cc
