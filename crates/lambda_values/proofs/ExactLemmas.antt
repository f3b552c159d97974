-- The integers that 64 bits hold.
use Rattle.std.proofs.Common.{◌≡◌, ◌<◌, ◌^◌, refl, ap, arith, true, false, ℤ, pos, negsuc, FitsSigned, w64, Ok, Some}
use Rattle.std.proofs.Common.{None, Option}
use Rattle.std.specs.Option.{SomeIff, ok_or}
use Rattle.std.proofs.lemmas.Grind.{common_steps}
use Rattle.lambda_values.specs.declared.fault.FaultKind.TheVariants.{Overflow}
use Rattle.lambda_values.specs.Operators.{exact, is_long}

pub is_long_yes : (z : ℤ) → FitsSigned w64 z → is_long z ≡ true
is_long_yes (pos n) f = let h : n < 2 ^ 63 = f.sfits in grind (arith, common_steps)
is_long_yes (negsuc n) f = let h : n < 2 ^ 63 = f.sfits in grind (arith, common_steps)

pub is_long_no : (z : ℤ) → (FitsSigned w64 z → ⊥) → is_long z ≡ false
is_long_no (pos n) f = let h : (n < 2 ^ 63 → ⊥) = λ lt. f (record { sfits = lt }) in grind (arith, common_steps)
is_long_no (negsuc n) f = let h : (n < 2 ^ 63 → ⊥) = λ lt. f (record { sfits = lt }) in grind (arith, common_steps)

pub ok_or_exact : (o : Option ℤ) (z : ℤ) → SomeIff o (FitsSigned w64 z) z → ok_or o Overflow ≡ exact z
ok_or_exact None z f = rw (is_long_no z f) refl
ok_or_exact (Some v) z f = rw (is_long_yes z f.0) (ap Ok f.1)
