-- Each operator may be grouped in any way.
use Rattle.std.proofs.Common.{◌≡◌, ℤ, ◌+ℤ◌, ◌*ℤ◌, sym, refl, ap, ◌∙◌, arith}
use Rattle.std.proofs.Math.IntN.{+ℤ_assoc}
use Rattle.std.specs.Int.{w64, int_wrap}
use Rattle.std.proofs.lemmas.Int.{ints, int_wrap-add_left, int_wrap-add_right, int_wrap-mul_left, int_wrap-mul_right}
use Rattle.reduce_ops.specs.declared.op.Op.{Op}
use Rattle.reduce_ops.specs.declared.op.Op.TheVariants.{Sum, Product, Min, Max, And, Or, Xor, Affine, First, Last}
use Rattle.reduce_ops.specs.Operators.{value_of, IsAssociative}
use Rattle.reduce_ops.proofs.Bits.{and_grouped, or_grouped, xor_grouped}
use Rattle.reduce_ops.proofs.Products.{product_assoc}
use Rattle.reduce_ops.proofs.Affine.{affine_grouped}

lesser_grouped : (a b c : ℤ) → value_of Min (value_of Min a b) c ≡ value_of Min a (value_of Min b c)
lesser_grouped a b c = grind (arith, ints)

greater_grouped : (a b c : ℤ) → value_of Max (value_of Max a b) c ≡ value_of Max a (value_of Max b c)
greater_grouped a b c = grind (arith, ints)

pub all_associative : (op : Op) → IsAssociative (value_of op)
all_associative Sum a b c = int_wrap-add_left w64 (a +ℤ b) c ∙ ap (int_wrap w64) (+ℤ_assoc a b c)
    ∙ sym (int_wrap-add_right w64 a (b +ℤ c))
all_associative Product a b c = int_wrap-mul_left w64 (a *ℤ b) c ∙ ap (int_wrap w64) (product_assoc a b c)
    ∙ sym (int_wrap-mul_right w64 a (b *ℤ c))
all_associative Min a b c = lesser_grouped a b c
all_associative Max a b c = greater_grouped a b c
all_associative And a b c = and_grouped a b c
all_associative Or a b c = or_grouped a b c
all_associative Xor a b c = xor_grouped a b c
all_associative Affine a b c = affine_grouped a b c
all_associative First a b c = refl
all_associative Last a b c = refl
