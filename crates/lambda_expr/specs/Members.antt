-- Meaning: what a lambda may name in `Math`, `Long` and `LongStream`.
use Rattle.std.specs.Prelude.{ℕ, pos, negsuc, ◌-◌, ◌^◌, Bool, nat_eq, if◌then◌else◌, List, [], ◌∷◌, codes, map}
use Rattle.std.specs.Borrow.{Bor}
use Rattle.std.specs.Cmp.Lexicographic.{pointwise}
use Rattle.lambda_expr.specs.declared.operation.Function.TheVariants.{Unary, Binary}
use Rattle.lambda_values.specs.declared.operator.UnaryOperator.TheVariants as unary_operator
use Rattle.lambda_values.specs.declared.operator.BinaryOperator.TheVariants as binary_operator
use Rattle.lambda_expr.specs.declared.source.StreamSource.TheVariants as source
use Rattle.lambda_expr.specs.declared.table.Member.{Member}
use Rattle.lambda_expr.specs.declared.table.Member.TheVariants as member

abbrev pub is_named : List ℕ → List ℕ → Bool
is_named w name = pointwise nat_eq w name

-- the table: the methods and constants of Math and Long, and what makes a LongStream
abbrev pub rows : List (List ℕ × Member)
rows =
    (codes "abs", member.InMath (Unary unary_operator.Absolute))
    ∷ (codes "negateExact", member.InMath (Unary unary_operator.NegateExact))
    ∷ (codes "floorDiv", member.InMath (Binary binary_operator.FloorDivide))
    ∷ (codes "floorMod", member.InMath (Binary binary_operator.FloorRemainder))
    ∷ (codes "addExact", member.InMath (Binary binary_operator.AddExact))
    ∷ (codes "subtractExact", member.InMath (Binary binary_operator.SubtractExact))
    ∷ (codes "multiplyExact", member.InMath (Binary binary_operator.MultiplyExact))
    ∷ (codes "min", member.InBoth (Binary binary_operator.Min))
    ∷ (codes "max", member.InBoth (Binary binary_operator.Max))
    ∷ (codes "sum", member.InLong (Binary binary_operator.Add))
    ∷ (codes "MAX_VALUE", member.Constant (pos (2 ^ 63 - 1)))
    ∷ (codes "MIN_VALUE", member.Constant (negsuc (2 ^ 63 - 1)))
    ∷ (codes "empty", member.Source source.Empty)
    ∷ (codes "of", member.Source source.Of)
    ∷ (codes "range", member.Source source.Range)
    ∷ (codes "rangeClosed", member.Source source.RangeClosed)
    ∷ []

-- helper: the rows of the program
abbrev pub rows_in : List (Bor (List ℕ) × Member) → List (List ℕ × Member)
rows_in rs = map (λ r. (r.0.now, r.1)) rs

-- what the first of these rows with this name says
abbrev pub member_among : List (List ℕ × Member) → List ℕ → Member
member_among [] w = member.Other
member_among (r ∷ rs) w = if is_named w r.0 then r.1 else member_among rs w

-- what a name is after `Math .`, `Long .` or `LongStream .`
abbrev pub member_of : List ℕ → Member
member_of w = member_among rows w
