-- Expressions of numbers of 64 bits have values of 64 bits.
use Rattle.std.proofs.Common.{◌≡◌, ℕ, zero, suc, ◌/◌, ◌%◌, ◌≤◌, ◌^◌, ℤ, pos, negsuc, neg_ℤ, ◌+ℤ◌, ◌-ℤ◌, ◌*ℤ◌, ◌≤ℤ◌}
use Rattle.std.proofs.Common.{Bool, true, false, if◌then◌else◌, int_lt, unsigned_abs, List, [], ◌∷◌, Option, Some, None}
use Rattle.std.proofs.Common.{Result, Ok, Err, FitsSigned, w64, refl, arith}
use Rattle.std.specs.Prelude.{int_rem, nat_lt, nat_eq, slice_index_or, unwrap_or}
use Rattle.std.specs.Cmp.Lexicographic.{pointwise}
use Rattle.std.specs.Int.{int_bit_and, int_bit_or, int_bit_xor}
use Rattle.std.specs.Ordering.{int_eq}
use Rattle.std.specs.Str.{bytes_eq}
use Rattle.std.proofs.lemmas.Grind.{common_steps}
use Rattle.std.proofs.lemmas.Int.{ints, SFits-int_wrap}
use borrow.Author.Differences.{fits_in, fits_out}
use Rattle.tables.specs.Table.{NamedColumn, cells_named}
use Rattle.lambda_values.specs.declared.env.NamedNumber.{NamedNumber}
use Rattle.lambda_values.specs.declared.fault.FaultKind.{FaultKind}
use Rattle.lambda_values.specs.declared.item.Item.{Item}
use Rattle.lambda_values.specs.declared.operator.UnaryOperator.{UnaryOperator}
use Rattle.lambda_values.specs.declared.operator.UnaryOperator.TheVariants as unary_operator
use Rattle.lambda_values.specs.declared.operator.BinaryOperator.{BinaryOperator}
use Rattle.lambda_values.specs.declared.operator.BinaryOperator.TheVariants as binary_operator
use Rattle.lambda_values.specs.Earlier.{Numbers, cell_at, number_under}
use Rattle.lambda_values.specs.Operators.{binary_value, divided, exact, is_long, low_six_bits, on, rounded_down}
use Rattle.lambda_values.specs.Operators.{unary_value}
use Rattle.lambda_values.specs.Streams.{Inner, range, range_closed, values, counted, distance, each_value, inner_value}
use Rattle.lambda_values.specs.Streams.{through, up_from}
use Rattle.lambda_values.specs.Term.{Long, number, parameter, reference, cell, row, unary, binary, choose}
use Rattle.lambda_values.specs.Value.{chosen, long_value, truth_value}
use Rattle.lambda_values.specs.Wrap.{wrap}
use Rattle.lambda_values.proofs.DivisionLaws.{and_places, or_places, xor_places}
use Rattle.job_meaning.specs.Longs.{AllFit, EachFits, Fits, InnerFits, LongFits, OptionFits, TableFits}
use Rattle.job_meaning.proofs.LongWalks.{EnvFits, NumbersFit, ValueFits, ValuesFit}

-- ---- one number

pub as_signed : (z : ℤ) → Fits z → FitsSigned w64 z
as_signed (pos n) h = record { sfits = h }
as_signed (negsuc n) h = record { sfits = h }

pub of_signed : (z : ℤ) → FitsSigned w64 z → Fits z
of_signed (pos n) f = f.sfits
of_signed (negsuc n) f = f.sfits

pub wrap_fits : (z : ℤ) → Fits (wrap z)
wrap_fits z = of_signed (wrap z) (SFits-int_wrap w64 z)

pub chosen_number : (b : Bool) (x y : ℤ) → Fits x → Fits y → Fits (if b then x else y)
chosen_number true x y f g = f
chosen_number false x y f g = g

exact_number : (b : Bool) (z : ℤ) → is_long z ≡ b → b ≡ true → Fits z
exact_number b (pos n) e t = grind (arith, common_steps)
exact_number b (negsuc n) e t = grind (arith, common_steps)

pub long_number : (z : ℤ) → is_long z ≡ true → Fits z
long_number z e = exact_number true z e refl

exact_by : (b : Bool) (z : ℤ) → is_long z ≡ b → ValueFits (exact z)
exact_by true z e = rw e (long_number z e)
exact_by false z e = rw e tt

exact_fits : (z : ℤ) → ValueFits (exact z)
exact_fits z = exact_by (is_long z) z refl

divided_by : (b : Bool) (y z : ℤ) → int_eq y (pos 0) ≡ b → Fits z → ValueFits (divided y z)
divided_by true y z e f = rw e tt
divided_by false y z e f = rw e f

divided_fits : (y z : ℤ) → Fits z → ValueFits (divided y z)
divided_fits y z f = divided_by (int_eq y (pos 0)) y z refl f

-- ---- operators

mod_within : (a m : ℕ) → a % m ≤ a
mod_within a m = omega arith

negated_fits : (r : ℕ) → r ≤ 2 ^ 63 → Fits (neg_ℤ (pos r))
negated_fits zero within = omega arith
negated_fits (suc r) within = omega (arith, within)

remainder_fits : (x y : ℤ) → Fits x → Fits (int_rem x y)
remainder_fits (pos a) y f = omega (arith, mod_within a (unsigned_abs y), f)
remainder_fits (negsuc a) y f = negated_fits (suc a % unsigned_abs y)
    (omega (arith, mod_within (suc a) (unsigned_abs y), f))

quotient_within : (a m : ℕ) → a / suc m ≤ a
quotient_within a m = omega arith

complement_fits : (x : ℤ) → Fits x → Fits (neg_ℤ x -ℤ pos 1)
complement_fits x f = of_signed (neg_ℤ x -ℤ pos 1) (omega (arith, ints, fits_in, fits_out w64 x (as_signed x f)))

down_fits : (x : ℤ) (n : ℕ) → Fits x → Fits (rounded_down x (pos n))
down_fits (pos a) n f = omega (arith, f)
down_fits (negsuc a) n f = omega (arith, f)

unary_fits : (o : UnaryOperator) (x : ℤ) → Fits x → ValueFits (unary_value o x)
unary_fits unary_operator.Negate x f = wrap_fits (neg_ℤ x)
unary_fits unary_operator.Complement x f = complement_fits x f
unary_fits unary_operator.Absolute x f = wrap_fits (pos (unsigned_abs x))
unary_fits unary_operator.NegateExact x f = exact_fits (neg_ℤ x)

binary_fits : (o : BinaryOperator) (x y : ℤ) → Fits x → Fits y → ValueFits (binary_value o x y)
binary_fits binary_operator.Add x y f g = wrap_fits (x +ℤ y)
binary_fits binary_operator.Subtract x y f g = wrap_fits (x -ℤ y)
binary_fits binary_operator.Multiply x y f g = wrap_fits (x *ℤ y)
binary_fits binary_operator.Divide x y f g = divided_fits y _ (wrap_fits _)
binary_fits binary_operator.Remainder x y f g = divided_fits y (int_rem x y) (remainder_fits x y f)
binary_fits binary_operator.ShiftLeft x y f g = wrap_fits (x *ℤ pos (2 ^ low_six_bits y))
binary_fits binary_operator.ShiftRight x y f g = down_fits x (2 ^ low_six_bits y) f
binary_fits binary_operator.ShiftRightUnsigned x y f g = wrap_fits _
binary_fits binary_operator.And x y f g =
    of_signed (int_bit_and w64 x y) ((and_places x y (as_signed x f) (as_signed y g)).0)
binary_fits binary_operator.Xor x y f g =
    of_signed (int_bit_xor w64 x y) ((xor_places x y (as_signed x f) (as_signed y g)).0)
binary_fits binary_operator.Or x y f g =
    of_signed (int_bit_or w64 x y) ((or_places x y (as_signed x f) (as_signed y g)).0)
binary_fits binary_operator.Min x y f g = chosen_number (int_lt y x) y x g f
binary_fits binary_operator.Max x y f g = chosen_number (int_lt y x) x y f g
binary_fits binary_operator.FloorDivide x y f g = divided_fits y _ (wrap_fits _)
binary_fits binary_operator.FloorRemainder x y f g = divided_fits y _ (wrap_fits _)
binary_fits binary_operator.AddExact x y f g = exact_fits (x +ℤ y)
binary_fits binary_operator.SubtractExact x y f g = exact_fits (x -ℤ y)
binary_fits binary_operator.MultiplyExact x y f g = exact_fits (x *ℤ y)

-- ---- what names are

under_by : (b : Bool) (z : ℤ) (o : Option ℤ) → Fits z → OptionFits o → OptionFits (if b then Some z else o)
under_by true z o f g = f
under_by false z o f g = g

under_fits : (name : List ℕ) (ns : List NamedNumber) → NumbersFit ns → OptionFits (number_under name ns)
under_fits name [] h = tt
under_fits name (n ∷ ns) h = under_by (pointwise nat_eq n.name name) n.number (number_under name ns) h.0
    (under_fits name ns h.1)

or_zero : (o : Option ℤ) → OptionFits o → Fits (unwrap_or o (pos 0))
or_zero None h = omega arith
or_zero (Some z) h = h

abbrev cells_fit : Option (List ℤ) → Type 0
cells_fit None = Unit {0}
cells_fit (Some cells) = AllFit cells

indexed_fits : (cells : List ℤ) (i : ℕ) → AllFit cells → Fits (slice_index_or cells i (pos 0))
indexed_fits [] i h = omega arith
indexed_fits (z ∷ zs) zero h = h.0
indexed_fits (z ∷ zs) (suc i) h = indexed_fits zs i h.1

cell_fits : (i : ℕ) (o : Option (List ℤ)) → cells_fit o → Fits (cell_at i o)
cell_fits i None h = omega arith
cell_fits i (Some cells) h = indexed_fits cells i h

named_by : (b : Bool) (name : List ℕ) (c : NamedColumn) (cs : List NamedColumn) → bytes_eq c.name name ≡ b
    → AllFit c.cells → cells_fit (cells_named name cs) → cells_fit (cells_named name (c ∷ cs))
named_by true name c cs e f g = rw e f
named_by false name c cs e f g = rw e g

named_fits : (name : List ℕ) (cs : List NamedColumn) → TableFits cs → cells_fit (cells_named name cs)
named_fits name [] h = tt
named_fits name (c ∷ cs) h = named_by (bytes_eq c.name name) name c cs refl h.0 (named_fits name cs h.1)

-- ---- expressions

on_fits : (r : Result ℤ FaultKind) (f : ℤ → Result ℤ FaultKind) → ValueFits r → ((v : ℤ) → Fits v → ValueFits (f v))
    → ValueFits (on r f)
on_fits (Ok v) f h k = k v h
on_fits (Err e) f h k = tt

tested_fits : (r : Result Bool FaultKind) (a b : Result ℤ FaultKind) → ValueFits a → ValueFits b
    → ValueFits (on r (λ t. chosen t a b))
tested_fits (Ok true) a b f g = f
tested_fits (Ok false) a b f g = g
tested_fits (Err e) a b f g = tt

pub long_fits : (e : Long) (x : Item) (env : Numbers) → LongFits e → Fits x.value → EnvFits env
    → ValueFits (long_value e x env)
long_fits (number z) x env h i k = h
long_fits (parameter n) x env h i k = i
long_fits (reference name) x env h i k = or_zero (number_under name env.earlier) (under_fits name env.earlier k.0)
long_fits (cell name) x env h i k = cell_fits x.origin (cells_named name env.table) (named_fits name env.table k.1)
long_fits row x env h i k = wrap_fits (pos x.origin)
long_fits (unary o a) x env h i k = on_fits (long_value a x env) (λ v. unary_value o v) (long_fits a x env h i k)
    (unary_fits o)
long_fits (binary o a b) x env h i k =
    on_fits (long_value a x env) (λ v. on (long_value b x env) (λ w. binary_value o v w)) (long_fits a x env h.0 i k)
    (λ v f. on_fits (long_value b x env) (λ w. binary_value o v w) (long_fits b x env h.1 i k)
    (λ w g. binary_fits o v w f g))
long_fits (choose c a b) x env h i k = tested_fits (truth_value c x env) (long_value a x env) (long_value b x env)
    (long_fits a x env h.0 i k) (long_fits b x env h.1 i k)

-- ---- inner streams

pub counted_fit : (a : ℤ) (n : ℕ) → negsuc 9223372036854775807 ≤ℤ a → (a +ℤ pos n) ≤ℤ pos 9223372036854775808
    → AllFit (counted a n)
counted_fit a zero low high = tt
counted_fit a (suc n) low high = (
  of_signed a (omega (arith, ints, fits_in, low, high)),
  counted_fit (a +ℤ pos 1) n (omega (arith, ints, low)) (omega (arith, ints, high)),
)

range_by : (b : Bool) (v w : ℤ) → int_lt v w ≡ b → Fits v → Fits w
    → AllFit (counted v (if b then unsigned_abs (w -ℤ v) else 0))
range_by true v w e f g =
    counted_fit v (unsigned_abs (w -ℤ v)) (omega (arith, ints, fits_out w64 v (as_signed v f)))
    (omega (arith, ints, fits_out w64 w (as_signed w g), e))
range_by false v w e f g = tt

pub range_fits : (v w : ℤ) → Fits v → Fits w → AllFit (counted v (distance v w))
range_fits v w f g = range_by (int_lt v w) v w refl f g

closed_by : (b : Bool) (v w : ℤ) → int_lt w v ≡ b → Fits v → Fits w
    → AllFit (counted v (if b then 0 else suc (unsigned_abs (w -ℤ v))))
closed_by true v w e f g = tt
closed_by false v w e f g =
    counted_fit v (suc (unsigned_abs (w -ℤ v))) (omega (arith, ints, fits_out w64 v (as_signed v f)))
    (omega (arith, ints, fits_out w64 w (as_signed w g), e))

through_fits : (v w : ℤ) → Fits v → Fits w → AllFit (counted v (through v w))
through_fits v w f g = closed_by (int_lt w v) v w refl f g

up_by : (b : Bool) (a : ℤ) (n : ℕ) → nat_lt (2 ^ 62) n ≡ b → AllFit (counted a n) → ValuesFit (up_from a n)
up_by true a n e h = rw e tt
up_by false a n e h = rw e h

up_fits : (a : ℤ) (n : ℕ) → AllFit (counted a n) → ValuesFit (up_from a n)
up_fits a n h = up_by (nat_lt (2 ^ 62) n) a n refl h

then_fit : (r : Result ℤ FaultKind) (f : ℤ → Result (List ℤ) FaultKind) → ValueFits r
    → ((v : ℤ) → Fits v → ValuesFit (f v)) → ValuesFit (on r f)
then_fit (Ok v) f h k = k v h
then_fit (Err e) f h k = tt

more_fit : (v : ℤ) (r : Result (List ℤ) FaultKind) → Fits v → ValuesFit r → ValuesFit (on r (λ vs. Ok (v ∷ vs)))
more_fit v (Ok vs) f h = (f, h)
more_fit v (Err e) f h = tt

each_fit : (es : List Long) (x : Item) (env : Numbers) → EachFits es → Fits x.value → EnvFits env
    → ValuesFit (each_value es x env)
each_fit [] x env h i k = tt
each_fit (e ∷ es) x env h i k =
    then_fit (long_value e x env) (λ v. on (each_value es x env) (λ vs. Ok (v ∷ vs))) (long_fits e x env h.0 i k)
    (λ v f. more_fit v (each_value es x env) f (each_fit es x env h.1 i k))

pub inner_fits : (g : Inner) (x : Item) (env : Numbers) → InnerFits g → Fits x.value → EnvFits env
    → ValuesFit (inner_value g x env)
inner_fits (range a b) x env h i k =
    then_fit (long_value a x env) (λ v. on (long_value b x env) (λ w. up_from v (distance v w)))
    (long_fits a x env h.0 i k)
    (λ v f. then_fit (long_value b x env) (λ w. up_from v (distance v w)) (long_fits b x env h.1 i k)
    (λ w g. up_fits v (distance v w) (range_fits v w f g)))
inner_fits (range_closed a b) x env h i k =
    then_fit (long_value a x env) (λ v. on (long_value b x env) (λ w. up_from v (through v w)))
    (long_fits a x env h.0 i k)
    (λ v f. then_fit (long_value b x env) (λ w. up_from v (through v w)) (long_fits b x env h.1 i k)
    (λ w g. up_fits v (through v w) (through_fits v w f g)))
inner_fits (values es) x env h i k = each_fit es x env h i k
