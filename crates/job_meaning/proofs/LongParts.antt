-- Slices, prefixes, sorts and folds keep walks in 64 bits.
use Rattle.std.proofs.Common.{◌≡◌, ℕ, zero, suc, ◌<◌, ◌^◌, ℤ, pos, ◌+ℤ◌, ◌*ℤ◌, Bool, true, false, if◌then◌else◌, int_lt}
use Rattle.std.proofs.Common.{List, [], ◌∷◌, ◌++◌, length, take, drop, Option, Some, None, Result, Ok, Err, refl, arith}
use Rattle.std.specs.Prelude.{nat_lt, map as each_of}
use Rattle.std.specs.Option.{option_or}
use Rattle.lambda_values.specs.Operators.{is_long}
use Rattle.lambda_values.specs.declared.fault.FaultKind.{FaultKind}
use Rattle.lambda_values.specs.declared.item.Item.{Item}
use Rattle.lambda_values.specs.Earlier.{Numbers}
use Rattle.lambda_values.specs.Term.{Truth}
use Rattle.lambda_values.specs.Value.{truth_value}
use Rattle.trace.specs.declared.item.Fault.{Fault}
use Rattle.trace.specs.declared.item.End.{End}
use Rattle.trace.specs.declared.item.End.TheVariants as end
use Rattle.trace.specs.Stops.{kept_at, kept_before, kept_from, shift, stop_at, stop_or}
use Rattle.trace.specs.Trace.{Trace, trace}
use Rattle.reduce_ops.specs.declared.op.Op.{Op}
use Rattle.reduce_ops.specs.declared.op.Op.TheVariants.{Sum, Product, Min, Max, And, Or, Xor, Affine, First, Last}
use Rattle.reduce_ops.specs.ExactSums.{exact_end, exact_from, exact_sum}
use Rattle.reduce_ops.specs.Folds.{fold_from, fold_items}
use Rattle.reduce_ops.specs.Operators.{value_of}
use Rattle.find_ops.specs.Finds.{Find, first, any_match, all_match, none_match, answer_of_none, decided_or, decision}
use Rattle.find_ops.specs.Finds.{decision_at_end, decision_of, find_answer, first_decision, if_false, if_true, tested}
use Rattle.find_ops.specs.declared.find_part.Found.{Found}
use Rattle.find_ops.specs.declared.find_part.Found.TheVariants as found
use Rattle.slice_ops.specs.Slices.{AbstractSlice, limit, skip, take_while, drop_while, end_by, front_ends, sliced}
use Rattle.prefix_scan.specs.Prefixes.{Range, ends_after, is_within, out_of_array, prefixed, prefixed_to, put_on}
use Rattle.prefix_scan.specs.Prefixes.{revalued, running}
use Rattle.sort_ops.specs.Firsts.{distinct_walk, firsts, is_among}
use Rattle.sort_ops.specs.Orders.{in_order, put, sorted_to, sorted_walk}
use Rattle.job_meaning.specs.Longs.{AllFit, FaultFits, Fits, OptionFits}
use Rattle.job_meaning.proofs.LongWalks.{EndFits, ItemFits, ItemsFit, WalkFits}
use Rattle.job_meaning.proofs.LongValues.{chosen_number, long_number, wrap_fits}
use Rattle.job_meaning.proofs.LongStages.{both_fit}

-- ---- items

chosen_items : (b : Bool) (xs ys : List Item) → ItemsFit xs → ItemsFit ys → ItemsFit (if b then xs else ys)
chosen_items true xs ys f g = f
chosen_items false xs ys f g = g

chosen_walk : (b : Bool) (t u : Trace) → WalkFits t → WalkFits u → WalkFits (if b then t else u)
chosen_walk true t u f g = f
chosen_walk false t u f g = g

taken_fit : (n : ℕ) (xs : List Item) → ItemsFit xs → ItemsFit (take n xs)
taken_fit zero [] h = tt
taken_fit zero (x ∷ xs) h = tt
taken_fit (suc n) [] h = tt
taken_fit (suc n) (x ∷ xs) h = (h.0, taken_fit n xs h.1)

dropped_fit : (n : ℕ) (xs : List Item) → ItemsFit xs → ItemsFit (drop n xs)
dropped_fit zero [] h = tt
dropped_fit zero (x ∷ xs) h = h
dropped_fit (suc n) [] h = tt
dropped_fit (suc n) (x ∷ xs) h = dropped_fit n xs h.1

-- ---- slices

abbrev StopFits : Option (ℕ × End) → Type 0
StopFits None = Unit {0}
StopFits (Some p) = EndFits p.1

abbrev MayEndFits : Option End → Type 0
MayEndFits None = Unit {0}
MayEndFits (Some e) = EndFits e

end_fits : (n : ℕ) (x : Item) (r : Result Bool FaultKind) → n < 2 ^ 64 → ItemFits x → MayEndFits (end_by n x r)
end_fits n x (Ok true) s i = tt
end_fits n x (Ok false) s i = tt
end_fits n x (Err k) s i = (s, i.1)

shifted_fits : (k : ℕ) (o : Option (ℕ × End)) → StopFits o → StopFits (shift k o)
shifted_fits k None h = tt
shifted_fits k (Some p) h = h

stop_or_fits : (o : Option End) (later : Option (ℕ × End)) → MayEndFits o → StopFits later → StopFits (stop_or o later)
stop_or_fits None later f g = g
stop_or_fits (Some e) later f g = f

stop_fits : (p : Truth) (n : ℕ) (env : Numbers) (xs : List Item) → n < 2 ^ 64 → ItemsFit xs
    → StopFits (stop_at (front_ends p n env) xs)
stop_fits p n env [] s h = tt
stop_fits p n env (x ∷ xs) s h =
    stop_or_fits (front_ends p n env x) (shift 1 (stop_at (front_ends p n env) xs))
    (end_fits n x (truth_value p x env) s h.0)
    (shifted_fits 1 (stop_at (front_ends p n env) xs) (stop_fits p n env xs s h.1))

before_fits : (o : Option (ℕ × End)) (t : Trace) → StopFits o → WalkFits t → WalkFits (kept_before o t)
before_fits None t h w = w
before_fits (Some p) t h w = (taken_fit p.0 t.items w.0, h)

at_fits : (n : ℕ) (e : End) (t : Trace) → EndFits e → WalkFits t → WalkFits (kept_at n e t)
at_fits n end.Done t h w = (dropped_fit n t.items w.0, w.1)
at_fits n (end.Fault f) t h w = (tt, h)

from_fits : (o : Option (ℕ × End)) (t : Trace) → StopFits o → WalkFits t → WalkFits (kept_from o t)
from_fits None t h w = (tt, w.1)
from_fits (Some p) t h w = at_fits p.0 p.1 t h w

pub slice_fits : (d : AbstractSlice) (n : ℕ) (env : Numbers) (t : Trace) → n < 2 ^ 64 → WalkFits t
    → WalkFits (sliced d n env t)
slice_fits (limit k) n env t s w = chosen_walk (nat_lt (length t.items) k) t (trace (take k t.items) end.Done) w
    (taken_fit k t.items w.0, tt)
slice_fits (skip k) n env t s w = (dropped_fit k t.items w.0, w.1)
slice_fits (take_while p) n env t s w = before_fits (stop_at (front_ends p n env) t.items) t
    (stop_fits p n env t.items s w.0) w
slice_fits (drop_while p) n env t s w = from_fits (stop_at (front_ends p n env) t.items) t
    (stop_fits p n env t.items s w.0) w

-- ---- folds

pub operator_fits : (f : Op) (a b : ℤ) → Fits a → Fits b → Fits (value_of f a b)
operator_fits Sum a b f g = wrap_fits (a +ℤ b)
operator_fits Product a b f g = wrap_fits (a *ℤ b)
operator_fits Min a b f g = chosen_number (int_lt b a) b a g f
operator_fits Max a b f g = chosen_number (int_lt a b) b a g f
operator_fits And a b f g = wrap_fits _
operator_fits Or a b f g = wrap_fits _
operator_fits Xor a b f g = wrap_fits _
operator_fits Affine a b f g = wrap_fits _
operator_fits First a b f g = f
operator_fits Last a b f g = g

pub fold_fits : (f : Op) (a : ℤ) (xs : List Item) → Fits a → ItemsFit xs → Fits (fold_from (value_of f) a xs)
fold_fits f a [] h i = h
fold_fits f a (x ∷ xs) h i = fold_fits f (value_of f a x.value) xs (operator_fits f a x.value h i.0.0) i.1

pub folded_fits : (f : Op) (xs : List Item) → ItemsFit xs → OptionFits (fold_items (value_of f) xs)
folded_fits f [] i = tt
folded_fits f (x ∷ xs) i = fold_fits f x.value xs i.0.0 i.1

-- ---- prefixes

put_on_fits : (f : Op) (o : Option ℤ) (v : ℤ) → OptionFits o → Fits v → Fits (put_on (value_of f) o v)
put_on_fits f None v h g = g
put_on_fits f (Some a) v h g = operator_fits f a v h g

running_fits : (f : Op) (r : Range) (q : ℕ) (before xs : List Item) → ItemsFit before → ItemsFit xs
    → ItemsFit (running (value_of f) r q before xs)
running_fits f r q before [] h i = tt
running_fits f r q before (x ∷ xs) h i =
    let v = put_on (value_of f) (fold_items (value_of f) before) x.value in
    chosen_items (is_within r q) (revalued x v ∷ running (value_of f) r (suc q) (before ++ x ∷ []) xs)
    (x ∷ running (value_of f) r (suc q) before xs) (
      (put_on_fits f (fold_items (value_of f) before) x.value (folded_fits f before h) i.0.0, i.0.1),
      running_fits f r (suc q) (before ++ x ∷ []) xs (both_fit before (x ∷ []) h (i.0, tt)) i.1,
    )
    (i.0, running_fits f r (suc q) before xs h i.1)

prefixed_fits : (f : Op) (r : Range) (n : ℕ) (xs : List Item) (e : End) → n < 2 ^ 64 → ItemsFit xs → EndFits e
    → WalkFits (prefixed_to (value_of f) r n xs e)
prefixed_fits f r n xs end.Done s i h =
    chosen_walk (ends_after r (length xs)) (out_of_array n) (trace (running (value_of f) r 0 [] xs) end.Done)
    (tt, (s, tt)) (running_fits f r 0 [] xs tt i, tt)
prefixed_fits f r n xs (end.Fault g) s i h = (tt, h)

pub prefix_fits : (f : Op) (r : Range) (n : ℕ) (t : Trace) → n < 2 ^ 64 → WalkFits t
    → WalkFits (prefixed (value_of f) r n t)
prefix_fits f r n t s w = prefixed_fits f r n t.items t.ending s w.0 w.1

-- ---- sorts and firsts

put_fits : (x : Item) (xs : List Item) → ItemFits x → ItemsFit xs → ItemsFit (put x xs)
put_fits x [] h i = (h, tt)
put_fits x (y ∷ ys) h i = chosen_items (int_lt y.value x.value) (y ∷ put x ys) (x ∷ y ∷ ys) (i.0, put_fits x ys h i.1)
    (h, i)

ordered_fit : (xs : List Item) → ItemsFit xs → ItemsFit (in_order xs)
ordered_fit [] i = tt
ordered_fit (x ∷ xs) i = put_fits x (in_order xs) i.0 (ordered_fit xs i.1)

sorted_to_fits : (xs : List Item) (e : End) → ItemsFit xs → EndFits e → WalkFits (sorted_to xs e)
sorted_to_fits xs end.Done i h = (ordered_fit xs i, tt)
sorted_to_fits xs (end.Fault f) i h = (tt, h)

pub sorted_fits : (t : Trace) → WalkFits t → WalkFits (sorted_walk t)
sorted_fits t w = sorted_to_fits t.items t.ending w.0 w.1

firsts_fit : (seen : List ℤ) (xs : List Item) → ItemsFit xs → ItemsFit (firsts seen xs)
firsts_fit seen [] i = tt
firsts_fit seen (x ∷ xs) i =
    chosen_items (is_among x.value seen) (firsts seen xs) (x ∷ firsts (x.value ∷ seen) xs) (firsts_fit seen xs i.1)
    (i.0, firsts_fit (x.value ∷ seen) xs i.1)

pub distinct_fits : (seen : List ℤ) (t : Trace) → WalkFits t → WalkFits (distinct_walk seen t)
distinct_fits seen t w = (firsts_fit seen t.items w.0, w.1)

-- ---- values, finds and exact sums

pub values_fit : (xs : List Item) → ItemsFit xs → AllFit (each_of (λ (x : Item). x.value) xs)
values_fit [] i = tt
values_fit (x ∷ xs) i = (i.0.0, values_fit xs i.1)

abbrev pub FoundFits : Result Found Fault → Type 0
FoundFits (Ok (found.Value v)) = OptionFits v
FoundFits (Ok (found.Truth b)) = Unit {0}
FoundFits (Err f) = FaultFits f

abbrev MayBeFound : Option (Result Found Fault) → Type 0
MayBeFound None = Unit {0}
MayBeFound (Some r) = FoundFits r

if_true_fits : (t b : Bool) → MayBeFound (if_true (found.Truth t) b)
if_true_fits t true = tt
if_true_fits t false = tt

if_false_fits : (t b : Bool) → MayBeFound (if_false (found.Truth t) b)
if_false_fits t true = tt
if_false_fits t false = tt

tested_fits : (n : ℕ) (x : Item) (f : Bool → Option (Result Found Fault)) (r : Result Bool FaultKind) → n < 2 ^ 64
    → ItemFits x → ((b : Bool) → MayBeFound (f b)) → MayBeFound (tested n x f r)
tested_fits n x f (Ok b) s i h = h b
tested_fits n x f (Err k) s i h = (s, i.1)

decision_fits : (d : Find) (n : ℕ) (env : Numbers) (x : Item) → n < 2 ^ 64 → ItemFits x
    → MayBeFound (decision d n env x)
decision_fits first n env x s i = i.0
decision_fits (any_match p) n env x s i =
    tested_fits n x (if_true (found.Truth true)) (truth_value p x env) s i (if_true_fits true)
decision_fits (all_match p) n env x s i =
    tested_fits n x (if_false (found.Truth false)) (truth_value p x env) s i (if_false_fits false)
decision_fits (none_match p) n env x s i =
    tested_fits n x (if_true (found.Truth false)) (truth_value p x env) s i (if_true_fits false)

or_fits : (o p : Option (Result Found Fault)) → MayBeFound o → MayBeFound p → MayBeFound (option_or o p)
or_fits None p f g = g
or_fits (Some r) p f g = f

first_fits : (d : Find) (n : ℕ) (env : Numbers) (xs : List Item) → n < 2 ^ 64 → ItemsFit xs
    → MayBeFound (first_decision d n env xs)
first_fits d n env [] s i = tt
first_fits d n env (x ∷ xs) s i = or_fits (decision d n env x) (first_decision d n env xs)
    (decision_fits d n env x s i.0) (first_fits d n env xs s i.1)

at_end_fits : (e : End) → EndFits e → MayBeFound (decision_at_end e)
at_end_fits end.Done h = tt
at_end_fits (end.Fault f) h = h

none_fits : (d : Find) → FoundFits (Ok (answer_of_none d))
none_fits first = tt
none_fits (any_match p) = tt
none_fits (all_match p) = tt
none_fits (none_match p) = tt

decided_fits : (d : Find) (o : Option (Result Found Fault)) → MayBeFound o → FoundFits (decided_or (answer_of_none d) o)
decided_fits d None h = none_fits d
decided_fits d (Some r) h = h

pub find_fits : (d : Find) (n : ℕ) (env : Numbers) (t : Trace) → n < 2 ^ 64 → WalkFits t
    → FoundFits (find_answer d n env t)
find_fits d n env t s w =
    decided_fits d (decision_of d n env t)
    (or_fits (first_decision d n env t.items) (decision_at_end t.ending) (first_fits d n env t.items s w.0)
    (at_end_fits t.ending w.1))

abbrev pub SumFits : Result ℤ Fault → Type 0
SumFits (Ok z) = Fits z
SumFits (Err f) = FaultFits f

abbrev ReachFits : Result ℤ Item → Type 0
ReachFits (Ok z) = Fits z
ReachFits (Err x) = ItemFits x

reach_by : (b : Bool) (z : ℤ) (x : Item) (xs : List Item) → is_long (z +ℤ x.value) ≡ b → ItemFits x
    → (is_long (z +ℤ x.value) ≡ true → ReachFits (exact_from (z +ℤ x.value) xs))
    → ReachFits (if b then exact_from (z +ℤ x.value) xs else Err x)
reach_by true z x xs e h later = later e
reach_by false z x xs e h later = h

reach_fits : (z : ℤ) (xs : List Item) → Fits z → ItemsFit xs → ReachFits (exact_from z xs)
reach_fits z [] h i = h
reach_fits z (x ∷ xs) h i = reach_by (is_long (z +ℤ x.value)) z x xs refl i.0
    (λ e. reach_fits (z +ℤ x.value) xs (long_number (z +ℤ x.value) e) i.1)

exact_end_fits : (n : ℕ) (e : End) (r : Result ℤ Item) → n < 2 ^ 64 → EndFits e → ReachFits r
    → SumFits (exact_end n e r)
exact_end_fits n end.Done (Ok z) s h f = f
exact_end_fits n (end.Fault g) (Ok z) s h f = h
exact_end_fits n e (Err x) s h f = (s, f.1)

pub exact_fits : (n : ℕ) (t : Trace) → n < 2 ^ 64 → WalkFits t → SumFits (exact_sum n t)
exact_fits n t s w = exact_end_fits n t.ending (exact_from (pos 0) t.items) s w.1
    (reach_fits (pos 0) t.items (omega arith) w.0)
