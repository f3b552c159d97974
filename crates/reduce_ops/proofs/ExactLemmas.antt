-- Exact sums of joined lists, and how far their sums reach.
use Rattle.std.proofs.Common.{◌≡◌, inl, inr, ℕ, ◌<◌, ◌^◌, ℤ, pos, negsuc, ◌+ℤ◌, ◌≤ℤ◌, Bool, true, false, if◌then◌else◌}
use Rattle.std.proofs.Common.{List, [], ◌∷◌, ◌++◌, take, drop, slice_get, zero, suc, ◌+◌, append_assoc, Option, Some}
use Rattle.std.proofs.Common.{None, IfSome, Result, Ok, Err, sym, refl, ap, subst, ◌∙◌, arith, FitsSigned, w64}
use Rattle.std.specs.List.{fold}
use Rattle.std.proofs.lemmas.Int.{ints, clamps}
use Rattle.std.proofs.lemmas.List.Sums.{fold-append}
use Rattle.std.proofs.lemmas.List.{take-append-drop}
use Rattle.lambda_values.specs.Operators.{is_long}
use Rattle.lambda_values.specs.declared.fault.FaultKind.TheVariants as kind
use Rattle.lambda_values.specs.declared.item.Item.{Item}
use Rattle.trace.specs.declared.item.Fault.{Fault}
use Rattle.trace.specs.declared.item.End.{End}
use Rattle.trace.specs.declared.item.End.TheVariants as end
use Rattle.trace.specs.Trace.{Trace, trace, then_on, append}
use Rattle.reduce_ops.specs.ExactSums.{exact_from, exact_end, exact_sum, sum_on}
use Rattle.reduce_ops.specs.declared.exact.Exact.{Exact}
use Rattle.reduce_ops.specs.declared.exact.Exact.TheVariants as exact
use Rattle.reduce_ops.specs.declared.reach.Reach.{Reach}
use Rattle.reduce_ops.specs.declared.exact_part.ExactPart.{ExactPart}
use Rattle.reduce_ops.specs.declared.exact_part.ExactPart.TheVariants as piece
use Rattle.reduce_ops.specs.declared.sum_part.SumPart.{SumPart}
use Rattle.reduce_ops.specs.declared.sum_part.SumPart.TheVariants as part
use Rattle.reduce_ops.specs.Reaches.{AbstractReach, Covers, IsExact, IsOneSided, IsPiece, IsWidest, StandsFor, no_reach}
use Rattle.reduce_ops.specs.Reaches.{reach_on, reach_of, item_values, reach_beside, exact_of, is_ended, is_search}
use Rattle.reduce_ops.specs.Reaches.{Holds, IsOver, IsWide}

-- ---- the sum as it goes on

-- a sum, or the item at which it was outside 64 bits, and what comes after it
abbrev pub exact_on : Result ℤ Item → List Item → Result ℤ Item
exact_on (Ok z) ys = exact_from z ys
exact_on (Err x) ys = Err x

pub exact_joined : (a : ℤ) (xs ys : List Item) → exact_from a (xs ++ ys) ≡ exact_on (exact_from a xs) ys
exact_joined a [] ys = refl
exact_joined a (x ∷ xs) ys = by (is_long (a +ℤ x.value)) (exact_joined (a +ℤ x.value) xs ys)
  where
    by : (b : Bool) → exact_from (a +ℤ x.value) (xs ++ ys) ≡ exact_on (exact_from (a +ℤ x.value) xs) ys
        → (if b then exact_from (a +ℤ x.value) (xs ++ ys) else Err x)
        ≡ exact_on (if b then exact_from (a +ℤ x.value) xs else Err x) ys
    by true on = on
    by false on = refl

-- a sum within 64 bits
pub long_sum : (a b : ℤ) (xs : List Item) → is_long a ≡ true → exact_from a xs ≡ Ok b → is_long b ≡ true
long_sum a b [] long e = let same : a ≡ b = cc in ap is_long (sym same) ∙ long
long_sum a b (x ∷ xs) long e = by (is_long (a +ℤ x.value)) refl e (long_sum (a +ℤ x.value) b xs)
  where
    by : (t : Bool) → is_long (a +ℤ x.value) ≡ t → (if t then exact_from (a +ℤ x.value) xs else Err x) ≡ Ok b
        → (is_long (a +ℤ x.value) ≡ true → exact_from (a +ℤ x.value) xs ≡ Ok b → is_long b ≡ true) → is_long b ≡ true
    by true h k later = later h k
    by false h k later = absurd (let z : Err x ≡ Ok b = k in cc)

pub joined_over : (xs ys : List Item) → IsOver ys → IsOver (xs ++ ys)
joined_over xs ys over a long = by (exact_from a xs) refl
  where
    by : (r : Result ℤ Item) → exact_from a xs ≡ r → (x : Item) × (exact_from a (xs ++ ys) ≡ Err x)
    by (Ok b) h = let x = over b (long_sum a b xs long h) in
        (x.0, exact_joined a xs ys ∙ ap (λ r. exact_on r ys) h ∙ x.1)
    by (Err x) h = (x, exact_joined a xs ys ∙ ap (λ r. exact_on r ys) h)

-- ---- 64 bits

pub long_within : (z : ℤ) → negsuc 9223372036854775807 ≤ℤ z → z ≤ℤ pos 9223372036854775807 → is_long z ≡ true
long_within (pos n) l h = let k : n < 2 ^ 63 = omega (arith, ints) in grind arith
long_within (negsuc n) l h = let k : n < 2 ^ 63 = omega (arith, ints) in grind arith

pub within_long : (z : ℤ) → is_long z ≡ true → (negsuc 9223372036854775807 ≤ℤ z) × (z ≤ℤ pos 9223372036854775807)
within_long (pos n) h = let k : n < 2 ^ 63 = grind arith in (omega (arith, ints), omega (arith, ints))
within_long (negsuc n) h = let k : n < 2 ^ 63 = grind arith in (omega (arith, ints), omega (arith, ints))

pub long_fits : (z : ℤ) → negsuc 9223372036854775807 ≤ℤ z → z ≤ℤ pos 9223372036854775807 → FitsSigned w64 z
long_fits (pos n) l h = record { sfits = omega (arith, ints) }
long_fits (negsuc n) l h = record { sfits = omega (arith, ints) }

-- ---- how far sums reach

pub values_joined : (xs ys : List Item) → item_values (xs ++ ys) ≡ item_values xs ++ item_values ys
values_joined [] ys = refl
values_joined (x ∷ xs) ys = ap (λ (vs : List ℤ). x.value ∷ vs) (values_joined xs ys)

-- with more values the sums reach no less far
pub least_falls : (r : AbstractReach) (vs : List ℤ) → (fold reach_on r vs).least ≤ℤ r.least
least_falls r [] = omega (arith, ints)
least_falls r (v ∷ vs) = let h = least_falls (reach_on r v) vs in omega (arith, ints, clamps)

pub greatest_rises : (r : AbstractReach) (vs : List ℤ) → r.greatest ≤ℤ (fold reach_on r vs).greatest
greatest_rises r [] = omega (arith, ints)
greatest_rises r (v ∷ vs) = let h = greatest_rises (reach_on r v) vs in omega (arith, ints, clamps)

-- the sum of all values is one of the sums, and so is 0
abbrev pub Ordered : AbstractReach → Type 0
Ordered r = (r.least ≤ℤ r.total) × (r.total ≤ℤ r.greatest) × (r.least ≤ℤ pos 0) × (pos 0 ≤ℤ r.greatest)

pub still_ordered : (r : AbstractReach) (vs : List ℤ) → Ordered r → Ordered (fold reach_on r vs)
still_ordered r [] h = h
still_ordered r (v ∷ vs) h = still_ordered (reach_on r v) vs
    (omega (arith, ints, clamps), omega (arith, ints, clamps), omega (arith, ints, clamps), omega (arith, ints, clamps))

pub ordered : (vs : List ℤ) → Ordered (reach_of vs)
ordered vs = still_ordered no_reach vs (
  omega (arith, ints),
  omega (arith, ints),
  omega (arith, ints),
  omega (arith, ints),
)

abbrev pub reach : ℤ → ℤ → ℤ → AbstractReach
reach t l g = record { total = t; least = l; greatest = g }

pub same_reach : (t t' l l' g g' : ℤ) → t ≡ t' → l ≡ l' → g ≡ g' → reach t l g ≡ reach t' l' g'
same_reach t t' l l' g g' a b c = λ i. reach (a i) (b i) (c i)

-- sums on one side of 0 reach as far as they could in any order
pub one_sided_same : (w r : AbstractReach) → IsWidest w r → Ordered r → IsOneSided w → w ≡ r
one_sided_same w r h o (inl e) = same_reach w.total r.total w.least r.least w.greatest r.greatest h.0
    (omega (arith, ints)) (omega (arith, ints))
one_sided_same w r h o (inr e) = same_reach w.total r.total w.least r.least w.greatest r.greatest h.0
    (omega (arith, ints)) (omega (arith, ints))

-- of sums that are covered only the total matters
pub covered_same : (b w r : AbstractReach) → IsWidest w r → Ordered r → Covers b w → reach_beside b w ≡ reach_beside b r
covered_same b w r h o c = same_reach (b.total +ℤ w.total) (b.total +ℤ r.total)
    (reach_beside b w).least (reach_beside b r).least (reach_beside b w).greatest (reach_beside b r).greatest
    (ap (λ (z : ℤ). b.total +ℤ z) h.0) (omega (arith, ints, clamps)) (omega (arith, ints, clamps))

-- to go on beside other values is to go on after them
beside_on : (r s : AbstractReach) (v : ℤ) → Ordered s → reach_beside r (reach_on s v) ≡ reach_on (reach_beside r s) v
beside_on r s v h = same_reach (r.total +ℤ (s.total +ℤ v)) ((r.total +ℤ s.total) +ℤ v)
    (reach_beside r (reach_on s v)).least (reach_on (reach_beside r s) v).least (reach_beside r (reach_on s v)).greatest
    (reach_on (reach_beside r s) v).greatest
    (omega (arith, ints)) (omega (arith, ints, clamps)) (omega (arith, ints, clamps))

beside_none : (r : AbstractReach) → Ordered r → reach_beside r no_reach ≡ r
beside_none r h = same_reach (r.total +ℤ pos 0) r.total (reach_beside r no_reach).least r.least
    (reach_beside r no_reach).greatest r.greatest
    (omega (arith, ints)) (omega (arith, ints, clamps)) (omega (arith, ints, clamps))

fold_beside : (r s : AbstractReach) (vs : List ℤ) → Ordered s
    → fold reach_on (reach_beside r s) vs ≡ reach_beside r (fold reach_on s vs)
fold_beside r s [] h = refl
fold_beside r s (v ∷ vs) h =
    ap (λ (q : AbstractReach). fold reach_on q vs) (sym (beside_on r s v h))
    ∙ fold_beside r (reach_on s v) vs (still_ordered s (v ∷ []) h)

pub reach_joined : (vs ws : List ℤ) → reach_of (vs ++ ws) ≡ reach_beside (reach_of vs) (reach_of ws)
reach_joined vs ws =
    fold-append reach_on no_reach vs ws
    ∙ ap (λ (q : AbstractReach). fold reach_on q ws) (sym (beside_none (reach_of vs) (ordered vs)))
    ∙ fold_beside (reach_of vs) no_reach ws (ordered [])

-- ---- reaches and sums

-- as far as no sum is outside 64 bits, the exact sum is the sum
sum_from : (a : ℤ) (r : AbstractReach) (xs : List Item) → Holds a (fold reach_on r (item_values xs))
    → exact_from (a +ℤ r.total) xs ≡ Ok (a +ℤ (fold reach_on r (item_values xs)).total)
sum_from a r [] h = refl
sum_from a r (x ∷ xs) h =
    let q : AbstractReach = reach_on r x.value in
    let l = least_falls q (item_values xs) in
    let g = greatest_rises q (item_values xs) in
    let next : (a +ℤ r.total) +ℤ x.value ≡ a +ℤ q.total = omega (arith, ints) in
    let low : negsuc 9223372036854775807 ≤ℤ ((a +ℤ r.total) +ℤ x.value) = omega (arith, ints, clamps) in
    let high : ((a +ℤ r.total) +ℤ x.value) ≤ℤ pos 9223372036854775807 = omega (arith, ints, clamps) in
    ap (λ b. if b then exact_from ((a +ℤ r.total) +ℤ x.value) xs else Err x)
    (long_within ((a +ℤ r.total) +ℤ x.value) low high)
    ∙ ap (λ z. exact_from z xs) next ∙ sum_from a q xs h

-- and if there is an exact sum, no sum is outside
holds_from : (a b : ℤ) (r : AbstractReach) (xs : List Item) → Holds a r → exact_from (a +ℤ r.total) xs ≡ Ok b
    → Holds a (fold reach_on r (item_values xs))
holds_from a b r [] h e = h
holds_from a b r (x ∷ xs) h e = by (is_long ((a +ℤ r.total) +ℤ x.value)) refl e (holds_from a b (reach_on r x.value) xs)
  where
    q : AbstractReach
    q = reach_on r x.value

    next : (a +ℤ r.total) +ℤ x.value ≡ a +ℤ q.total
    next = omega (arith, ints)

    still : is_long ((a +ℤ r.total) +ℤ x.value) ≡ true → Holds a q
    still k = let w = within_long ((a +ℤ r.total) +ℤ x.value) k in let l = w.0 in let g = w.1 in
        (omega (arith, ints, clamps), omega (arith, ints, clamps))

    by : (t : Bool) → is_long ((a +ℤ r.total) +ℤ x.value) ≡ t
        → (if t then exact_from ((a +ℤ r.total) +ℤ x.value) xs else Err x) ≡ Ok b
        → (Holds a q → exact_from (a +ℤ q.total) xs ≡ Ok b → Holds a (fold reach_on q (item_values xs)))
        → Holds a (fold reach_on q (item_values xs))
    by true k d later = later (still k) (ap (λ z. exact_from z xs) (sym next) ∙ d)
    by false k d later = absurd (let z : Err x ≡ Ok b = d in cc)

pub exact_within : (a : ℤ) (xs : List Item) → Holds a (reach_of (item_values xs))
    → exact_from a xs ≡ Ok (a +ℤ (reach_of (item_values xs)).total)
exact_within a xs h = ap (λ z. exact_from z xs) (let e : a ≡ a +ℤ pos 0 = omega (arith, ints) in e)
    ∙ sum_from a no_reach xs h

pub exact_holds : (a b : ℤ) (xs : List Item) → is_long a ≡ true → exact_from a xs ≡ Ok b
    → Holds a (reach_of (item_values xs))
exact_holds a b xs long e =
    let w = within_long a long in
    let l = w.0 in
    let g = w.1 in
    holds_from a b no_reach xs (omega (arith, ints), omega (arith, ints))
    (ap (λ z. exact_from z xs) (let k : a +ℤ pos 0 ≡ a = omega (arith, ints) in k) ∙ e)

-- where the sums from a start don't all hold, one is outside
pub not_held : (a : ℤ) (xs : List Item) → is_long a ≡ true → (Holds a (reach_of (item_values xs)) → ⊥)
    → (x : Item) × (exact_from a xs ≡ Err x)
not_held a xs long never = by (exact_from a xs) refl
  where
    by : (r : Result ℤ Item) → exact_from a xs ≡ r → (x : Item) × (exact_from a xs ≡ Err x)
    by (Ok b) h = absurd (never (exact_holds a b xs long h))
    by (Err x) h = (x, h)

-- sums that differ by 2^64 or more hold from no start
pub wide_over : (xs : List Item) → IsWide (reach_of (item_values xs)) → IsOver xs
wide_over xs wide a long = not_held a xs long (λ h. let l = h.0 in let g = h.1 in omega (arith, ints))

-- ---- parts of pieces

pub on_done : (a b : Trace) → a.ending ≡ end.Done → append a b ≡ trace (a.items ++ b.items) b.ending
on_done a b h = ap (λ (e : End). then_on a.items e b) h

pub on_fault : (a b : Trace) (f : Fault) → a.ending ≡ end.Fault f → append a b ≡ a
on_fault a b f h = ap (λ (e : End). then_on a.items e b) h ∙ (λ i. trace a.items (sym h i))

-- a sum that is outside 64 bits at some item stays so
pub err_stays : (z : ℤ) (x : Item) (a b : Trace) → exact_from z a.items ≡ Err x
    → exact_from z (append a b).items ≡ Err x
err_stays z x a b h = by a.ending
  where
    by : (e : End) → exact_from z (then_on a.items e b).items ≡ Err x
    by end.Done = exact_joined z a.items b.items ∙ ap (λ r. exact_on r b.items) h
    by (end.Fault f) = h

-- and so does a piece that is over
pub over_stays : (a b : Trace) → IsOver a.items → IsOver (append a b).items
over_stays a b over z long = let x = over z long in (x.0, err_stays z x.0 a b x.1)

pub over_after : (a b : Trace) → a.ending ≡ end.Done → IsOver b.items → IsOver (append a b).items
over_after a b done over = subst (λ (t : Trace). IsOver t.items) (sym (on_done a b done))
    (joined_over a.items b.items over)

-- the reach of two pieces
pub reach_after : (a b : Trace) (r s : AbstractReach) → a.ending ≡ end.Done → r ≡ reach_of (item_values a.items)
    → s ≡ reach_of (item_values b.items) → reach_beside r s ≡ reach_of (item_values (append a b).items)
reach_after a b r s done left right =
    (λ i. reach_beside (left i) (right i))
    ∙ sym (reach_joined (item_values a.items) (item_values b.items))
    ∙ ap reach_of (sym (values_joined a.items b.items))
    ∙ ap (λ (t : Trace). reach_of (item_values t.items)) (sym (on_done a b done))

pub end_after : (a b : Trace) → a.ending ≡ end.Done → b.ending ≡ (append a b).ending
end_after a b done = ap (λ (t : Trace). t.ending) (sym (on_done a b done))

-- ---- the running sum

pub sum_joined : (n : ℕ) (t u : Trace) → exact_sum n (append t u) ≡ sum_on n (exact_sum n t) u
sum_joined n t u = by t.ending (exact_from (pos 0) t.items) refl
  where
    by : (e : End) (r : Result ℤ Item) → exact_from (pos 0) t.items ≡ r
        → exact_sum n (then_on t.items e u) ≡ sum_on n (exact_end n e r) u
    by end.Done (Ok z) h = ap (exact_end n u.ending)
        (exact_joined (pos 0) t.items u.items ∙ ap (λ q. exact_on q u.items) h)
    by end.Done (Err x) h = ap (exact_end n u.ending)
        (exact_joined (pos 0) t.items u.items ∙ ap (λ q. exact_on q u.items) h)
    by (end.Fault f) (Ok z) h = ap (exact_end n (end.Fault f)) h
    by (end.Fault f) (Err x) h = ap (exact_end n (end.Fault f)) h

pub joined_sum : (n : ℕ) (t u : Trace) (r : Result ℤ Fault) → r ≡ exact_sum n t
    → exact_sum n (append t u) ≡ sum_on n r u
joined_sum n t u r h = sum_joined n t u ∙ ap (λ q. sum_on n q u) (sym h)

-- what is known of a sum
pub exact_known : (n : ℕ) (t : Trace) (r : Result ℤ Fault) → r ≡ exact_sum n t → IsExact n t (exact_of r)
exact_known n t (Ok z) h = sym h
exact_known n t (Err f) h = sym h

pub known_search : (r : Result ℤ Fault) → is_search (exact_of r) ≡ false
known_search (Ok z) = refl
known_search (Err f) = refl

-- a sum that has ended
pub ended_stays : (n : ℕ) (a b : Trace) (r : Exact) → is_ended r ≡ true → IsExact n a r → IsExact n (append a b) r
ended_stays n a b (exact.Sum z) h s = absurd (let k : false ≡ true = h in cc)
ended_stays n a b (exact.Fault f) h s = joined_sum n a b (Err f) (sym s)
ended_stays n a b exact.Search h s = (s.0, err_stays (pos 0) s.0 a b s.1)

pub ended_else : (r : Exact) → ((z : ℤ) → r ≡ exact.Sum z → ⊥) → is_ended r ≡ true
ended_else (exact.Sum z) h = absurd (h z refl)
ended_else (exact.Fault f) h = refl
ended_else exact.Search h = refl

pub sum_goes_on : {A : Type 0} (r : Exact) (z : ℤ) → r ≡ exact.Sum z → is_ended r ≡ true → A
sum_goes_on r z is h = absurd (let k : false ≡ true = sym (ap is_ended is) ∙ h in cc)

pub ended_search : (r q : Exact) → (is_ended r ≡ true → q ≡ r) → (q ≡ exact.Search → ⊥) → is_search q ≡ is_search r
ended_search r q same never = by r refl
  where
    other : (q : Exact) → (q ≡ exact.Search → ⊥) → is_search q ≡ false
    other (exact.Sum z) h = refl
    other (exact.Fault f) h = refl
    other exact.Search h = absurd (h refl)

    by : (p : Exact) → r ≡ p → is_search q ≡ is_search p
    by (exact.Sum z) k = other q never
    by (exact.Fault f) k = other q never
    by exact.Search k = absurd (never (same (ap is_ended k) ∙ k))

-- what the part of a piece says of a whole walk
pub piece_known : (q : SumPart) (p : ExactPart) → q ≡ part.Piece p → (r : Exact) (o : Option (Result ℤ Fault))
    → ((n : ℕ) (t : Trace) → IsPiece p t → IsExact n t r)
    → IfSome o (λ s. (n : ℕ) (t : Trace) → IsExact n t r → s ≡ exact_sum n t)
    → IfSome o (λ s. (n : ℕ) (t : Trace) → StandsFor n q t → s ≡ exact_sum n t)
piece_known q p is r None whole known = tt
piece_known q p is r (Some s) whole known =
    λ n t h. known n t (whole n t (subst (λ (x : SumPart). StandsFor n x t) is h))

same_ok : (y z : ℤ) → exact_end 0 end.Done (Ok y) ≡ Ok z → y ≡ z
same_ok y z h = cc

-- a walk with a sum
the_sum : (n : ℕ) (t : Trace) (z : ℤ) → exact_sum n t ≡ Ok z
    → (t.ending ≡ end.Done) × (exact_from (pos 0) t.items ≡ Ok z)
the_sum n t z h = by t.ending (exact_from (pos 0) t.items) h
  where
    by : (e : End) (r : Result ℤ Item) → exact_end n e r ≡ Ok z → (e ≡ end.Done) × (r ≡ Ok z)
    by end.Done (Ok y) k = (refl, ap Ok (same_ok y z k))
    by end.Done (Err x) k = absurd (let j : Err (record { kind = kind.Overflow; stage = n; origin = Some x.origin })
        ≡ Ok z = k in cc)
    by (end.Fault f) (Ok y) k = absurd (let j : Err f ≡ Ok z = k in cc)
    by (end.Fault f) (Err x) k = absurd (let j : Err
        (record { kind = kind.Overflow; stage = n; origin = Some x.origin }) ≡ Ok z = k in cc)

pub the_long : (n : ℕ) (t : Trace) (z : ℤ) → exact_sum n t ≡ Ok z → is_long z ≡ true
the_long n t z h = long_sum (pos 0) z t.items refl (the_sum n t z h).1

-- and then a piece from whose start no sum is outside 64 bits
pub sum_then : (n : ℕ) (t u : Trace) (z : ℤ) → exact_sum n t ≡ Ok z → Holds z (reach_of (item_values u.items))
    → u.ending ≡ end.Done → exact_sum n (append t u) ≡ Ok (z +ℤ (reach_of (item_values u.items)).total)
sum_then n t u z h held e = joined_sum n t u (Ok z) (sym h) ∙ (λ i. exact_end n (e i) (exact_within z u.items held i))

pub fault_then : (n : ℕ) (t u : Trace) (z : ℤ) (f : Fault) → exact_sum n t ≡ Ok z
    → Holds z (reach_of (item_values u.items)) → u.ending ≡ end.Fault f → exact_sum n (append t u) ≡ Err f
fault_then n t u z f h held e = joined_sum n t u (Ok z) (sym h)
    ∙ (λ i. exact_end n (e i) (exact_within z u.items held i))

-- or one in which one is
pub over_then : (n : ℕ) (t u : Trace) (z : ℤ) → exact_sum n t ≡ Ok z → (x : Item) × (exact_from z u.items ≡ Err x)
    → IsExact n (append t u) exact.Search
over_then n t u z h x =
    let s = the_sum n t z h in (
      x.0,
      ap (λ (w : Trace). exact_from (pos 0) w.items) (on_done t u s.0) ∙ exact_joined (pos 0) t.items u.items
          ∙ ap (λ r. exact_on r u.items) s.1 ∙ x.1,
    )

-- one more item
pub one_more : (n : ℕ) (z : ℤ) (x : Item) → is_long (z +ℤ x.value) ≡ true
    → sum_on n (Ok z) (trace (x ∷ []) end.Done) ≡ Ok (z +ℤ x.value)
one_more n z x h = ap (λ b. exact_end n end.Done (if b then Ok (z +ℤ x.value) else Err x)) h

-- ---- what is left when a case is ruled out

pub the_done : (e : End) → ((f : Fault) → e ≡ end.Fault f → ⊥) → e ≡ end.Done
the_done end.Done h = refl
the_done (end.Fault f) h = absurd (h f refl)

pub only_over : (p : ExactPart) (t : Trace) → ((r : Reach) (e : End) → p ≡ piece.Within r e → ⊥) → IsPiece p t
    → IsOver t.items
only_over (piece.Within r e) t h is = absurd (h r e refl)
only_over piece.Over t h is = is

pub over_only : (p : ExactPart) → ((r : Reach) (e : End) → p ≡ piece.Within r e → ⊥) → p ≡ piece.Over
over_only (piece.Within r e) h = absurd (h r e refl)
over_only piece.Over h = refl

-- ---- values in turn

pub wide_front : (vs : List ℤ) (k : ℕ) → IsWide (reach_of (take k vs)) → IsWide (reach_of vs)
wide_front vs k h =
    let q : AbstractReach = reach_of (take k vs) in
    let l = least_falls q (drop k vs) in
    let g = greatest_rises q (drop k vs) in
    let same : fold reach_on q (drop k vs) ≡ reach_of vs =
    sym (fold-append reach_on no_reach (take k vs) (drop k vs)) ∙ ap reach_of (take-append-drop k vs) in
    subst IsWide same (omega (arith, ints))

-- a walk, and then more items of another
append_on : (e : End) (us ws : List Item) (x : Item)
    → append (then_on us e (trace ws end.Done)) (trace (x ∷ []) end.Done) ≡ then_on us e (trace (ws ++ x ∷ []) end.Done)
append_on end.Done us ws x = ap (λ (l : List Item). trace l end.Done) (append_assoc us ws (x ∷ []))
append_on (end.Fault f) us ws x = refl

taken_more : (xs : List Item) (k : ℕ) (x : Item) → slice_get xs k ≡ Some x → take k xs ++ x ∷ [] ≡ take (k + 1) xs
taken_more [] k x h = absurd (let z : None ≡ Some x = h in cc)
taken_more (y ∷ xs) zero x h = let same : y ≡ x = (let z : Some y ≡ Some x = h in cc) in
    ap (λ (z : Item). z ∷ []) (sym same)
taken_more (y ∷ xs) (suc k) x h = ap (λ (l : List Item). y ∷ l) (taken_more xs k x h)
    ∙ ap (λ n. take n (y ∷ xs)) (let e : suc (k + 1) ≡ suc k + 1 = omega arith in e)

pub appended_more : (t : Trace) (xs : List Item) (k : ℕ) (x : Item) → slice_get xs k ≡ Some x
    → append (append t (trace (take k xs) end.Done)) (trace (x ∷ []) end.Done)
    ≡ append t (trace (take (k + 1) xs) end.Done)
appended_more t xs k x h = append_on t.ending t.items (take k xs) x
    ∙ ap (λ (l : List Item). append t (trace l end.Done)) (taken_more xs k x h)
