-- Enough firsts: after them nothing matters.
use Rattle.std.proofs.Common.{◌≡◌, ℕ, ◌+◌, ◌<◌, ◌≤◌, min, ℤ, Bool, true, false, ◌||◌, nat_lt, int_eq, List, [], ◌∷◌}
use Rattle.std.proofs.Common.{◌++◌, length, length-append, take, Option, Some, None, refl, sym, ap, ◌∙◌, arith}
use Rattle.std.proofs.Math.Nat.{min-eq_left, min-eq_right}
use Rattle.std.proofs.lemmas.Bool.{lt-ltb, ltb-false, ltb-true}
use Rattle.std.proofs.lemmas.List.{length-map, length-take, take-append-le, take-take}
use Rattle.lambda_values.specs.declared.item.Item.{Item}
use Rattle.trace.specs.declared.item.End.{End}
use Rattle.trace.specs.declared.item.End.TheVariants as end
use Rattle.trace.specs.Trace.{Trace, trace, append, then_on}
use Rattle.sort_ops.specs.Firsts.{distinct_walk, is_among, firsts}
use Rattle.sort_ops.specs.Parts.{AreEnough, done_after, values_in}
use Rattle.sort_ops.proofs.Choices.{by_bool, chosen, other}
use Rattle.sort_ops.proofs.FirstLemmas.{SameSeen, equal_is, first_new, first_seen, firsts_joined, firsts_same}

or_right : (a b : Bool) → b ≡ true → (a || b) ≡ true
or_right true b h = refl
or_right false b h = h

swapped : (v w : ℤ) (s : List ℤ) → SameSeen (v ∷ w ∷ s) (w ∷ v ∷ s)
swapped v w s z = by (int_eq z v) (int_eq z w) (is_among z s)
  where
    by : (a b c : Bool) → (a || (b || c)) ≡ (b || (a || c))
    by true true c = refl
    by true false c = refl
    by false true c = refl
    by false false c = refl

-- one value that was seen takes one item away at most
one_less : (v : ℤ) (s : List ℤ) (ys : List Item) → length (firsts s ys) ≤ length (firsts (v ∷ s) ys) + 1
one_less v s [] = omega arith
one_less v s (y ∷ ys) = by_bool (is_among y.value s)
    (λ k. let a = ap length (first_seen s y ys k) in
    let b = ap length (first_seen (v ∷ s) y ys (or_right (int_eq y.value v) (is_among y.value s) k)) in
    let more = one_less v s ys in omega (arith, a, b, more))
    (λ k. let a = ap length (first_new s y ys k) in by_bool (int_eq y.value v)
    (λ m. let b = ap length (first_seen (v ∷ s) y ys (ap (λ c. c || is_among y.value s) m)) in
    let c = ap (λ z. length (firsts (z ∷ s) ys)) (equal_is y.value v m) in omega (arith, a, b, c))
    (λ m. let b = ap length (first_new (v ∷ s) y ys (ap (λ c. c || is_among y.value s) m ∙ k)) in
    let c = ap length (firsts_same (v ∷ y.value ∷ s) (y.value ∷ v ∷ s) (swapped v y.value s) ys) in
    let more = one_less v (y.value ∷ s) ys in omega (arith, a, b, c, more)))

fewer : (s t : List ℤ) (ys : List Item) → length (firsts t ys) ≤ length (firsts (s ++ t) ys) + length s
fewer [] t ys = omega arith
fewer (v ∷ s) t ys = let a = fewer s t ys in let b = one_less v (s ++ t) ys in omega (arith, a, b)

-- there are no fewer firsts with other items before them, and none fewer with others after them
pub no_fewer_after : (xs ys : List Item) → length (firsts [] ys) ≤ length (firsts [] (xs ++ ys))
no_fewer_after xs ys =
    let l : List Item = firsts [] xs in
    let a = ap length (firsts_joined [] xs ys) in
    let b = length-append l (firsts (values_in l ++ []) ys) in
    let c = fewer (values_in l) [] ys in
    let d = length-map l (λ (x : Item). x.value) in omega (arith, a, b, c, d)

pub no_fewer_before : (xs ys : List Item) → length (firsts [] xs) ≤ length (firsts [] (xs ++ ys))
no_fewer_before xs ys =
    let l : List Item = firsts [] xs in
    let a = ap length (firsts_joined [] xs ys) in
    let b = length-append l (firsts (values_in l ++ []) ys) in omega (arith, a, b)

-- ---- enough of them

more_enough : (m : Option ℕ) (xs ys : List Item) → length xs ≤ length ys → AreEnough m xs → AreEnough m ys
more_enough None xs ys h enough = enough
more_enough (Some n) xs ys h enough = omega (arith, h, enough)

pub enough_after : (m : Option ℕ) (xs ys : List Item) → AreEnough m (firsts [] ys) → AreEnough m (firsts [] (xs ++ ys))
enough_after m xs ys = more_enough m (firsts [] ys) (firsts [] (xs ++ ys)) (no_fewer_after xs ys)

pub enough_before : (m : Option ℕ) (a b : Trace) → AreEnough m (firsts [] a.items)
    → AreEnough m (firsts [] (append a b).items)
enough_before m a b = by a.items a.ending
  where
    by : (xs : List Item) (e : End) → AreEnough m (firsts [] xs) → AreEnough m (firsts [] (then_on xs e b).items)
    by xs end.Done enough = more_enough m (firsts [] xs) (firsts [] (xs ++ b.items)) (no_fewer_before xs b.items) enough
    by xs (end.Fault f) enough = enough

-- this number of items, where there are no fewer
cut_off : (n : ℕ) (xs : List Item) (e : End) → n ≤ length xs
    → done_after (Some n) (trace xs e) ≡ trace (take n xs) end.Done
cut_off n xs e enough = by_bool (nat_lt (length xs) n)
    (λ k. let l = ltb-true (length xs) n k in absurd (omega (arith, l, enough)))
    (λ k. other (nat_lt (length xs) n) (trace xs e) (trace (take n xs) end.Done) k)

-- a walk that has no such number of items
uncut : (n : ℕ) (t : Trace) → length t.items < n → done_after (Some n) t ≡ t
uncut n t h = chosen (nat_lt (length t.items) n) t (trace (take n t.items) end.Done) (lt-ltb (length t.items) n h)

no_longer : (m : ℕ) (t : Trace) → length (done_after (Some m) t).items ≤ m
no_longer m t = by_bool (nat_lt (length t.items) m)
    (λ k. let l = ltb-true (length t.items) m k in let a = ap (λ (u : Trace). length u.items) (uncut m t l) in
    omega (arith, a, l))
    (λ k. let l = ltb-false (length t.items) m k in
    let a = ap (λ (u : Trace). length u.items) (cut_off m t.items t.ending l) in
    let b = length-take m t.items in omega (arith, a, b))

-- of two numbers the lesser one counts
pub done_twice : (m n : ℕ) (t : Trace) → done_after (Some (min m n)) t ≡ done_after (Some n) (done_after (Some m) t)
done_twice m n t = by_bool (nat_lt m n)
    (λ h. let less = ltb-true m n h in let l = no_longer m t in
    ap (λ k. done_after (Some k) t) (min-eq_left (omega (arith, less)))
    ∙ sym (uncut n (done_after (Some m) t) (omega (arith, less, l))))
    (λ h. let most = ltb-false m n h in
    ap (λ k. done_after (Some k) t) (min-eq_right most) ∙ by_bool (nat_lt (length t.items) m)
    (λ k. ap (done_after (Some n)) (sym (uncut m t (ltb-true (length t.items) m k))))
    (λ k. let l = ltb-false (length t.items) m k in
    let taken : List Item = take m t.items in
    let long = length-take m t.items in
    cut_off n t.items t.ending (omega (arith, most, l))
    ∙ ap (λ (xs : List Item). trace xs end.Done) (sym (take-take n m t.items most))
    ∙ sym (ap (done_after (Some n)) (cut_off m t.items t.ending l)
    ∙ cut_off n taken end.Done (omega (arith, most, l, long)))))

front_taken : (n : ℕ) (xs ys : List Item) → n ≤ length xs → take n (xs ++ ys) ≡ take n xs
front_taken n xs ys h = take-append-le n xs ys h

-- what comes after enough firsts changes nothing
pub enough_stays : (m : Option ℕ) (a b : Trace) → AreEnough m (firsts [] a.items)
    → done_after m (distinct_walk [] (append a b)) ≡ done_after m (distinct_walk [] a)
enough_stays None a b enough = absurd enough
enough_stays (Some n) a b enough = by a.items a.ending enough
  where
    by : (xs : List Item) (e : End) → n ≤ length (firsts [] xs)
        → done_after (Some n) (distinct_walk [] (then_on xs e b)) ≡ done_after (Some n) (trace (firsts [] xs) e)
    by xs end.Done enough =
        let l : List Item = firsts [] xs in
        let more : List Item = firsts (values_in l ++ []) b.items in
        let joined = firsts_joined [] xs b.items in
        let long = no_fewer_before xs b.items in
        cut_off n (firsts [] (xs ++ b.items)) b.ending (omega (arith, long, enough))
        ∙ ap (λ (ys : List Item). trace (take n ys) end.Done) joined
        ∙ ap (λ (ys : List Item). trace ys end.Done) (front_taken n l more enough)
        ∙ sym (cut_off n l end.Done enough)
    by xs (end.Fault f) enough = refl
