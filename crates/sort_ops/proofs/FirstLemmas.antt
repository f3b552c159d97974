-- Firsts of lists side by side.
use Rattle.std.proofs.Common.{◌≡◌, ℤ, Bool, true, false, ◌||◌, int_eq, if◌then◌else◌, List, [], ◌∷◌, ◌++◌, ◌+◌, ℕ, take}
use Rattle.std.proofs.Common.{drop, refl, sym, ap, ◌∙◌, append-nil, append_assoc}
use Rattle.std.proofs.lemmas.List.{take-append-drop}
use Rattle.std.specs.Cmp.{signed_Decides}
use Rattle.lambda_values.specs.declared.item.Item.{Item}
use Rattle.trace.specs.declared.item.End.{End}
use Rattle.trace.specs.declared.item.End.TheVariants as end
use Rattle.trace.specs.Trace.{Trace, trace, append, then_on}
use Rattle.sort_ops.specs.Firsts.{distinct_walk, is_among, firsts}
use Rattle.sort_ops.specs.Parts.{kept, values_in, firsts_of, firsts_then, firsts_merged, Pieces, piece, pair, whole}
use Rattle.sort_ops.specs.Parts.{firsts_over}
use Rattle.sort_ops.proofs.Choices.{by_bool, chosen, other}

pub first_seen : (seen : List ℤ) (x : Item) (xs : List Item) → is_among x.value seen ≡ true
    → firsts seen (x ∷ xs) ≡ firsts seen xs
first_seen seen x xs h = chosen (is_among x.value seen) (firsts seen xs) (x ∷ firsts (x.value ∷ seen) xs) h

pub first_new : (seen : List ℤ) (x : Item) (xs : List Item) → is_among x.value seen ≡ false
    → firsts seen (x ∷ xs) ≡ x ∷ firsts (x.value ∷ seen) xs
first_new seen x xs h = other (is_among x.value seen) (firsts seen xs) (x ∷ firsts (x.value ∷ seen) xs) h

-- ---- which values are seen

pub equal_is : (v w : ℤ) → int_eq v w ≡ true → v ≡ w
equal_is v w h = (signed_Decides v w).0 h

or_grouped : (a b c : Bool) → ((a || b) || c) ≡ (a || (b || c))
or_grouped true b c = refl
or_grouped false b c = refl

or_moved : (a b c : Bool) → (a || (b || c)) ≡ (b || (a || c))
or_moved true true c = refl
or_moved true false c = refl
or_moved false true c = refl
or_moved false false c = refl

or_twice : (a b : Bool) → (a || (a || b)) ≡ (a || b)
or_twice true b = refl
or_twice false b = refl

or_false : (a : Bool) → (a || false) ≡ a
or_false true = refl
or_false false = refl

pub among_joined : (v : ℤ) (s t : List ℤ) → is_among v (s ++ t) ≡ (is_among v s || is_among v t)
among_joined v [] t = refl
among_joined v (w ∷ s) t = ap (λ b. int_eq v w || b) (among_joined v s t)
    ∙ sym (or_grouped (int_eq v w) (is_among v s) (is_among v t))

-- the same values are among both
abbrev pub SameSeen : List ℤ → List ℤ → Type 0
SameSeen s t = (v : ℤ) → is_among v s ≡ is_among v t

same_more : (w : ℤ) (s t : List ℤ) → SameSeen s t → SameSeen (w ∷ s) (w ∷ t)
same_more w s t h v = ap (λ b. int_eq v w || b) (h v)

-- firsts depend on which values were seen alone
pub firsts_same : (s t : List ℤ) → SameSeen s t → (xs : List Item) → firsts s xs ≡ firsts t xs
firsts_same s t h [] = refl
firsts_same s t h (x ∷ xs) = by_bool (is_among x.value s)
    (λ k. first_seen s x xs k ∙ firsts_same s t h xs ∙ sym (first_seen t x xs (sym (h x.value) ∙ k)))
    (λ k. first_new s x xs k ∙ ap (λ (l : List Item). x ∷ l)
    (firsts_same (x.value ∷ s) (x.value ∷ t) (same_more x.value s t h) xs)
    ∙ sym (first_new t x xs (sym (h x.value) ∙ k)))

moved_seen : (w : ℤ) (s t : List ℤ) → SameSeen (s ++ w ∷ t) (w ∷ s ++ t)
moved_seen w s t v =
    among_joined v s (w ∷ t) ∙ or_moved (is_among v s) (int_eq v w) (is_among v t)
    ∙ ap (λ b. int_eq v w || b) (sym (among_joined v s t))

-- ---- lists side by side

pub firsts_joined : (s : List ℤ) (xs ys : List Item)
    → firsts s (xs ++ ys) ≡ firsts s xs ++ firsts (values_in (firsts s xs) ++ s) ys
firsts_joined s [] ys = refl
firsts_joined s (x ∷ xs) ys = by_bool (is_among x.value s)
    (λ k. first_seen s x (xs ++ ys) k ∙ firsts_joined s xs ys
    ∙ sym (ap (λ (l : List Item). l ++ firsts (values_in l ++ s) ys) (first_seen s x xs k)))
    (λ k. let l : List Item = firsts (x.value ∷ s) xs in
    first_new s x (xs ++ ys) k ∙ ap (λ (m : List Item). x ∷ m) (firsts_joined (x.value ∷ s) xs ys)
    ∙ ap (λ (m : List Item). x ∷ l ++ m)
    (firsts_same (values_in l ++ x.value ∷ s) (x.value ∷ values_in l ++ s) (moved_seen x.value (values_in l) s) ys)
    ∙ sym (ap (λ (m : List Item). m ++ firsts (values_in m ++ s) ys) (first_new s x xs k)))

-- a value that is seen already
or_true : (a b : Bool) → b ≡ true → (a || b) ≡ b
or_true true b h = sym h
or_true false b h = refl

pub or_right : (a b : Bool) → b ≡ true → (a || b) ≡ true
or_right true b h = refl
or_right false b h = h

again_seen : (w : ℤ) (s t : List ℤ) → is_among w s ≡ true → SameSeen (w ∷ t ++ s) (t ++ s)
again_seen w s t h v = by_bool (int_eq v w)
    (λ k. let same : v ≡ w = equal_is v w k in
    or_true (int_eq v w) (is_among v (t ++ s))
    (among_joined v t s ∙ or_right (is_among v t) (is_among v s) (ap (λ z. is_among z s) same ∙ h)))
    (λ k. ap (λ b. b || is_among v (t ++ s)) k)

twice_seen : (w : ℤ) (s t : List ℤ) → SameSeen ((w ∷ t) ++ w ∷ s) (w ∷ t ++ s)
twice_seen w s t v = ap (λ b. int_eq v w || b) (moved_seen w t s v) ∙ or_twice (int_eq v w) (is_among v (t ++ s))

-- firsts of firsts
pub firsts_twice : (s t : List ℤ) (xs : List Item) → firsts s (firsts t xs) ≡ firsts (t ++ s) xs
firsts_twice s t [] = refl
firsts_twice s t (x ∷ xs) = by_bool (is_among x.value t)
    (λ k. ap (firsts s) (first_seen t x xs k) ∙ firsts_twice s t xs
    ∙ sym (first_seen (t ++ s) x xs (among_joined x.value t s ∙ ap (λ b. b || is_among x.value s) k)))
    (λ k. let l : List Item = firsts (x.value ∷ t) xs in by_bool (is_among x.value s)
    (λ m. ap (firsts s) (first_new t x xs k) ∙ first_seen s x l m ∙ firsts_twice s (x.value ∷ t) xs
    ∙ firsts_same (x.value ∷ t ++ s) (t ++ s) (again_seen x.value s t m) xs
    ∙ sym (first_seen (t ++ s) x xs (among_joined x.value t s ∙ or_right (is_among x.value t) (is_among x.value s) m)))
    (λ m. ap (firsts s) (first_new t x xs k) ∙ first_new s x l m
    ∙ ap (λ (n : List Item). x ∷ n) (firsts_twice (x.value ∷ s) (x.value ∷ t) xs
    ∙ firsts_same ((x.value ∷ t) ++ x.value ∷ s) (x.value ∷ t ++ s) (twice_seen x.value s t) xs)
    ∙ sym (first_new (t ++ s) x xs (among_joined x.value t s ∙ ap (λ b. b || is_among x.value s) k ∙ m))))

-- ---- pieces of a walk

no_seen : (s : List ℤ) → SameSeen (s ++ []) s
no_seen s v = ap (is_among v) (append-nil s)

pub firsts_merge : (xs ys : List Item) → firsts [] xs ++ firsts (values_in (firsts [] xs)) (firsts [] ys)
    ≡ firsts [] (xs ++ ys)
firsts_merge xs ys =
    let l : List Item = firsts [] xs in
    ap (λ (m : List Item). l ++ m) (firsts_twice (values_in l) [] ys
    ∙ sym (firsts_same (values_in l ++ []) (values_in l) (no_seen (values_in l)) ys))
    ∙ sym (firsts_joined [] xs ys)

firsts_on : (xs : List Item) (e : End) (b : Trace)
    → firsts_then (firsts [] xs) e (firsts_of b) ≡ firsts_of (then_on xs e b)
firsts_on xs end.Done b = ap (λ (l : List Item). kept l b.ending) (firsts_merge xs b.items)
firsts_on xs (end.Fault f) b = refl

pub firsts_side : (a b : Trace) → firsts_merged (firsts_of a) (firsts_of b) ≡ firsts_of (append a b)
firsts_side a b = firsts_on a.items a.ending b

pub every_tree : (p : Pieces) → firsts_over p ≡ firsts_of (whole p)
every_tree (piece t) = refl
every_tree (pair l r) = ap (λ k. firsts_merged k (firsts_over r)) (every_tree l)
    ∙ ap (firsts_merged (firsts_of (whole l))) (every_tree r) ∙ firsts_side (whole l) (whole r)

-- ---- what firsts are

-- the values of firsts are those of the items
pub seen_by_firsts : (s : List ℤ) (xs : List Item) → SameSeen (values_in (firsts s xs) ++ s) (values_in xs ++ s)
seen_by_firsts s [] v = refl
seen_by_firsts s (x ∷ xs) v = by_bool (is_among x.value s)
    (λ k. ap (λ (l : List Item). is_among v (values_in l ++ s)) (first_seen s x xs k) ∙ seen_by_firsts s xs v
    ∙ sym (by_bool (int_eq v x.value)
    (λ m. let same : v ≡ x.value = equal_is v x.value m in
    or_true (int_eq v x.value) (is_among v (values_in xs ++ s))
    (among_joined v (values_in xs) s
    ∙ or_right (is_among v (values_in xs)) (is_among v s) (ap (λ z. is_among z s) same ∙ k)))
    (λ m. ap (λ b. b || is_among v (values_in xs ++ s)) m)))
    (λ k. ap (λ (l : List Item). is_among v (values_in l ++ s)) (first_new s x xs k)
    ∙ sym (moved_seen x.value (values_in (firsts (x.value ∷ s) xs)) s v)
    ∙ seen_by_firsts (x.value ∷ s) xs v
    ∙ moved_seen x.value (values_in xs) s v)

-- one more item
pub one_more : (xs : List Item) (x : Item)
    → firsts [] (xs ++ x ∷ []) ≡ (if is_among x.value (values_in xs) then firsts [] xs else firsts [] xs ++ x ∷ [])
one_more xs x =
    let l : List Item = firsts [] xs in
    let seen : is_among x.value (values_in l ++ []) ≡ is_among x.value (values_in xs) =
    seen_by_firsts [] xs x.value ∙ no_seen (values_in xs) x.value in
    firsts_joined [] xs (x ∷ []) ∙ by_bool (is_among x.value (values_in xs))
    (λ k. ap (λ (m : List Item). l ++ m) (first_seen (values_in l ++ []) x [] (seen ∙ k)) ∙ append-nil l
    ∙ sym (chosen (is_among x.value (values_in xs)) l (l ++ x ∷ []) k))
    (λ k. ap (λ (m : List Item). l ++ m) (first_new (values_in l ++ []) x [] (seen ∙ k))
    ∙ sym (other (is_among x.value (values_in xs)) l (l ++ x ∷ []) k))

-- ---- firsts that are put together step by step

pub firsts_first : (xs ys : List Item) → firsts [] (firsts [] xs ++ ys) ≡ firsts [] (xs ++ ys)
firsts_first xs ys =
    firsts_joined [] (firsts [] xs) ys ∙ ap (λ (m : List Item). m ++ firsts (values_in m ++ []) ys)
    (firsts_twice [] [] xs) ∙ sym (firsts_joined [] xs ys)

pub firsts_last : (xs ys : List Item) → firsts [] (xs ++ firsts [] ys) ≡ firsts [] (xs ++ ys)
firsts_last xs ys =
    let s : List ℤ = values_in (firsts [] xs) ++ [] in
    firsts_joined [] xs (firsts [] ys) ∙ ap (λ (m : List Item). firsts [] xs ++ m) (firsts_twice s [] ys)
    ∙ sym (firsts_joined [] xs ys)

equal_itself : (v : ℤ) → int_eq v v ≡ true
equal_itself v = (signed_Decides v v).1 refl

or_left : (a b : Bool) → a ≡ true → (a || b) ≡ true
or_left true b h = refl
or_left false b h = cc

-- items whose values are all seen
none_new : (s : List ℤ) (xs : List Item) → ((v : ℤ) → is_among v (values_in xs) ≡ true → is_among v s ≡ true)
    → firsts s xs ≡ []
none_new s [] h = refl
none_new s (x ∷ xs) h =
    first_seen s x xs (h x.value (or_left (int_eq x.value x.value) (is_among x.value (values_in xs))
    (equal_itself x.value)))
    ∙ none_new s xs (λ v k. h v (or_right (int_eq v x.value) (is_among v (values_in xs)) k))

repeated : (xs ys zs : List Item) → firsts [] ((xs ++ ys) ++ (ys ++ zs)) ≡ firsts [] ((xs ++ ys) ++ zs)
repeated xs ys zs =
    let all : List Item = xs ++ ys in
    let s : List ℤ = values_in (firsts [] all) ++ [] in
    let none : firsts s ys ≡ [] = none_new s ys
    (λ v k. seen_by_firsts [] all v ∙ no_seen (values_in all) v ∙ values_later v xs ys k) in
    firsts_joined [] all (ys ++ zs) ∙ ap (λ (m : List Item). firsts [] all ++ m)
    (firsts_joined s ys zs ∙ ap (λ (m : List Item). m ++ firsts (values_in m ++ s) zs) none)
    ∙ sym (firsts_joined [] all zs)
  where
    values_later : (v : ℤ) (xs ys : List Item) → is_among v (values_in ys) ≡ true
        → is_among v (values_in (xs ++ ys)) ≡ true
    values_later v [] ys k = k
    values_later v (x ∷ xs) ys k = or_right (int_eq v x.value) (is_among v (values_in (xs ++ ys)))
        (values_later v xs ys k)

-- some of the items were added before
pub added_again : (old xs : List Item) (i : ℕ) → firsts [] (firsts [] (old ++ take i xs) ++ xs) ≡ firsts [] (old ++ xs)
added_again old xs i =
    let b : List Item = take i xs in
    let c : List Item = drop i xs in
    let both : b ++ c ≡ xs = take-append-drop i xs in
    firsts_first (old ++ b) xs ∙ ap (λ (l : List Item). firsts [] ((old ++ b) ++ l)) (sym both) ∙ repeated old b c
    ∙ ap (firsts []) (append_assoc old b c)
    ∙ ap (λ (l : List Item). firsts [] (old ++ l)) both

-- one more of the items
pub added_one : (old xs now : List Item) (x : Item) (i : ℕ) → now ≡ firsts [] (old ++ take i xs)
    → take (i + 1) xs ≡ take i xs ++ x ∷ [] → firsts [] (now ++ x ∷ []) ≡ firsts [] (old ++ take (i + 1) xs)
added_one old xs now x i so_far more =
    ap (λ (l : List Item). firsts [] (l ++ x ∷ [])) so_far ∙ firsts_first (old ++ take i xs) (x ∷ [])
    ∙ ap (firsts []) (append_assoc old (take i xs) (x ∷ []))
    ∙ ap (λ (l : List Item). firsts [] (old ++ l)) (sym more)

-- ---- walks side by side

firsts_after : (s : List ℤ) (xs ys : List Item) → firsts s (xs ++ ys) ≡ firsts s xs ++ firsts (values_in xs ++ s) ys
firsts_after s xs ys =
    firsts_joined s xs ys ∙ ap (λ (l : List Item). firsts s xs ++ l)
    (firsts_same (values_in (firsts s xs) ++ s) (values_in xs ++ s) (seen_by_firsts s xs) ys)

-- what comes after a walk has the walk's values before it
pub distinct_cut : (s : List ℤ) (a later : Trace)
    → distinct_walk s (append a later) ≡ append (distinct_walk s a) (distinct_walk (values_in a.items ++ s) later)
distinct_cut s a later = by a.items a.ending
  where
    by : (xs : List Item) (e : End) → distinct_walk s (then_on xs e later)
        ≡ then_on (firsts s xs) e (distinct_walk (values_in xs ++ s) later)
    by xs end.Done = ap (λ (l : List Item). trace l later.ending) (firsts_after s xs later.items)
    by xs (end.Fault f) = refl
