-- Noted values, each of which is the value of an item.
use Rattle.std.proofs.Common.{◌≡◌, ℕ, zero, suc, ◌<◌, ℤ, true, false, ◌||◌, int_eq, List, [], ◌∷◌, length}
use Rattle.std.proofs.Common.{length-append, get_or, None}
use Rattle.std.proofs.Common.{◌++◌, take, replicate, append-nil, set, Result, Ok, Err, is_ok, refl, sym, ap, subst, ◌∙◌}
use Rattle.std.proofs.Common.{arith}
use Rattle.std.specs.Prelude.{if◌then◌else◌}
use Rattle.std.proofs.lemmas.List.{map-append, take-append-le}
use Rattle.std.specs.Cmp.{signed_Decides}
use Rattle.lambda_values.specs.declared.item.Item.{Item}
use Rattle.sort_ops.specs.declared.lookup.Lookup.{Lookup}
use Rattle.sort_ops.specs.Firsts.{firsts, is_among}
use Rattle.sort_ops.specs.Parts.{values_in}
use Rattle.sort_ops.specs.NewValues.{AreAmong, AreKnown, AreOnce, Knows}
use Rattle.sort_ops.proofs.FirstLemmas.{SameSeen, among_joined, equal_is, firsts_first, one_more, or_right}
use Rattle.sort_ops.proofs.FirstLemmas.{seen_by_firsts}
use Rattle.sort_ops.proofs.Choices.{by_bool, chosen}

-- the pair at a position
pub pair_among : (vs : List ℤ) (ps : List (ℤ × ℤ)) (i : ℕ) (p : ℤ × ℤ) → i < length ps → p ≡ get_or ps i p
    → AreAmong vs ps → (is_among p.0 vs ≡ true) × (is_among p.1 vs ≡ true)
pair_among vs [] i p low is all = absurd (omega (arith, low))
pair_among vs (q ∷ qs) zero p low is all =
    (ap (λ (r : ℤ × ℤ). is_among r.0 vs) is ∙ all.0, ap (λ (r : ℤ × ℤ). is_among r.1 vs) is ∙ all.1)
pair_among vs (q ∷ qs) (suc i) p low is all = pair_among vs qs i p (omega (arith, low)) is all.2

-- another pair at a position
pub pair_set : (vs : List ℤ) (ps : List (ℤ × ℤ)) (i : ℕ) (p : ℤ × ℤ) → is_among p.0 vs ≡ true
    → is_among p.1 vs ≡ true → AreAmong vs ps → AreAmong vs (set ps i p)
pair_set vs [] i p first second all = tt
pair_set vs (q ∷ qs) zero p first second all = (first, second, all.2)
pair_set vs (q ∷ qs) (suc i) p first second all = (all.0, all.1, pair_set vs qs i p first second all.2)

-- a value that is one of two
pub either_among : (vs : List ℤ) (v a b : ℤ) → is_among a vs ≡ true → is_among b vs ≡ true
    → (int_eq v a || int_eq v b) ≡ true → is_among v vs ≡ true
either_among vs v a b first second same = by_bool (int_eq v a)
    (λ k. ap (λ w. is_among w vs) (equal_is v a k) ∙ first)
    (λ k. let e : int_eq v b ≡ true = sym (ap (λ c. c || int_eq v b) k) ∙ same in
    ap (λ w. is_among w vs) (equal_is v b e) ∙ second)

-- pairs of one value after others
more_among : (vs : List ℤ) (ps qs : List (ℤ × ℤ)) → AreAmong vs ps → AreAmong vs qs → AreAmong vs (ps ++ qs)
more_among vs [] qs all more = more
more_among vs (p ∷ ps) qs all more = (all.0, all.1, more_among vs ps qs all.2 more)

take_among : (vs : List ℤ) (n : ℕ) (ps : List (ℤ × ℤ)) → AreAmong vs ps → AreAmong vs (take n ps)
take_among vs zero ps all = tt
take_among vs (suc n) [] all = tt
take_among vs (suc n) (p ∷ ps) all = (all.0, all.1, take_among vs n ps all.2)

copies_among : (vs : List ℤ) (n : ℕ) (p : ℤ × ℤ) → is_among p.0 vs ≡ true → is_among p.1 vs ≡ true
    → AreAmong vs (replicate n p)
copies_among vs zero p first second = tt
copies_among vs (suc n) p first second = (first, second, copies_among vs n p first second)

pub filled_among : {A E : Type 0} (vs : List ℤ) (n m : ℕ) (p : ℤ × ℤ) (ps : List (ℤ × ℤ)) (r : Result A E)
    → is_among p.0 vs ≡ true → is_among p.1 vs ≡ true → AreAmong vs ps
    → AreAmong vs (if is_ok r then take n ps ++ replicate m p else ps)
filled_among vs n m p ps (Ok a) first second all =
    more_among vs (take n ps) (replicate m p) (take_among vs n ps all) (copies_among vs m p first second)
filled_among vs n m p ps (Err e) first second all = all

-- pairs of values of items, after more items came
first_among : (v : ℤ) (us vs : List ℤ) → is_among v us ≡ true → is_among v (us ++ vs) ≡ true
first_among v us vs h = among_joined v us vs ∙ ap (λ b. b || is_among v vs) h

pub still_among : (us vs : List ℤ) (ps : List (ℤ × ℤ)) → AreAmong us ps → AreAmong (us ++ vs) ps
still_among us vs [] all = tt
still_among us vs (p ∷ ps) all =
    (first_among p.0 us vs all.0, first_among p.1 us vs all.1, still_among us vs ps all.2)

-- pairs of values that are among others too
pub same_among : (us vs : List ℤ) (ps : List (ℤ × ℤ)) → SameSeen us vs → AreAmong us ps → AreAmong vs ps
same_among us vs [] same all = tt
same_among us vs (p ∷ ps) same all = (sym (same p.0) ∙ all.0, sym (same p.1) ∙ all.1, same_among us vs ps same all.2)

-- the firsts of items have all of their values
seen_firsts : (xs : List Item) → SameSeen (values_in (firsts [] xs)) (values_in xs)
seen_firsts xs v = ap (is_among v) (sym (append-nil (values_in (firsts [] xs)))) ∙ seen_by_firsts [] xs v
    ∙ ap (is_among v) (append-nil (values_in xs))

-- items with the firsts of others
pub firsts_among : (xs ys : List Item) (ps : List (ℤ × ℤ)) → firsts [] ys ≡ firsts [] xs → AreAmong (values_in xs) ps
    → AreAmong (values_in ys) ps
firsts_among xs ys ps same all = same_among (values_in xs) (values_in ys) ps
    (λ v. sym (seen_firsts xs v) ∙ ap (λ (l : List Item). is_among v (values_in l)) (sym same) ∙ seen_firsts ys v) all

-- one more item
pub item_among : (xs : List Item) (x : Item) → is_among x.value (values_in (xs ++ x ∷ [])) ≡ true
item_among [] x = ap (λ b. b || false) ((signed_Decides x.value x.value).1 refl)
item_among (y ∷ ys) x = or_right (int_eq x.value y.value) (is_among x.value (values_in (ys ++ x ∷ [])))
    (item_among ys x)

-- more items
pub still_noted : (xs ys : List Item) (ps : List (ℤ × ℤ)) → AreAmong (values_in xs) ps
    → AreAmong (values_in (xs ++ ys)) ps
still_noted xs ys ps all = subst (λ (vs : List ℤ). AreAmong vs ps)
    (sym (map-append (λ (y : Item). y.value) xs ys)) (still_among (values_in xs) (values_in ys) ps all)

-- the firsts of items and of one more, which is kept
pub kept_on : (xs ys : List Item) (x : Item) → firsts [] xs ≡ firsts [] ys
    → firsts [] (xs ++ x ∷ []) ≡ firsts [] (ys ++ x ∷ [])
kept_on xs ys x same = sym (firsts_first xs (x ∷ [])) ∙ ap (λ (l : List Item). firsts [] (l ++ x ∷ [])) same
    ∙ firsts_first ys (x ∷ [])

-- or which has a value that came before
pub left_on : (xs ys : List Item) (x : Item) → firsts [] xs ≡ firsts [] ys → is_among x.value (values_in xs) ≡ true
    → firsts [] xs ≡ firsts [] (ys ++ x ∷ [])
left_on xs ys x same h =
    sym (one_more xs x ∙ chosen (is_among x.value (values_in xs)) (firsts [] xs) (firsts [] xs ++ x ∷ []) h)
    ∙ kept_on xs ys x same

-- more items change nothing of those that were looked up
pub still_known : (xs ys : List Item) (k : ℕ) (l : Lookup) → AreKnown xs k l → AreKnown (xs ++ ys) k l
still_known xs ys k l are =
    let long = length-append xs ys in
    let within = are.within in
    let same : take k xs ≡ take k (xs ++ ys) = sym (take-append-le k xs ys within) in
    record {
      within = omega (arith, within, long);
      once = λ going. subst (AreOnce None) same (are.once going);
      all = are.all;
      knows = subst (Knows l) same are.knows;
    }
