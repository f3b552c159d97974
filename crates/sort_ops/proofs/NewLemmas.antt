-- Items whose value came before, and sets that find them.
use Rattle.std.proofs.Common.{◌≡◌, ◌+◌, ◌≤◌, ◌<◌, ◌*◌, ◌/◌, ◌%◌, ◌^◌, ◌==◌, nat_lt, ℕ, ℤ, Bool, true, false, ◌||◌, cond}
use Rattle.std.proofs.Common.{int_eq, int_lt, slice_index_or, unsigned_abs, List, [], ◌∷◌, ◌++◌, length, take, drop}
use Rattle.std.proofs.Common.{get_or, set, Option, None}
use Rattle.std.proofs.Common.{Some, suc, refl, sym, ap, subst, ◌∙◌, arith, append_assoc}
use Rattle.std.proofs.lemmas.List.{drop_more, drop-set-lt, take_more_set}
use Rattle.std.proofs.lemmas.Grind.{common_steps}
use Rattle.std.proofs.lemmas.Bool.{ltb-false, ltb-true}
use Rattle.std.proofs.lemmas.Nat.{mod_below}
use Rattle.std.specs.Cmp.{signed_Decides}
use Rattle.std.specs.HashSet.{contains}
use Rattle.std.specs.List.{IsAllAdjacentAnswer}
use Rattle.std.specs.Prelude.{⊤}
use Rattle.std.proofs.lemmas.Int.{ints}
use Rattle.lambda_values.specs.declared.item.Item.{Item}
use Rattle.sort_ops.specs.declared.lookup.Lookup.{Lookup}
use Rattle.sort_ops.specs.Firsts.{is_among, firsts}
use Rattle.sort_ops.specs.Parts.{values_in}
use Rattle.sort_ops.specs.NewValues.{AreOnce, Knows, class_of, is_in}
use Rattle.sort_ops.proofs.FirstLemmas.{equal_is, first_new, firsts_first, one_more}
use Rattle.sort_ops.proofs.Choices.{by_bool, chosen}

or_moved : (a b c : Bool) → (a || (b || c)) ≡ (b || (a || c))
or_moved true true c = refl
or_moved true false c = refl
or_moved false true c = refl
or_moved false false c = refl

or_open : (a b : Bool) → (a || b) ≡ false → (a ≡ false) × (b ≡ false)
or_open true b h = cc
or_open false b h = (refl, h)

or_left : (a b : Bool) → a ≡ true → (a || b) ≡ true
or_left true b h = refl
or_left false b h = cc

or_right : (a b : Bool) → b ≡ true → (a || b) ≡ true
or_right true b h = refl
or_right false b h = h

swapped : (a b : ℤ) → int_eq a b ≡ int_eq b a
swapped a b = by_bool (int_eq a b)
    (λ h. h ∙ sym (ap (int_eq b) ((signed_Decides a b).0 h) ∙ (signed_Decides b b).1 refl))
    (λ h. by_bool (int_eq b a)
    (λ k. absurd (let z : int_eq a b ≡ true = ap (int_eq a) ((signed_Decides b a).0 k) ∙ (signed_Decides a a).1 refl in
    cc))
    (λ k. h ∙ sym k))

last_among : (v : ℤ) (xs : List Item) (x : Item)
    → is_among v (values_in (xs ++ x ∷ [])) ≡ (int_eq x.value v || is_among v (values_in xs))
last_among v [] x = ap (λ b. b || false) (swapped v x.value)
last_among v (y ∷ ys) x = ap (λ b. int_eq v y.value || b) (last_among v ys x)
    ∙ or_moved (int_eq v y.value) (int_eq x.value v) (is_among v (values_in ys))

-- ---- sets

-- an item that isn't looked up
pub outside : (l : Lookup) (xs : List Item) (x : Item) → is_in l.class x.value ≡ false → Knows l xs
    → Knows l (xs ++ x ∷ [])
outside l xs x out knows going v inside =
    let apart : int_eq x.value v ≡ false = by_bool (int_eq x.value v)
    (λ k. let z : true ≡ false = sym inside ∙ ap (is_in l.class) (sym (equal_is x.value v k)) ∙ out in cc)
    (λ k. k) in
    knows going v inside ∙ ap (λ b. b || is_among v (values_in xs)) (sym apart) ∙ sym (last_among v xs x)

or_is : (a b : Bool) → cond a true b ≡ (a || b)
or_is true b = refl
or_is false b = refl

-- a value that was put into the set
pub put_in : (l m : Lookup) (xs : List Item) (x : Item) → m.class ≡ l.class → m.partial ≡ l.partial
    → ((v : ℤ) → contains int_eq m.seen v ≡ cond (int_eq x.value v) true (contains int_eq l.seen v)) → Knows l xs
    → Knows m (xs ++ x ∷ [])
put_in l m xs x class partial has knows going v inside =
    has v ∙ or_is (int_eq x.value v) (contains int_eq l.seen v)
    ∙ ap (λ b. int_eq x.value v || b) (knows (sym partial ∙ going) v (ap (λ c. is_in c v) (sym class) ∙ inside))
    ∙ sym (last_among v xs x)

-- ---- items of different values

once_later : (c : Option ℕ) (xs ys : List Item) → AreOnce c (xs ++ ys) → AreOnce c ys
once_later c [] ys once = once
once_later c (x ∷ xs) ys once = once_later c xs ys once.1

once_before : (c : Option ℕ) (xs : List Item) (x : Item) → AreOnce c xs
    → (is_in c x.value ≡ true → is_among x.value (values_in xs) ≡ false) → AreOnce c (xs ++ x ∷ [])
once_before c [] x once new = (λ h. refl, tt)
once_before c (y ∷ ys) x once new = (
  λ inside. by_bool (int_eq x.value y.value)
      (λ k. absurd (let same : x.value ≡ y.value = equal_is x.value y.value k in
      let none : (int_eq x.value y.value || is_among x.value (values_in ys)) ≡ false =
      new (ap (is_in c) same ∙ inside) in
      let z : true ≡ false = sym k ∙ (or_open (int_eq x.value y.value) (is_among x.value (values_in ys)) none).0 in cc))
      (λ k. last_among y.value ys x ∙ ap (λ b. b || is_among y.value (values_in ys)) k ∙ once.0 inside),
  once_before c ys x once.1 (λ inside. (or_open (int_eq x.value y.value) (is_among x.value (values_in ys))
      (new inside)).1),
)

pub one_once : (c : Option ℕ) (xs : List Item) (x : Item) → AreOnce c xs
    → (is_in c x.value ≡ true → is_among x.value (values_in xs) ≡ false) → AreOnce c (xs ++ x ∷ [])
one_once = once_before

-- fewer items
fewer_among : (v : ℤ) (xs : List Item) (x : Item) (ys : List Item) → is_among v (values_in (xs ++ x ∷ ys)) ≡ false
    → is_among v (values_in (xs ++ ys)) ≡ false
fewer_among v [] x ys h = (or_open (int_eq v x.value) (is_among v (values_in ys)) h).1
fewer_among v (z ∷ zs) x ys h =
    let parts = or_open (int_eq v z.value) (is_among v (values_in (zs ++ x ∷ ys))) h in
    ap (λ b. b || is_among v (values_in (zs ++ ys))) parts.0 ∙ fewer_among v zs x ys parts.1

pub fewer_once : (c : Option ℕ) (xs : List Item) (x : Item) (ys : List Item) → AreOnce c (xs ++ x ∷ ys)
    → AreOnce c (xs ++ ys)
fewer_once c [] x ys once = once.1
fewer_once c (z ∷ zs) x ys once = (λ inside. fewer_among z.value zs x ys (once.0 inside), fewer_once c zs x ys once.1)

-- an item whose value came before changes no firsts
pub again : (xs : List Item) (x : Item) (ys : List Item) → is_among x.value (values_in xs) ≡ true
    → firsts [] (xs ++ ys) ≡ firsts [] (xs ++ x ∷ ys)
again xs x ys h =
    sym (firsts_first xs ys) ∙ ap (λ (l : List Item). firsts [] (l ++ ys))
    (sym (one_more xs x ∙ chosen (is_among x.value (values_in xs)) (firsts [] xs) (firsts [] xs ++ x ∷ []) h))
    ∙ firsts_first (xs ++ x ∷ []) ys ∙ ap (firsts []) (append_assoc xs (x ∷ []) ys)

-- ---- items of different values are their own firsts

abbrev NoneAmong : List ℤ → List Item → Type 0
NoneAmong s xs = (v : ℤ) → is_among v (values_in xs) ≡ true → is_among v s ≡ false

itself : (v : ℤ) → int_eq v v ≡ true
itself v = (signed_Decides v v).1 refl

once_firsts : (s : List ℤ) (xs : List Item) → AreOnce None xs → NoneAmong s xs → firsts s xs ≡ xs
once_firsts s [] once none = refl
once_firsts s (x ∷ xs) once none =
    first_new s x xs (none x.value (or_left (int_eq x.value x.value) (is_among x.value (values_in xs))
    (itself x.value)))
    ∙ ap (λ (l : List Item). x ∷ l) (once_firsts (x.value ∷ s) xs once.1 later)
  where
    later : NoneAmong (x.value ∷ s) xs
    later v h = by_bool (int_eq v x.value)
        (λ k. absurd (let z : true ≡ false =
        sym h ∙ ap (λ w. is_among w (values_in xs)) (equal_is v x.value k) ∙ once.0 refl in cc))
        (λ k. ap (λ b. b || is_among v s) k ∙ none v (or_right (int_eq v x.value) (is_among v (values_in xs)) h))

pub own_firsts : (xs : List Item) → AreOnce None xs → firsts [] xs ≡ xs
own_firsts xs once = once_firsts [] xs once (λ v h. refl)

-- ---- all classes

same_nat : (n : ℕ) → (n == n) ≡ true
same_nat n = grind (arith, common_steps)

pub all_once : (xs : List Item) → ((c : ℕ) → c < 16 → AreOnce (Some c) xs) → AreOnce None xs
all_once [] once = tt
all_once (x ∷ xs) once = (
  λ inside. (once (class_of x.value) (mod_below (unsigned_abs x.value * 11400714819323198485 % 2 ^ 64 / 2 ^ 32) 16
      (omega arith))).0 (same_nat (class_of x.value)),
  all_once xs (λ c less. (once c less).1),
)

-- ---- a loop over items, of which some stay

-- the item at a position, and what follows it
pub next_item : (xs : List Item) (i : ℕ) (x : Item) → i + 1 ≤ length xs → x ≡ get_or xs i x
    → drop i xs ≡ x ∷ drop (i + 1) xs
next_item xs i x within is = drop_more xs i x (omega (arith, within)) ∙ ap (λ (y : Item). y ∷ drop (i + 1) xs) (sym is)

-- it stays: it is written at another position, which isn't later
pub written : (xs : List Item) (k i : ℕ) (x : Item) → k ≤ i → i + 1 ≤ length xs → drop i xs ≡ x ∷ drop (i + 1) xs
    → take (k + 1) (set xs k x) ++ drop (i + 1) (set xs k x) ≡ take k xs ++ drop i xs
written xs k i x before within is =
    (λ j. take_more_set xs k x (omega (arith, before, within)) j
    ++ drop-set-lt (i + 1) xs k x (omega (arith, before)) j)
    ∙ append_assoc (take k xs) (x ∷ []) (drop (i + 1) xs) ∙ ap (λ (l : List Item). take k xs ++ l) (sym is)

-- ---- a loop over classes

pub last_or_before : (k d : ℕ) → d < k + 1 → (P : ℕ → Type 0) → P k → (d < k → P d) → P d
last_or_before k d less P last before = by_bool (nat_lt d k)
    (λ h. before (ltb-true d k h))
    (λ h. let not = ltb-false d k h in let is : k ≡ d = omega (arith, less, not) in subst P is last)

-- ---- items that rise, or fall, have different values

less_apart : (a b : ℤ) → int_lt a b ≡ true → int_eq a b ≡ false
less_apart a b h = grind (arith, ints)

more_apart : (a b : ℤ) → int_lt b a ≡ true → int_eq a b ≡ false
more_apart a b h = grind (arith, ints)

less_on : (a b c : ℤ) → int_lt a b ≡ true → int_lt b c ≡ true → int_lt a c ≡ true
less_on a b c h k = grind (arith, ints)

-- an order of values in which no value comes before itself
record Turns (r : ℤ → ℤ → Bool) : Type 0 where
  apart : (a b : ℤ) → r a b ≡ true → int_eq a b ≡ false
  on : (a b c : ℤ) → r a b ≡ true → r b c ≡ true → r a c ≡ true

rising : Turns int_lt
rising = record { apart = less_apart; on = less_on }

falling : Turns (λ a b. int_lt b a)
falling = record { apart = more_apart; on = λ a b c h k. less_on c b a k h }

module _ (r : ℤ → ℤ → Bool) (turns : Turns r) where
  -- each of the items comes after a value
  abbrev AreAfter : ℤ → List Item → Type 0
  AreAfter v [] = ⊤
  AreAfter v (x ∷ xs) = (r v x.value ≡ true) × AreAfter v xs

  still_after : (v w : ℤ) (xs : List Item) → r v w ≡ true → AreAfter w xs → AreAfter v xs
  still_after v w [] h all = tt
  still_after v w (x ∷ xs) h all = (turns.on v w x.value h all.0, still_after v w xs h all.1)

  none_after : (v : ℤ) (xs : List Item) → AreAfter v xs → is_among v (values_in xs) ≡ false
  none_after v [] all = refl
  none_after v (x ∷ xs) all = ap (λ b. b || is_among v (values_in xs)) (turns.apart v x.value all.0)
      ∙ none_after v xs all.1

  -- each item but the first one comes after the one before it
  abbrev InTurn : List Item → Type 0
  InTurn xs = (k : ℕ) (d : Item) → k + 1 < length xs
      → r (slice_index_or xs k d).value (slice_index_or xs (k + 1) d).value ≡ true

  tail_in_turn : (x : Item) (xs : List Item) → InTurn (x ∷ xs) → InTurn xs
  tail_in_turn x xs all k d high =
      let e : suc k + 1 ≡ suc (k + 1) = omega arith in
      subst (λ (n : ℕ). r (slice_index_or xs k d).value (slice_index_or (x ∷ xs) n d).value ≡ true) e
      (all (suc k) d (omega (arith, high)))

  once_from : (x : Item) (xs : List Item) → InTurn (x ∷ xs) → AreAfter x.value xs × AreOnce None (x ∷ xs)
  once_from x [] all = (tt, (λ h. refl, tt))
  once_from x (y ∷ ys) all =
      let later = once_from y ys (tail_in_turn x (y ∷ ys) all) in
      let next : r x.value y.value ≡ true = all 0 x (omega arith) in
      let after : AreAfter x.value (y ∷ ys) = (next, still_after x.value y.value ys next later.0) in
      (after, (λ h. none_after x.value (y ∷ ys) after, later.1))

  once_in_turn : (xs : List Item) → InTurn xs → AreOnce None xs
  once_in_turn [] all = tt
  once_in_turn (x ∷ xs) all = (once_from x xs all).1

  -- what std's test says of neighbours
  once_if_answered : (xs : List Item) (b : Bool)
      → IsAllAdjacentAnswer (λ (x y : Item) (c : Bool). c ≡ r x.value y.value) xs b → b ≡ true → AreOnce None xs
  once_if_answered xs false answer is = cc
  once_if_answered xs true answer is = once_in_turn xs (λ k d high. sym (answer k d high))

pub rising_once : (xs : List Item) (b : Bool)
    → IsAllAdjacentAnswer (λ (x y : Item) (c : Bool). c ≡ int_lt x.value y.value) xs b → b ≡ true → AreOnce None xs
rising_once = once_if_answered int_lt rising

-- if one of them doesn't, there are two
pub some_answered : (r : ℤ → ℤ → Bool) (xs : List Item) (b : Bool)
    → IsAllAdjacentAnswer (λ (x y : Item) (c : Bool). c ≡ r x.value y.value) xs b → b ≡ false → 0 < length xs
some_answered r xs true answer is = cc
some_answered r xs false answer is = let low = answer.1 in omega (arith, low)

pub falling_once : (xs : List Item) (b : Bool)
    → IsAllAdjacentAnswer (λ (x y : Item) (c : Bool). c ≡ int_lt y.value x.value) xs b → b ≡ true → AreOnce None xs
falling_once = once_if_answered (λ a b. int_lt b a) falling

-- ---- items that have firsts

pub some_firsts : (xs : List Item) → 0 < length xs → 0 < length (firsts [] xs)
some_firsts [] h = absurd (omega (arith, h))
some_firsts (x ∷ xs) h = omega arith

pub some_before : (xs ys : List Item) → firsts [] ys ≡ firsts [] xs → 0 < length ys → 0 < length xs
some_before [] ys same h =
    let some_now = some_firsts ys h in let e = ap length same in absurd (omega (arith, some_now, e))
some_before (x ∷ xs) ys same h = omega arith
