-- What a change of one entry does to the numbers of arrivals that are held.
use Rattle.std.proofs.Common.{◌≡◌, ◌≢◌, ◌<◌, ◌≤◌, ◌∷◌, [], length, take, get_or, ne_eqb, ℕ, ◌+◌, cond, ◌&&◌, Bool, true}
use Rattle.std.proofs.Common.{false, List, Option, unwrap_or, eqb, sym, ap, ◌∙◌, arith, eqb-true, true≢false, refl}
use Rattle.std.specs.Map.{lookup}
use Rattle.std.specs.Prelude.{Result, Ok, Err, IsOk, OnOk, OnErr}
use Rattle.completion_core.specs.Book.{same_key, held_in}
use Rattle.completion_core.specs.Holdings.{place, each_place}
use Rattle.completion_core.specs.Legal.{only_at, count}
use Rattle.std.proofs.lemmas.List.{take_more}
use Rattle.completion_core.proofs.TotalLemmas.{total-append, here, at_here}
use Rattle.completion_core.proofs.BagLemmas.{count-take-more, count-take-le}

-- the parts of a conjunction
both : (a b : Bool) → (a && b) ≡ true → (a ≡ true) × (b ≡ true)
both true true e = (refl, refl)
both true false e = absurd (true≢false (sym e))
both false b e = absurd (true≢false (sym e))

pub by_bool : (b : Bool) (F : Type 0) → (b ≡ true → F) → (b ≡ false → F) → F
by_bool true F p q = p refl
by_bool false F p q = q refl

pub same_key-true : (node actor i a : ℕ) → same_key (node, actor) (i, a) ≡ true → (node ≡ i) × (actor ≡ a)
same_key-true node actor i a e = let p = both (eqb node i) (eqb actor a) e in
    (eqb-true node i p.0, eqb-true actor a p.1)

abbrev Entries : Type 0
Entries = List ((ℕ × ℕ) × ℕ)

-- fs has w at the key, and what es has at every other
abbrev pub Writes : ℕ → ℕ → Option ℕ → Entries → Entries → Type 0
Writes actor node w es fs = (q : ℕ × ℕ) → lookup (same_key q) fs
    ≡ cond (same_key (node, actor) q) w (lookup (same_key q) es)

pub held_in-writes : (actor node : ℕ) (w : Option ℕ) (es fs : Entries) → Writes actor node w es fs → (a i : ℕ)
    → held_in fs a i ≡ cond (same_key (node, actor) (i, a)) (unwrap_or w 0) (held_in es a i)
held_in-writes actor node w es fs h a i =
    by_bool (same_key (node, actor) (i, a)) _
    (λ e. ap (λ o. unwrap_or o 0) (h (i, a)) ∙ ap (λ b. unwrap_or (cond b w (lookup (same_key (i, a)) es)) 0) e
    ∙ ap (λ b. cond b (unwrap_or w 0) (held_in es a i)) (sym e))
    (λ e. ap (λ o. unwrap_or o 0) (h (i, a)) ∙ ap (λ b. unwrap_or (cond b w (lookup (same_key (i, a)) es)) 0) e
    ∙ ap (λ b. cond b (unwrap_or w 0) (held_in es a i)) (sym e))

pub puts : (actor node k n : ℕ) (w : Option ℕ) (es fs : Entries) → Writes actor node w es fs → unwrap_or w 0 ≡ n
    → n ≡ held_in es actor node + k → (a i : ℕ)
    → held_in fs a i ≡ held_in es a i + place actor node k a i
puts actor node k n w es fs h is sum a i =
    let r = held_in-writes actor node w es fs h a i in
    by_bool (same_key (node, actor) (i, a)) _
    (λ e. let keys = same_key-true node actor i a e in
    let left : held_in fs a i ≡ n = r ∙ ap (λ b. cond b (unwrap_or w 0) (held_in es a i)) e ∙ is in
    let right : place actor node k a i ≡ k = ap (λ b. cond b k 0) e in
    let here : held_in es actor node ≡ held_in es a i =
    ap (λ j. held_in es actor j) keys.0 ∙ ap (λ b. held_in es b i) keys.1 in
    omega arith)
    (λ e. let left : held_in fs a i ≡ held_in es a i = r ∙ ap (λ b. cond b (unwrap_or w 0) (held_in es a i)) e in
    let right : place actor node k a i ≡ 0 = ap (λ b. cond b k 0) e in
    omega arith)

pub takes : (actor node k n : ℕ) (w : Option ℕ) (es fs : Entries) → Writes actor node w es fs → unwrap_or w 0 ≡ n
    → n + k ≡ held_in es actor node → (a i : ℕ)
    → held_in fs a i + place actor node k a i ≡ held_in es a i
takes actor node k n w es fs h is sum a i =
    let r = held_in-writes actor node w es fs h a i in
    by_bool (same_key (node, actor) (i, a)) _
    (λ e. let keys = same_key-true node actor i a e in
    let left : held_in fs a i ≡ n = r ∙ ap (λ b. cond b (unwrap_or w 0) (held_in es a i)) e ∙ is in
    let right : place actor node k a i ≡ k = ap (λ b. cond b k 0) e in
    let here : held_in es actor node ≡ held_in es a i =
    ap (λ j. held_in es actor j) keys.0 ∙ ap (λ b. held_in es b i) keys.1 in
    omega arith)
    (λ e. let left : held_in fs a i ≡ held_in es a i = r ∙ ap (λ b. cond b (unwrap_or w 0) (held_in es a i)) e in
    let right : place actor node k a i ≡ 0 = ap (λ b. cond b k 0) e in
    omega arith)

-- a call that is Ok, and one that would need what isn't so to be an error
pub on_ok : {T E P : Type 0} (r : Result T E) → IsOk r → OnOk r P → P
on_ok (Ok v) is h = h
on_ok (Err e) is h = absurd (true≢false (sym is))

pub on_ok_else : {T E P Q : Type 0} (r : Result T E) → OnOk r P → OnErr r Q → (Q → ⊥) → P
on_ok_else (Ok v) h q no_q = h
on_ok_else (Err e) h q no_q = absurd (no_q q)

-- one place more, of the nodes of a list
pub each_place-more : (actor : ℕ) (xs : List ℕ) (p : ℕ) → p < length xs → (a i : ℕ)
    → each_place actor (take (p + 1) xs) a i ≡ each_place actor (take p xs) a i + place actor (get_or xs p 0) 1 a i
each_place-more actor xs p h a i =
    ap (λ l. each_place actor l a i) (take_more xs p 0 h)
    ∙ (let e = total-append (λ node. place actor node 1 a i) (take p xs) (get_or xs p 0 ∷ []) in omega arith)

abbrev one_if : Bool → ℕ
one_if b = cond b 1 0

and_true : (b : Bool) → (b && true) ≡ b
and_true true = refl
and_true false = refl

and_false : (b : Bool) → (b && false) ≡ false
and_false true = refl
and_false false = refl

place_self : (actor node i : ℕ) → place actor node 1 actor i ≡ only_at i 1 node
place_self actor node i = ap (λ b. one_if (eqb node i && b)) (here actor) ∙ ap one_if (and_true (eqb node i))

pub each_place-self : (actor : ℕ) (xs : List ℕ) (i : ℕ) → each_place actor xs actor i ≡ count i xs
each_place-self actor [] i = refl
each_place-self actor (x ∷ xs) i = let e = place_self actor x i in let r = each_place-self actor xs i in omega arith

place_other : (actor node a i : ℕ) → a ≢ actor → place actor node 1 a i ≡ 0
place_other actor node a i n = ap (λ b. one_if (eqb node i && b)) (ne_eqb actor a (λ e. n (sym e)))
    ∙ ap one_if (and_false (eqb node i))

pub each_place-other : (actor : ℕ) (xs : List ℕ) (a i : ℕ) → a ≢ actor → each_place actor xs a i ≡ 0
each_place-other actor [] a i n = refl
each_place-other actor (x ∷ xs) a i n = let e = place_other actor x a i n in let r = each_place-other actor xs a i n in
    omega arith

-- the actor's own part of the nodes so far is no more than its part of all
pub each_place-next : (actor : ℕ) (xs : List ℕ) (p : ℕ) → p < length xs
    → count (get_or xs p 0) (take p xs) + 1 ≤ count (get_or xs p 0) xs
each_place-next actor xs p h = let a = count-take-more (get_or xs p 0) xs p h in
    let b = count-take-le (get_or xs p 0) (p + 1) xs in let c = at_here (get_or xs p 0) 1 in omega arith
