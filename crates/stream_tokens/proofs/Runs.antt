-- The bytes at the front of a list that pass a test.
use Rattle.std.proofs.Common.{◌≡◌, ℕ, zero, suc, ◌+◌, ◌≤◌, Bool, true, false, ◌&&◌, cond, List, [], ◌∷◌, length, take}
use Rattle.std.proofs.Common.{refl, ap, ◌∙◌, arith}
use Rattle.std.specs.List.{prefix_len, list_all}

pub and_left : (a b : Bool) → (a && b) ≡ true → a ≡ true
and_left true b h = refl
and_left false b h = h

pub and_right : (a b : Bool) → (a && b) ≡ true → b ≡ true
and_right true b h = h
and_right false b h = absurd (let e : false ≡ true = h in cc)

-- one more byte that passes, and one that doesn't
pub run_passed : (p : ℕ → Bool) (x : ℕ) (xs : List ℕ) → p x ≡ true → prefix_len p (x ∷ xs) ≡ suc (prefix_len p xs)
run_passed p x xs h = ap (λ b. cond b (1 + prefix_len p xs) 0) h ∙ omega arith

pub run_stopped : (p : ℕ → Bool) (x : ℕ) (xs : List ℕ) → p x ≡ false → prefix_len p (x ∷ xs) ≡ 0
run_stopped p x xs h = ap (λ b. cond b (1 + prefix_len p xs) 0) h

pub and_true : (a b : Bool) → a ≡ true → b ≡ true → (a && b) ≡ true
and_true true b g h = h
and_true false b g h = g

passes_more : (p : ℕ → Bool) (x : ℕ) (xs : List ℕ) (b : Bool) → p x ≡ b → list_all p (take (prefix_len p xs) xs) ≡ true
    → list_all p (take (prefix_len p (x ∷ xs)) (x ∷ xs)) ≡ true
passes_more p x xs true h all = ap (λ n. list_all p (take n (x ∷ xs))) (run_passed p x xs h) ∙ and_true (p x) _ h all
passes_more p x xs false h all = ap (λ n. list_all p (take n (x ∷ xs))) (run_stopped p x xs h)

pub passes_run : (p : ℕ → Bool) (xs : List ℕ) → list_all p (take (prefix_len p xs) xs) ≡ true
passes_run p [] = refl
passes_run p (x ∷ xs) = passes_more p x xs (p x) refl (passes_run p xs)

pub longest_run : (p : ℕ → Bool) (xs : List ℕ) (n : ℕ) → n ≤ length xs → list_all p (take n xs) ≡ true
    → n ≤ prefix_len p xs
longest_run p xs zero h a = omega arith
longest_run p [] (suc n) h a = absurd (omega arith)
longest_run p (x ∷ xs) (suc n) h a =
    let e = run_passed p x xs (and_left (p x) _ a) in
    let k = longest_run p xs n (omega arith) (and_right (p x) _ a) in
    omega (arith, e, k)
