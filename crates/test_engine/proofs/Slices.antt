-- Parts of a list side by side.
use Rattle.std.proofs.Common.{◌≡◌, ℕ, ℤ, zero, suc, ◌+◌, ◌-◌, ◌<◌, List, [], ◌∷◌, ◌++◌, take, drop, length, ap, sym}
use Rattle.std.proofs.Common.{◌∙◌, refl, arith}
use Rattle.std.proofs.Math.Seq.{take-length}
use Rattle.test_engine.specs.Lists.{slice}

abbrev nil : List ℤ
nil = []

take_nil : (k : ℕ) → take k nil ≡ nil
take_nil zero = refl
take_nil (suc k) = refl

drop_nil : (k : ℕ) → drop k nil ≡ nil
drop_nil zero = refl
drop_nil (suc k) = refl

take_two : (a b : ℕ) (xs : List ℤ) → take a xs ++ take b (drop a xs) ≡ take (a + b) xs
take_two zero b xs = ap (λ k. take k xs) (let e : b ≡ 0 + b = omega arith in e)
take_two (suc a) b [] = take_nil b ∙ sym (take_nil (suc a + b))
take_two (suc a) b (x ∷ xs) = ap (λ l. x ∷ l) (take_two a b xs)
    ∙ ap (λ k. take k (x ∷ xs)) (let e : suc (a + b) ≡ suc a + b = omega arith in e)

drop_two : (a b : ℕ) (xs : List ℤ) → drop a (drop b xs) ≡ drop (b + a) xs
drop_two a zero xs = ap (λ k. drop k xs) (let e : a ≡ 0 + a = omega arith in e)
drop_two a (suc b) [] = drop_nil a ∙ sym (drop_nil (suc b + a))
drop_two a (suc b) (x ∷ xs) = drop_two a b xs
    ∙ ap (λ k. drop k (x ∷ xs)) (let e : suc (b + a) ≡ suc b + a = omega arith in e)

pub slices_join : (xs : List ℤ) (from middle to : ℕ) → from < middle → middle < to
    → slice xs from middle ++ slice xs middle to ≡ slice xs from to
slices_join xs from middle to l h =
    ap (λ d. slice xs from middle ++ take (to - middle) d)
    (ap (λ k. drop k xs) (let e : middle ≡ from + (middle - from) = omega arith in e)
    ∙ sym (drop_two (middle - from) from xs))
    ∙ take_two (middle - from) (to - middle) (drop from xs)
    ∙ ap (λ k. take k (drop from xs)) (let e : (middle - from) + (to - middle) ≡ to - from = omega arith in e)

pub whole_slice : (xs : List ℤ) → slice xs 0 (length xs) ≡ xs
whole_slice xs = ap (λ k. take k xs) (let e : length xs - 0 ≡ length xs = omega arith in e) ∙ take-length xs
