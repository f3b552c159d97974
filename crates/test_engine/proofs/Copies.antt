-- Answers that are lists, one by one and all together.
use Rattle.std.proofs.Common.{◌≡◌, ℕ, ℤ, suc, ◌+◌, List, [], ◌∷◌, length, map, slice_index_or, ap, sym, ◌∙◌, refl}
use Rattle.std.proofs.Common.{arith}
use Rattle.std.specs.Prelude.{Result, Ok, Err, IfOk}
use Rattle.job_runner.specs.Runs.{AreAnswers}

pub all_are : {A : Type 0} (items : A → List ℤ) (numbers : ℕ → List ℤ) (job : ℕ) (bs : List A) (xs : List (List ℤ))
    → length bs ≡ length xs → ((j : ℕ) → slice_index_or xs j [] ≡ numbers (job + j))
    → AreAnswers (λ j a. items a ≡ numbers j) job bs → map items bs ≡ xs
all_are items numbers job [] [] l n h = refl
all_are items numbers job [] (x ∷ xs) l n h = absurd (omega arith)
all_are items numbers job (a ∷ bs) [] l n h = absurd (omega arith)
all_are items numbers job (a ∷ bs) (x ∷ xs) l n h =
    ap (λ y. y ∷ map items bs) (h.0 ∙ ap numbers (let e : job ≡ job + 0 = omega arith in e) ∙ sym (n 0))
    ∙ ap (λ ys. x ∷ ys) (all_are items numbers (suc job) bs xs (let e : length bs ≡ length xs = omega arith in e)
    (λ j. n (suc j) ∙ ap numbers (let e : job + suc j ≡ suc job + j = omega arith in e)) h.1)

map_length : {A B : Type 0} (f : A → B) (xs : List A) → length (map f xs) ≡ length xs
map_length f [] = refl
map_length f (x ∷ xs) = ap suc (map_length f xs)

pub copies_are : {A X F : Type 0} (items : A → List ℤ) (list : X → List A) (numbers : ℕ → List ℤ) (jobs : ℕ)
    (lists : List A) (r : Result X F) → length lists ≡ jobs
    → ((j : ℕ) → slice_index_or (map items lists) j [] ≡ numbers j)
    → IfOk r (λ v. length (list v) ≡ jobs) → IfOk r (λ v. AreAnswers (λ j a. items a ≡ numbers j) 0 (list v))
    → IfOk r (λ v. map items (list v) ≡ map items lists)
copies_are items list numbers jobs lists (Ok v) all n l h =
    all_are items numbers 0 (list v) (map items lists) (let e = map_length items lists in omega arith)
    (λ j. n j ∙ ap numbers (let e : j ≡ 0 + j = omega arith in e)) h
copies_are items list numbers jobs lists (Err e) all n l h = tt
