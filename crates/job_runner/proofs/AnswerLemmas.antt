-- The answers of several jobs.
use Rattle.std.proofs.Common.{◌≡◌, ℕ, zero, suc, ◌+◌, ◌<◌, List, [], ◌∷◌, ◌++◌, length, get_or, subst, sym, arith}
use Rattle.job_runner.specs.Runs.{AreAnswers}

module _ {A : Type 0} (is_answer : ℕ → A → Type 0) where
  pub more_answers : (job : ℕ) (xs : List A) (a : A) → AreAnswers is_answer job xs → is_answer (job + length xs) a
      → AreAnswers is_answer job (xs ++ a ∷ [])
  more_answers job [] a h e = (subst (λ j. is_answer j a) (let e : job + 0 ≡ job = omega arith in e) e, tt)
  more_answers job (b ∷ xs) a h e = (
    h.0,
    more_answers (suc job) xs a h.1 (subst (λ j. is_answer j a)
        (let e : job + suc (length xs) ≡ suc job + length xs = omega arith in e) e),
  )

  answer_from : (first : ℕ) (xs : List A) (k : ℕ) (a : A) → AreAnswers is_answer first xs → k < length xs
      → a ≡ get_or xs k a → is_answer (first + k) a
  answer_from first [] k a h low e = absurd (omega arith)
  answer_from first (x ∷ xs) zero a h low e =
      subst (λ j. is_answer j a) (let n : first ≡ first + 0 = omega arith in n)
      (subst (λ b. is_answer first b) (sym e) h.0)
  answer_from first (x ∷ xs) (suc k) a h low e =
      subst (λ j. is_answer j a) (let n : suc first + k ≡ first + suc k = omega arith in n)
      (answer_from (suc first) xs k a h.1 (omega arith) e)

  -- the answer with this number
  pub answer_got : (xs : List A) (k : ℕ) (a : A) → AreAnswers is_answer 0 xs → k < length xs → a ≡ get_or xs k a
      → is_answer k a
  answer_got xs k a h low e = subst (λ j. is_answer j a) (let n : 0 + k ≡ k = omega arith in n)
      (answer_from 0 xs k a h low e)
