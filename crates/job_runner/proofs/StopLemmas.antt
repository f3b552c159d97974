-- Which word belongs to a leg.
use Rattle.std.proofs.Common.{◌≡◌, ℕ, zero, suc, ◌+◌, ◌-◌, ◌<◌, ◌≤◌, Bool, true, false, cond, nat_lt, le-ltb, lt-ltb}
use Rattle.std.proofs.Common.{sym, refl, ap, ◌∙◌, subst, arith}
use Rattle.early_stop.specs.Decisive.{IsDecisive}
use Rattle.job_runner.specs.Runs.{DecidesIn, RunSpec, first_word, pair_at, pair_from, words_from}

pick_first : (b : Bool) (p q : ℕ × ℕ) → b ≡ true → cond b p q ≡ p
pick_first true p q h = refl
pick_first false p q h = absurd (grind arith)

pick_second : (b : Bool) (p q : ℕ × ℕ) → b ≡ false → cond b p q ≡ q
pick_second true p q h = absurd (grind arith)
pick_second false p q h = refl

there : (last : ℕ → ℕ) (job j n k : ℕ) → k ≤ last (job + j)
    → pair_from last job (j + suc n) (words_from last job j + k) ≡ (job + j, k)
there last job zero n k h =
    let e : job + 0 ≡ job = omega arith in
    let z : 0 + k ≡ k = omega arith in
    let m : 0 + suc n ≡ suc n = omega arith in
    let low : k ≤ last job = subst (λ j. k ≤ last j) e h in
    (λ i. pair_from last job (m i) (z i))
    ∙ pick_second (nat_lt (last job) k) (pair_from last (suc job) n (k - suc (last job))) (job, k)
    (le-ltb (last job) k low) ∙ (λ i. (sym e i, k))
there last job (suc j) n k h =
    let w : ℕ = words_from last (suc job) j in
    let e : suc job + j ≡ job + suc j = omega arith in
    let m : suc j + suc n ≡ suc (j + suc n) = omega arith in
    let z : suc (last job) + w + k - suc (last job) ≡ w + k = omega arith in
    let high : last job < suc (last job) + w + k = omega arith in
    let low : k ≤ last (suc job + j) = subst (λ i. k ≤ last i) (sym e) h in
    (λ i. pair_from last job (m i) (suc (last job) + w + k))
    ∙ pick_first (nat_lt (last job) (suc (last job) + w + k))
    (pair_from last (suc job) (j + suc n) (suc (last job) + w + k - suc (last job))) (job, suc (last job) + w + k)
    (lt-ltb (last job) (suc (last job) + w + k) high)
    ∙ ap (pair_from last (suc job) (j + suc n)) z
    ∙ there last (suc job) j n k low
    ∙ (λ i. (e i, k))

-- the word of a leg
pub word_at : (last : ℕ → ℕ) (jobs job leg : ℕ) → job < jobs → leg ≤ last job
    → pair_at last jobs (first_word last job + leg) ≡ (job, leg)
word_at last jobs job leg h k =
    let e : jobs ≡ job + suc (jobs - suc job) = omega arith in
    let z : 0 + job ≡ job = omega arith in
    ap (λ n. pair_from last 0 n (first_word last job + leg)) e
    ∙ there last 0 job (jobs - suc job) leg (subst (λ j. leg ≤ last j) (sym z) k) ∙ (λ i. (z i, leg))

words_more : (last : ℕ → ℕ) (job n : ℕ) → words_from last job (suc n) ≡ words_from last job n + suc (last (job + n))
words_more last job zero = let e : job + 0 ≡ job = omega arith in
    let s : suc (last job) + 0 ≡ 0 + suc (last job) = omega arith in s ∙ ap (λ j. 0 + suc (last j)) (sym e)
words_more last job (suc n) =
    let r = words_more last (suc job) n in
    let e : suc job + n ≡ job + suc n = omega arith in
    let q : last (suc job + n) ≡ last (job + suc n) = ap last e in
    omega arith

-- the first word of the next job
pub next_word : (last : ℕ → ℕ) (job : ℕ) → first_word last (suc job) ≡ first_word last job + suc (last job)
next_word last job = words_more last 0 job
    ∙ (let z : 0 + job ≡ job = omega arith in ap (λ j. words_from last 0 job + suc (last j)) z)

module _ {O P S A G : Type 0} (run : RunSpec O P S A G) where
  -- a place of the word's leg is one of the leg that has the word
  pub decisive_there : (p : ℕ × ℕ) (job leg c : ℕ) → p ≡ (job, leg)
      → IsDecisive (run.gives p.0 p.1) (run.goes_over p.0 p.1) c
      → IsDecisive (run.gives job leg) (run.goes_over job leg) c
  decisive_there p job leg c e h = subst (λ (q : ℕ × ℕ). IsDecisive (run.gives q.0 q.1) (run.goes_over q.0 q.1) c) e h

  pub decisive_here : (p : ℕ × ℕ) (job leg c : ℕ) → p ≡ (job, leg) → DecidesIn run job leg c
      → IsDecisive (run.gives p.0 p.1) (run.goes_over p.0 p.1) c
  decisive_here p job leg c e h = subst (λ (q : ℕ × ℕ). IsDecisive (run.gives q.0 q.1) (run.goes_over q.0 q.1) c)
      (sym e) (λ _. h)

  -- a place by other names for job and leg
  pub decides_for : (j j' k k' c : ℕ) → j ≡ j' → k ≡ k' → DecidesIn run j k c → DecidesIn run j' k' c
  decides_for j j' k k' c ej ek h = subst (λ (i : ℕ). DecidesIn run i k' c) ej
      (subst (λ (i : ℕ). DecidesIn run j i c) ek h)
