-- Loops over the answers of a part, and over the jobs that a job names.
use Rattle.std.proofs.Common.{◌≡◌, ℕ, zero, suc, ◌+◌, ◌<◌, ◌≤◌, Bool, true, false, List, [], ◌∷◌, ◌++◌, length, Option}
use Rattle.std.proofs.Common.{Some, None, refl, sym, ap, ◌∙◌, arith, get_or, take, drop}
use Rattle.std.specs.Prelude.{◌==◌, ◌&&◌, if◌then◌else◌, nat_lt, slice_index_or}
use Rattle.std.proofs.Math.Seq.{drop-cons}
use Rattle.std.proofs.lemmas.List.{length-take-le, take_more}
use Rattle.std.proofs.lemmas.Grind.{common_steps}
use Rattle.trace.specs.declared.item.Fault.{Fault}
use Rattle.job_language.specs.declared.job.Job.{Job}
use Rattle.job_language.specs.declared.job.JobStage.{JobStage}
use Rattle.job_language.specs.Jobs.{AbstractJob, AbstractTerminal, job_stage_of, job_of, job_stages_of, jobs_of}
use Rattle.job_meaning.specs.declared.answer.Answer.{Answer}
use Rattle.job_meaning.specs.declared.answer.Answer.TheVariants as answer
use Rattle.job_meaning.specs.FileAnswers.{NamedAnswer, found, found_later}
use Rattle.job_meaning.specs.Names.{same_name}
use Rattle.report_merge.specs.Possible.{can_answer, impossible_below, later_can, named_answers, stage_can, terminal_can}

-- the fault of a stage that is there
pub at_stage : (ss : List JobStage) (d : AbstractTerminal) (n k : ℕ) (f : Fault) (s : JobStage) → k < length ss
    → later_can (job_stages_of ss) d n k f ≡ stage_can (job_stage_of (slice_index_or ss k s)) n f
at_stage [] d n k f s h = absurd (omega (arith, h))
at_stage (g ∷ ss) d n zero f s h = refl
at_stage (g ∷ ss) d n (suc k) f s h = at_stage ss d n k f s (omega (arith, h))

not_zero : (k : ℕ) → (suc k == 0) ≡ false
not_zero k = grind (arith, common_steps)

both_more : (a b : ℕ) → (a == b) ≡ (suc a == suc b)
both_more a b = grind (arith, common_steps)

-- and after the last one
pub past_stages : (ss : List JobStage) (d : AbstractTerminal) (n k : ℕ) (f : Fault) → length ss ≤ k
    → later_can (job_stages_of ss) d n k f ≡ ((k == length ss) && terminal_can d n f)
past_stages [] d n zero f h = refl
past_stages [] d n (suc k) f h = sym (ap (λ (t : Bool). t && terminal_can d n f) (not_zero k))
past_stages (g ∷ ss) d n zero f h = absurd (omega (arith, h))
past_stages (g ∷ ss) d n (suc k) f h = past_stages ss d n k f (omega (arith, h))
    ∙ ap (λ (t : Bool). t && terminal_can d n f) (both_more k (length ss))

pub within : (a b : ℕ) → true ≡ nat_lt a b → a < b
within a b h = grind (arith, common_steps)

pub past : (a b : ℕ) → false ≡ nat_lt a b → b ≤ a
past a b h = grind (arith, common_steps)

pub equal_true : (a b : ℕ) → a ≡ b → (a == b) ≡ true
equal_true a b h = grind (arith, common_steps)

equal_if : (a b : ℕ) → (a == b) ≡ true → a ≡ b
equal_if a b h = grind (arith, common_steps)

pub unequal : (a b : ℕ) (x : Bool) → (a ≡ b → ⊥) → (a == b) ≡ ((a == b) && x)
unequal a b x h = by_test (a == b) refl
  where
    by_test : (t : Bool) → (a == b) ≡ t → (a == b) ≡ ((a == b) && x)
    by_test true e = absurd (h (equal_if a b e))
    by_test false e = e ∙ sym (ap (λ (t : Bool). t && x) e)

-- ---- the jobs that are named

-- what was found, with its place counted from n places before
abbrev pub found_after : ℕ → Option (ℕ × Answer) → Option (ℕ × Answer)
found_after n None = None
found_after n (Some found) = Some (n + found.0, found.1)

after_zero : (o : Option (ℕ × Answer)) → found_after 0 o ≡ o
after_zero None = refl
after_zero (Some (i, a)) = let e : 0 + i ≡ i = omega arith in ap (λ (j : ℕ). Some (j, a)) e

after_later : (n : ℕ) (o : Option (ℕ × Answer)) → found_after n (found_later o) ≡ found_after (n + 1) o
after_later n None = refl
after_later n (Some found) = let e : n + suc found.0 ≡ n + 1 + found.0 = omega arith in
    ap (λ (i : ℕ). Some (i, found.1)) e

pub first_found : (js : List Job) (ls : List Answer) (name : List ℕ)
    → found_after 0 (found (named_answers (jobs_of (drop 0 js)) (drop 0 ls)) name)
    ≡ found (named_answers (jobs_of js) ls) name
first_found js ls name = after_zero (found (named_answers (jobs_of js) ls) name)

module _ (js : List Job) (ls : List Answer) (n : ℕ) (job : Job) (name : List ℕ) (few : n < length js)
    (paired : length js ≤ length ls) (job_is : job ≡ get_or js n job) where
  abbrev a : Answer
  a = get_or ls n (answer.Truth true)

  jobs_left : drop n js ≡ job ∷ drop (n + 1) js
  jobs_left = let k : suc n ≡ n + 1 = omega arith in drop-cons js n job few ∙ (λ i. sym job_is i ∷ drop (k i) js)

  answers_left : drop n ls ≡ a ∷ drop (n + 1) ls
  answers_left = let k : suc n ≡ n + 1 = omega arith in
      drop-cons ls n (answer.Truth true) (omega (arith, few, paired)) ∙ (λ i. a ∷ drop (k i) ls)

  abbrev here : Bool → Option (ℕ × Answer)
  here t = found_after n (if t then Some (0, a)
      else found_later (found (named_answers (jobs_of (drop (n + 1) js)) (drop (n + 1) ls)) name))

  left_is : found_after n (found (named_answers (jobs_of (drop n js)) (drop n ls)) name)
      ≡ here (same_name job.name name)
  left_is = λ i. found_after n (found (named_answers (jobs_of (jobs_left i)) (answers_left i)) name)

  -- one job more doesn't have the name
  pub other_job : (o : Option (ℕ × Answer)) → false ≡ same_name job.name name
      → found_after n (found (named_answers (jobs_of (drop n js)) (drop n ls)) name) ≡ o
      → found_after (n + 1) (found (named_answers (jobs_of (drop (n + 1) js)) (drop (n + 1) ls)) name) ≡ o
  other_job o other is = sym (after_later n (found (named_answers (jobs_of (drop (n + 1) js)) (drop (n + 1) ls)) name))
      ∙ ap here other ∙ sym left_is ∙ is

-- ---- the answers of a part

named_more : (js : List Job) (ls : List Answer) (n : ℕ) (job : Job) (a : Answer) → n < length js → n < length ls
    → job ≡ get_or js n job → a ≡ get_or ls n a
    → named_answers (jobs_of (take (n + 1) js)) (take (n + 1) ls)
    ≡ named_answers (jobs_of (take n js)) (take n ls) ++ record { name = job.name; answer = a } ∷ []
named_more js ls n job a few there job_is answer_is =
    (λ i. named_answers (jobs_of (jobs_done i)) (answers_done i)) ∙ last_more (take n js) (take n ls) same
  where
    jobs_done : take (n + 1) js ≡ take n js ++ job ∷ []
    jobs_done = take_more js n job few ∙ ap (λ (x : Job). take n js ++ x ∷ []) (sym job_is)

    answers_done : take (n + 1) ls ≡ take n ls ++ a ∷ []
    answers_done = take_more ls n a there ∙ ap (λ (x : Answer). take n ls ++ x ∷ []) (sym answer_is)

    same : length (take n js) ≡ length (take n ls)
    same = length-take-le n js (omega (arith, few)) ∙ sym (length-take-le n ls (omega (arith, there)))

    last_more : (ks : List Job) (bs : List Answer) → length ks ≡ length bs
        → named_answers (jobs_of (ks ++ job ∷ [])) (bs ++ a ∷ [])
        ≡ named_answers (jobs_of ks) bs ++ record { name = job.name; answer = a } ∷ []
    last_more [] [] e = refl
    last_more [] (b ∷ bs) e = absurd (omega (arith, e))
    last_more (k ∷ ks) [] e = absurd (omega (arith, e))
    last_more (k ∷ ks) (b ∷ bs) e = ap (λ (xs : List NamedAnswer). record { name = k.name; answer = b } ∷ xs)
        (last_more ks bs (omega (arith, e)))

-- there are fewer answers than jobs
pub no_more_answers : (jobs : List AbstractJob) (n rows : ℕ) (before : List NamedAnswer) (ls : List Answer)
    (o : Option ℕ) → ls ≡ [] → impossible_below n before jobs rows ls ≡ o → None ≡ o
no_more_answers jobs n rows before ls o none is =
    sym (none_left jobs) ∙ sym (ap (impossible_below n before jobs rows) none) ∙ is
  where
    none_left : (jobs : List AbstractJob) → impossible_below n before jobs rows [] ≡ None
    none_left [] = refl
    none_left (job ∷ jobs) = refl

module _ (js : List Job) (ls : List Answer) (n rows : ℕ) (job : Job) (a : Answer) (few : n < length js)
    (there : n < length ls) (job_is : job ≡ get_or js n job) (answer_is : a ≡ get_or ls n a) where
  abbrev before : List NamedAnswer
  before = named_answers (jobs_of (take n js)) (take n ls)

  abbrev after_test : Bool → Option ℕ
  after_test t = if t then impossible_below (n + 1) (before ++ record { name = job.name; answer = a } ∷ [])
      (jobs_of (drop (n + 1) js)) rows (drop (n + 1) ls) else Some n

  so_far : impossible_below n before (jobs_of (drop n js)) rows (drop n ls)
      ≡ after_test (can_answer before (job_of job) rows a)
  so_far =
      let k : suc n ≡ n + 1 = omega arith in
      let jobs_left : drop n js ≡ job ∷ drop (n + 1) js =
      drop-cons js n job few ∙ (λ i. sym job_is i ∷ drop (k i) js) in
      let answers_left : drop n ls ≡ a ∷ drop (n + 1) ls =
      drop-cons ls n a there ∙ (λ i. sym answer_is i ∷ drop (k i) ls) in
      λ i. impossible_below n before (jobs_of (jobs_left i)) rows (answers_left i)

  -- one answer more can be its job's
  pub next_answer : (o : Option ℕ) → can_answer before (job_of job) rows a ≡ true
      → impossible_below n before (jobs_of (drop n js)) rows (drop n ls) ≡ o
      → impossible_below (n + 1) (named_answers (jobs_of (take (n + 1) js)) (take (n + 1) ls))
      (jobs_of (drop (n + 1) js)) rows (drop (n + 1) ls) ≡ o
  next_answer o can is =
      ap (λ (xs : List NamedAnswer). impossible_below (n + 1) xs (jobs_of (drop (n + 1) js)) rows (drop (n + 1) ls))
      (named_more js ls n job a few there job_is answer_is)
      ∙ sym (ap after_test can) ∙ sym so_far ∙ is
