-- Loops over answers and over parts.
use Rattle.std.proofs.Common.{◌≡◌, ℕ, suc, ◌+◌, ◌<◌, ◌≤◌, true, false, List, [], ◌∷◌, ◌++◌, length, Option, Some, None}
use Rattle.std.proofs.Common.{Result, Ok, Err, IfOk, IfErr, refl, sym, ap, ◌∙◌, arith, get_or, take, drop}
use Rattle.std.proofs.Math.Seq.{drop-cons}
use Rattle.std.proofs.lemmas.List.{drop_all, length-drop, take_more}
use Rattle.job_language.specs.declared.job.Job.{Job}
use Rattle.job_language.specs.declared.job.PlainSource.{PlainSource}
use Rattle.job_language.specs.Jobs.{AbstractJob, job_of, jobs_of, sources_of}
use Rattle.job_meaning.specs.declared.answer.Answer.{Answer}
use Rattle.report_merge.specs.declared.part.PartAnswers.{PartAnswers}
use Rattle.report_merge.specs.Mergeable.{cause_below, cause_or, is_single, unmergeable_below}
use Rattle.report_merge.specs.declared.unmergeable.Unmergeable.{Unmergeable}
use Rattle.report_merge.specs.Merging.{Part, all_as_one, answers_beside, both, finished, merged, part_of, rows_in}
use Rattle.report_merge.specs.Merging.{with_fallbacks}

-- answers, and then others, if there are these
abbrev pub onto : List Answer → Option (List Answer) → Option (List Answer)
onto ls None = None
onto ls (Some bs) = Some (ls ++ bs)

-- what the parts so far as one, if there are some, give with those that are left
abbrev pub merged_on : List AbstractJob → Option PartAnswers → List Part → Option (List Answer)
merged_on jobs None ps = merged jobs ps
merged_on jobs (Some p) ps = finished jobs (all_as_one jobs (Some (part_of p)) ps)

-- how many rows the parts so far have, and those that are left
abbrev pub rows_on : Option PartAnswers → List Part → ℕ
rows_on None ps = rows_in ps
rows_on (Some p) ps = p.rows + rows_in ps

-- before the first part all are left
abbrev pub AreLeft : Option PartAnswers → List Part → List Part → Type 0
AreLeft None ps all = ps ≡ all
AreLeft (Some p) ps all = Unit {0}

-- ---- sources

pub is_one : (ss : List PlainSource) → 1 ≤ length ss → length ss < 2 → true ≡ is_single (sources_of ss)
is_one [] h k = absurd (omega (arith, h))
is_one (s ∷ []) h k = refl
is_one (s ∷ t ∷ ss) h k = absurd (omega (arith, k))

pub are_more : (ss : List PlainSource) → 2 ≤ length ss → false ≡ is_single (sources_of ss)
are_more [] h = absurd (omega (arith, h))
are_more (s ∷ []) h = absurd (omega (arith, h))
are_more (s ∷ t ∷ ss) h = refl

-- ---- the jobs that are left

jobs_more : (js : List Job) (j : Job) → jobs_of (js ++ j ∷ []) ≡ jobs_of js ++ job_of j ∷ []
jobs_more [] j = refl
jobs_more (k ∷ js) j = ap (λ (ks : List AbstractJob). job_of k ∷ ks) (jobs_more js j)

-- one job more can be merged
pub next_job : (jobs : List Job) (n : ℕ) (j : Job) (found : Option (ℕ × Unmergeable)) → n < length jobs
    → j ≡ get_or jobs n j → None ≡ cause_below (jobs_of (take n jobs)) (job_of j)
    → unmergeable_below n (jobs_of (take n jobs)) (jobs_of (drop n jobs)) ≡ found
    → unmergeable_below (n + 1) (jobs_of (take (n + 1) jobs)) (jobs_of (drop (n + 1) jobs)) ≡ found
next_job jobs n j found few here none so_far =
    let k : suc n ≡ n + 1 = omega arith in
    let left : drop n jobs ≡ j ∷ drop (n + 1) jobs = drop-cons jobs n j few ∙ (λ i. sym here i ∷ drop (k i) jobs) in
    let done : take (n + 1) jobs ≡ take n jobs ++ j ∷ [] =
    take_more jobs n j few ∙ ap (λ (x : Job). take n jobs ++ x ∷ []) (sym here) in
    ap (λ (js : List AbstractJob). unmergeable_below (n + 1) js (jobs_of (drop (n + 1) jobs)))
    (ap jobs_of done ∙ jobs_more (take n jobs) j)
    ∙ ap (λ (c : Option Unmergeable). cause_or n c
    (unmergeable_below (n + 1) (jobs_of (take n jobs) ++ job_of j ∷ []) (jobs_of (drop (n + 1) jobs)))) none
    ∙ sym (ap (λ (js : List Job). unmergeable_below n (jobs_of (take n jobs)) (jobs_of js)) left)
    ∙ so_far

fewer_answers : (js : List Job) → 0 < length js → with_fallbacks (jobs_of js) [] ≡ None
fewer_answers [] h = absurd (omega (arith, h))
fewer_answers (j ∷ js) h = refl

fewer_left : (js : List Job) (before rows : ℕ) (bs : List Answer) → 0 < length js
    → answers_beside (jobs_of js) before rows [] bs ≡ None
fewer_left [] before rows bs h = absurd (omega (arith, h))
fewer_left (j ∷ js) before rows bs h = refl

-- there are fewer answers than jobs
pub no_answer : (jobs : List Job) (n : ℕ) (ls answers all : List Answer) → n < length jobs → ls ≡ []
    → onto all (with_fallbacks (jobs_of (drop n jobs)) ls) ≡ with_fallbacks (jobs_of jobs) answers
    → with_fallbacks (jobs_of jobs) answers ≡ None
no_answer jobs n ls answers all few none is =
    let more : 0 < length (drop n jobs) = omega (arith, length-drop n jobs, few) in
    sym is ∙ ap (λ (ks : List Answer). onto all (with_fallbacks (jobs_of (drop n jobs)) ks)) none
    ∙ ap (onto all) (fewer_answers (drop n jobs) more)

pub no_left : (jobs : List Job) (n before rows : ℕ) (ls left right both : List Answer) → n < length jobs → ls ≡ []
    → onto both (answers_beside (jobs_of (drop n jobs)) before rows ls (drop n right))
    ≡ answers_beside (jobs_of jobs) before rows left right
    → answers_beside (jobs_of jobs) before rows left right ≡ None
no_left jobs n before rows ls left right both few none is =
    let more : 0 < length (drop n jobs) = omega (arith, length-drop n jobs, few) in
    sym is ∙ ap (λ (ks : List Answer). onto both (answers_beside (jobs_of (drop n jobs)) before rows ks (drop n right)))
    none ∙ ap (onto both) (fewer_left (drop n jobs) before rows (drop n right) more)

-- there are fewer answers of the right part, or more, than jobs
pub no_right : (jobs : List Job) (n before rows : ℕ) (ls left right both : List Answer) (a : Answer)
    (rest : List Answer) → n < length jobs → length right ≤ n → ls ≡ a ∷ rest
    → onto both (answers_beside (jobs_of (drop n jobs)) before rows ls (drop n right))
    ≡ answers_beside (jobs_of jobs) before rows left right
    → answers_beside (jobs_of jobs) before rows left right ≡ None
no_right jobs n before rows ls left right both a rest few over next is =
    sym is
    ∙ ap (onto both) ((λ i. answers_beside (jobs_of (drop n jobs)) before rows (next i) (drop_all n right over i))
    ∙ without (drop n jobs))
  where
    without : (js : List Job) → answers_beside (jobs_of js) before rows (a ∷ rest) [] ≡ None
    without [] = refl
    without (j ∷ js) = refl

pub more_right : (jobs : List Job) (n before rows : ℕ) (ls left right both : List Answer) → length jobs ≤ n
    → n < length right → ls ≡ []
    → onto both (answers_beside (jobs_of (drop n jobs)) before rows ls (drop n right))
    ≡ answers_beside (jobs_of jobs) before rows left right
    → answers_beside (jobs_of jobs) before rows left right ≡ None
more_right jobs n before rows ls left right both over few none is =
    let more : 0 < length (drop n right) = omega (arith, length-drop n right, few) in
    sym is
    ∙ ap (onto both) ((λ i. answers_beside (jobs_of (drop_all n jobs over i)) before rows (none i) (drop n right))
    ∙ beyond (drop n right) more)
  where
    beyond : (bs : List Answer) → 0 < length bs → answers_beside [] before rows [] bs ≡ None
    beyond [] h = absurd (omega (arith, h))
    beyond (b ∷ bs) h = refl

-- ---- what is said of an answer

pub nothing_left : {A : Type 0} (xs : List A) (n : ℕ) → n ≡ length xs → n ≡ 0 → xs ≡ []
nothing_left [] n e z = refl
nothing_left (x ∷ xs) n e z = absurd (omega (arith, e, z))

pub when_ok : {A E : Type 0} (r : Result A E) (P Q : A → Type 0) → IfOk r P → ((a : A) → P a → Q a) → IfOk r Q
when_ok (Ok a) P Q h f = f a h
when_ok (Err e) P Q h f = h

pub when_err : {A E : Type 0} (r : Result A E) (P Q : E → Type 0) → IfErr r P → ((e : E) → P e → Q e) → IfErr r Q
when_err (Ok a) P Q h f = h
when_err (Err e) P Q h f = f e h
