-- The answers of the jobs of a plan, one by one and all together.
use Rattle.std.proofs.Common.{◌≡◌, ℕ, zero, suc, pos, Bool, true, false, is_some, ◌+◌, ◌<◌, List, [], ◌∷◌, ◌++◌, length}
use Rattle.std.proofs.Common.{take, Option, Some, None}
use Rattle.std.proofs.Common.{Result, Ok, Err, IfOk, slice_get, ap, sym, ◌∙◌, refl, append_assoc, arith, get_or, drop}
use Rattle.std.specs.Prelude.{◌&&◌, slice_index_or}
use Rattle.std.proofs.lemmas.List.{append-nil, drop_more}
use Rattle.job_meaning.specs.declared.answer.Answer.{Answer}
use Rattle.job_meaning.specs.declared.answer.Answer.TheVariants as answer
use Rattle.job_plan.specs.declared.plan.JobPlan.{JobPlan}
use Rattle.job_meaning.specs.FileAnswers.{EarlierJob, all_put_in, first_unusable, put_in, unless_unusable}
use Rattle.job_plan.specs.Plans.{AbstractPlan, jobs_at, planned_after, planned_from, planned_meaning, plans_in}
use Rattle.job_routes.specs.Legs.{AbstractLegs, legs_answer}
use Rattle.job_runner.specs.Runs.{AreAnswers}
use Rattle.job_table.specs.PlanLegs.{answer_of, answers_before, chain_at, named_at, plan_at, AbstractChain, PartStands}
use Rattle.job_table.specs.PlanLegs.{given_at, last_leg, search_at, size_at}
use Rattle.job_routes.specs.declared.route.PlaceSide.{PlaceSide}
use Rattle.job_table.proofs.PlanParts.{first_given}
use Rattle.lambda_values.specs.Earlier.{Numbers}
use Rattle.job_language.specs.declared.job.PlainSource.{PlainSource}
use Rattle.job_language.specs.Jobs.{AbstractPlainSource, range, range_closed, values, result, source_of, sources_of}
use Rattle.job_plan.specs.Owned.{takes_arrays}
use Rattle.job_plan.specs.declared.part.Part.{Part}
use Rattle.job_meaning.specs.Walks.{instead_of_fault, source_walk}

-- ---- one job

planned_length : (before : List Answer) (ps : List AbstractPlan) → length (planned_from before ps) ≡ length ps
planned_length before [] = refl
planned_length before (p ∷ ps) = ap suc (planned_length (before ++ planned_after before p ∷ []) ps)

planned_there : (before : List Answer) (ps : List AbstractPlan) (job : ℕ) (d : Answer) → job < length ps
    → slice_index_or (planned_from before ps) job d
    ≡ planned_after (before ++ take job (planned_from before ps)) (plan_at ps job)
planned_there before [] job d low = absurd (omega arith)
planned_there before (p ∷ ps) zero d low = ap (λ (b : List Answer). planned_after b p) (sym (append-nil before))
planned_there before (p ∷ ps) (suc job) d low =
    let a = planned_after before p in
    planned_there (before ++ a ∷ []) ps job d (omega arith)
    ∙ ap (λ (b : List Answer). planned_after b (plan_at ps job))
    (append_assoc before (a ∷ []) (take job (planned_from (before ++ a ∷ []) ps)))

answer_is : (plans : List AbstractPlan) (job : ℕ) → job < length plans
    → answer_of plans job ≡ planned_after (answers_before plans job) (plan_at plans job)
answer_is plans job low = planned_there [] plans job (answer.Number (pos 0)) low

-- the answer of a chain, with what the job gives after a fault
abbrev pub chain_answer : Option Answer → AbstractChain → Answer
chain_answer instead chain = instead_of_fault instead (legs_answer chain.legs chain.numbers chain.source)

-- the answer of a job that is walked
pub walked_answer : (plans : List AbstractPlan) (job : ℕ) → job < length plans
    → first_unusable (named_at plans job) ≡ None
    → chain_answer (plan_at plans job).fallback (chain_at plans job) ≡ answer_of plans job
walked_answer plans job low usable =
    sym (answer_is plans job low ∙ ap (λ (o : Option ℕ). unless_unusable o
    (chain_answer (plan_at plans job).fallback (chain_at plans job))) usable)

-- the answer of a job that can't be run
pub unusable_answer : (plans : List AbstractPlan) (job place : ℕ) → job < length plans
    → first_unusable (named_at plans job) ≡ Some place → answer.Unusable place ≡ answer_of plans job
unusable_answer plans job place low unusable =
    sym (answer_is plans job low ∙ ap (λ (o : Option ℕ). unless_unusable o
    (chain_answer (plan_at plans job).fallback (chain_at plans job))) unusable)

-- ---- the answers before a job

got : (as_found : List Answer) (job k : ℕ) (d : Answer) → k < job → k < length as_found
    → slice_get (take job as_found) k ≡ Some (slice_index_or as_found k d)
got [] job k d low there = absurd (omega arith)
got (a ∷ rest) zero k d low there = absurd (omega arith)
got (a ∷ rest) (suc job) zero d low there = refl
got (a ∷ rest) (suc job) (suc k) d low there = got rest job k d (omega arith) (omega arith)

pub answer_before : (plans : List AbstractPlan) (job k : ℕ) (a : Answer) → job < length plans → k < job
    → a ≡ answer_of plans k → Some a ≡ slice_get (answers_before plans job) k
answer_before plans job k a low earlier is =
    let l = planned_length [] plans in
    ap (λ (b : Answer). Some b) is ∙ sym
    (got (planned_meaning plans) job k (answer.Number (pos 0)) earlier (omega arith))

-- ---- all jobs

all_planned : (f : ℕ → Answer) (job : ℕ) (d : Answer) (found wanted : List Answer) → length found ≡ length wanted
    → ((j : ℕ) → slice_index_or wanted j d ≡ f (job + j))
    → AreAnswers (λ j a. a ≡ f j) job found → found ≡ wanted
all_planned f job d [] [] l n h = refl
all_planned f job d [] (w ∷ wanted) l n h = absurd (omega arith)
all_planned f job d (a ∷ found) [] l n h = absurd (omega arith)
all_planned f job d (a ∷ found) (w ∷ wanted) l n h =
    let here : a ≡ w = h.0 ∙ ap f (let e : job ≡ job + 0 = omega arith in e) ∙ sym (n 0) in
    let rest = all_planned f (suc job) d found wanted (let e : length found ≡ length wanted = omega arith in e)
    (λ j. n (suc j) ∙ ap f (let e : job + suc j ≡ suc job + j = omega arith in e)) h.1 in
    λ i. here i ∷ rest i

answers_planned : {X F : Type 0} (items : X → List Answer) (ps : List AbstractPlan) (r : Result X F)
    → IfOk r (λ v. length (items v) ≡ length ps)
    → IfOk r (λ v. AreAnswers (λ j a. a ≡ answer_of ps j) 0 (items v)) → IfOk r (λ v. items v ≡ planned_meaning ps)
answers_planned items ps (Ok v) l h =
    all_planned (answer_of ps) 0 (answer.Number (pos 0)) (items v) (planned_meaning ps) (l ∙ sym (planned_length [] ps))
    (λ j. ap (answer_of ps) (let e : j ≡ 0 + j = omega arith in e)) h
answers_planned items ps (Err e) l h = tt

pub planned_jobs : {X F : Type 0} (items : X → List Answer) (js ks : List JobPlan) → js ≡ ks → (r : Result X F)
    → IfOk r (λ v. length (items v) ≡ length (plans_in ks))
    → IfOk r (λ v. AreAnswers (λ j a. a ≡ answer_of (plans_in ks) j) 0 (items v))
    → IfOk r (λ v. items v ≡ planned_meaning (plans_in js))
planned_jobs {X} {F} items js ks same (Ok v) l h =
    answers_planned {F = F} items (plans_in ks) (Ok v) l h ∙ sym (ap (λ xs. planned_meaning (plans_in xs)) same)
planned_jobs items js ks same (Err e) l h = tt

-- without an array nothing is put in
none_put : (named : List EarlierJob) (ss : List AbstractPlainSource) → takes_arrays ss ≡ false
    → all_put_in named ss ≡ ss
none_put named [] h = refl
none_put named (range a b ∷ ss) h = ap (λ xs. range a b ∷ xs) (none_put named ss h)
none_put named (range_closed a b ∷ ss) h = ap (λ xs. range_closed a b ∷ xs) (none_put named ss h)
none_put named (values vs ∷ ss) h = ap (λ xs. values vs ∷ xs) (none_put named ss h)
none_put named (result name ∷ ss) h = absurd (let z : true ≡ false = h in cc)

-- ---- what the first leg of a job goes over, and the answer of its last one

module _ (plans : List AbstractPlan) (job : ℕ) (p : AbstractPlan) (same : p ≡ plan_at plans job) where
  -- the sources of a job with the arrays put in
  pub put_walk : (leg : ℕ) (sources : List AbstractPlainSource) → leg ≡ 0
      → sources ≡ all_put_in (jobs_at (answers_before plans job) p.named) p.sources
      → source_walk sources ≡ given_at (chain_at plans job) leg
  put_walk leg sources first put =
      ap source_walk put
      ∙ ap (λ (q : AbstractPlan). source_walk (all_put_in (jobs_at (answers_before plans job) q.named) q.sources)) same
      ∙ sym (first_given (chain_at plans job)) ∙ ap (given_at (chain_at plans job)) (sym first)

  -- the sources of a job that takes no array
  pub own_walk : (own : List AbstractPlainSource) → p.sources ≡ own → takes_arrays own ≡ false
      → (chain_at plans job).source ≡ source_walk own
  own_walk own is none =
      sym (ap (λ (q : AbstractPlan). source_walk (all_put_in (jobs_at (answers_before plans job) q.named) q.sources))
      same)
      ∙ ap (λ ss. source_walk (all_put_in (jobs_at (answers_before plans job) p.named) ss)) is
      ∙ ap source_walk (none_put (jobs_at (answers_before plans job) p.named) own none)

  pub legs_there : (chain_at plans job).legs ≡ p.legs
  legs_there = sym (ap (λ (q : AbstractPlan). q.legs) same)

  -- a search is over the job's own sources
  pub search_own : (own : List AbstractPlainSource) (o : Option PlaceSide) (leg : ℕ) → p.sources ≡ own
      → p.legs.search ≡ o → (is_some o && takes_arrays own) ≡ false
      → is_some (search_at leg (chain_at plans job).legs) ≡ true → (chain_at plans job).source ≡ source_walk own
  search_own own o zero is search none h =
      own_walk own is (sym (ap (λ (b : Bool). b && takes_arrays own)
      (ap is_some (sym (ap (λ (l : AbstractLegs). l.search) legs_there ∙ search)) ∙ h)) ∙ none)
  search_own own o (suc leg) is search none h = absurd (let z : false ≡ true = h in cc)

  -- the answer of a job that is walked
  pub answered : {F : Type 0} (env : Numbers) (part : Part) (r : Result Answer F) → job < length plans
      → first_unusable (named_at plans job) ≡ None → env ≡ (chain_at plans job).numbers
      → PartStands (chain_at plans job) (last_leg (chain_at plans job).legs) 0
      (size_at (chain_at plans job) (last_leg (chain_at plans job).legs)) part
      → IfOk r (λ answer. (chain : AbstractChain) → chain.legs ≡ p.legs → chain.numbers ≡ env
      → PartStands chain (last_leg chain.legs) 0 (size_at chain (last_leg chain.legs)) part
      → answer ≡ chain_answer p.fallback chain)
      → IfOk r (λ answer. answer ≡ answer_of plans job)
  answered env part (Ok a) low usable numbers stands h =
      let chain = chain_at plans job in
      h chain legs_there (sym numbers) stands
      ∙ (λ i. chain_answer (same i).fallback chain)
      ∙ walked_answer plans job low usable
  answered env part (Err e) low usable numbers stands h = tt

-- ---- sources with arrays put in

sources_more : (xs : List PlainSource) (x : PlainSource) → sources_of (xs ++ x ∷ []) ≡ sources_of xs ++ source_of x ∷ []
sources_more [] x = refl
sources_more (y ∷ xs) x = ap (λ (ss : List AbstractPlainSource). source_of y ∷ ss) (sources_more xs x)

-- one source more
pub put_more : (named : List EarlierJob) (xs : List PlainSource) (i : ℕ) (x put : PlainSource)
    (old new : List PlainSource) (all : List AbstractPlainSource) → i < length xs → x ≡ get_or xs i x
    → source_of put ≡ put_in named (source_of x) → new ≡ old ++ put ∷ []
    → sources_of old ++ all_put_in named (sources_of (drop i xs)) ≡ all
    → sources_of new ++ all_put_in named (sources_of (drop (i + 1) xs)) ≡ all
put_more named xs i x put old new all low at is pushed so_far =
    let rest = all_put_in named (sources_of (drop (i + 1) xs)) in
    ap (λ (ss : List AbstractPlainSource). ss ++ rest) (ap sources_of pushed ∙ sources_more old put)
    ∙ append_assoc (sources_of old) (source_of put ∷ []) rest
    ∙ ap (λ (s : AbstractPlainSource). sources_of old ++ s ∷ rest)
    (is ∙ ap (λ (y : PlainSource). put_in named (source_of y)) at)
    ∙ sym (ap (λ (ys : List PlainSource). sources_of old ++ all_put_in named (sources_of ys)) (drop_more xs i x low))
    ∙ so_far

-- ---- a job that can't be run

-- its answer, if it can't be run
pub known_of : (plans : List AbstractPlan) (job : ℕ) (p : AbstractPlan) → p ≡ plan_at plans job → (place : ℕ)
    → job < length plans → first_unusable (jobs_at (answers_before plans job) p.named) ≡ Some place
    → answer.Unusable place ≡ answer_of plans job
known_of plans job p same place low unusable =
    unusable_answer plans job place low (ap
    (λ (q : AbstractPlan). first_unusable (jobs_at (answers_before plans job) q.named)) (sym same) ∙ unusable)
