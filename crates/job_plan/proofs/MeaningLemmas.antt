-- The answers of routes are the answers of their file.
use Rattle.std.proofs.Common.{◌≡◌, ℕ, suc, Bool, true, false, List, [], ◌∷◌, ◌++◌, length, Option, Some, None, refl}
use Rattle.std.proofs.Common.{sym, ap, subst, ◌∙◌}
use Rattle.std.specs.Prelude.{if◌then◌else◌, map, slice_get}
use Rattle.lambda_values.specs.Earlier.{Numbers}
use Rattle.job_language.specs.Jobs.{AbstractJob, job_stages_of, names_of}
use Rattle.job_language.specs.declared.job.JobStage.{JobStage}
use Rattle.job_meaning.specs.declared.answer.Answer.{Answer}
use Rattle.job_plan.specs.declared.plan.Named.{Named}
use Rattle.job_meaning.specs.FileAnswers.{EarlierJob, NamedAnswer, answer_after, answers_after, meaning_of, all_put_in}
use Rattle.job_meaning.specs.FileAnswers.{first_unusable, found, found_later, job_found, jobs_found, numbers_of}
use Rattle.job_meaning.specs.FileAnswers.{unless_unusable}
use Rattle.job_meaning.specs.Names.{names_in_job, one_later, place_of, same_name}
use Rattle.job_plan.specs.declared.plan.JobPlan.{JobPlan}
use Rattle.job_plan.specs.Plans.{AbstractPlan, AreRoutes, IsRoute, all_placed, job_at, jobs_at, placed, plan_names}
use Rattle.job_plan.specs.Plans.{planned_after, planned_answer, planned_from, planned_meaning, plans_in}
use Rattle.job_routes.specs.Legs.{legs_answer}
use Rattle.job_meaning.specs.Walks.{answer_of_job, fallback_of, instead_of_fault, source_walk}

abbrev names_in : List NamedAnswer → List (List ℕ)
names_in before = map (λ (a : NamedAnswer). a.name) before

abbrev answers_in : List NamedAnswer → List Answer
answers_in before = map (λ (a : NamedAnswer). a.answer) before

names_more : (before : List NamedAnswer) (a : NamedAnswer)
    → names_in (before ++ a ∷ []) ≡ names_in before ++ a.name ∷ []
names_more [] a = refl
names_more (b ∷ before) a = ap (λ (ns : List (List ℕ)). b.name ∷ ns) (names_more before a)

answers_more : (before : List NamedAnswer) (a : NamedAnswer)
    → answers_in (before ++ a ∷ []) ≡ answers_in before ++ a.answer ∷ []
answers_more [] a = refl
answers_more (b ∷ before) a = ap (λ (rest : List Answer). b.answer ∷ rest) (answers_more before a)

-- ---- a name's place and the answer there

abbrev paired : ℕ → Option Answer → Option (ℕ × Answer)
paired place None = None
paired place (Some a) = Some (place, a)

abbrev with_answer : List Answer → Option ℕ → Option (ℕ × Answer)
with_answer answers None = None
with_answer answers (Some place) = paired place (slice_get answers place)

paired_later : (place : ℕ) (o : Option Answer) → paired (suc place) o ≡ found_later (paired place o)
paired_later place None = refl
paired_later place (Some a) = refl

answer_later : (a : Answer) (answers : List Answer) (o : Option ℕ)
    → with_answer (a ∷ answers) (one_later o) ≡ found_later (with_answer answers o)
answer_later a answers None = refl
answer_later a answers (Some place) = paired_later place (slice_get answers place)

chosen : (a : Answer) (answers : List Answer) (o : Option ℕ) (b : Bool)
    → with_answer (a ∷ answers) (if b then Some 0 else one_later o)
    ≡ (if b then Some (0, a) else found_later (with_answer answers o))
chosen a answers o true = refl
chosen a answers o false = answer_later a answers o

found_placed : (before : List NamedAnswer) (name : List ℕ)
    → with_answer (answers_in before) (place_of (names_in before) name) ≡ found before name
found_placed [] name = refl
found_placed (a ∷ before) name =
    let same = same_name a.name name in
    chosen a.answer (answers_in before) (place_of (names_in before) name) same
    ∙ ap (λ (o : Option (ℕ × Answer)). if same then Some (0, a.answer) else found_later o) (found_placed before name)

job_paired : (n : Named) (o : Option Answer) → job_at n o ≡ job_found n.name (paired n.job o)
job_paired n None = refl
job_paired n (Some a) = refl

job_placed : (answers : List Answer) (name : List ℕ) (o : Option ℕ) (ns : List Named)
    → jobs_at answers (placed name o ++ ns) ≡ job_found name (with_answer answers o) ++ jobs_at answers ns
job_placed answers name None ns = refl
job_placed answers name (Some place) ns =
    ap (λ (js : List EarlierJob). js ++ jobs_at answers ns)
    (job_paired (record { name = name; job = place }) (slice_get answers place))

-- all jobs that a job names
jobs_placed : (before : List NamedAnswer) (names : List (List ℕ))
    → jobs_at (answers_in before) (all_placed (names_in before) names) ≡ jobs_found before names
jobs_placed before [] = refl
jobs_placed before (name ∷ names) =
    job_placed (answers_in before) name (place_of (names_in before) name) (all_placed (names_in before) names)
    ∙ (λ i. job_found name (found_placed before name i) ++ jobs_placed before names i)

-- ---- a job

pub route_answers : (before : List (List ℕ)) (plan : AbstractPlan) (job : AbstractJob) (env : Numbers)
    → IsRoute before plan job → planned_answer env plan ≡ answer_of_job env job
route_answers before plan job env h =
    (λ i. instead_of_fault (h.fallback i) (legs_answer plan.legs env (source_walk (h.sources i))))
    ∙ ap (instead_of_fault (fallback_of job)) (h.answers env job.sources)

-- ---- the jobs of a file

one_answer : (before : List NamedAnswer) (plan : AbstractPlan) (job : AbstractJob) → IsRoute (names_in before) plan job
    → planned_after (answers_in before) plan ≡ answer_after before job
one_answer before plan job h =
    let named = jobs_found before (names_in_job job) in
    let all = ap (jobs_at (answers_in before)) h.named ∙ jobs_placed before (names_in_job job) in
    (λ i. unless_unusable (first_unusable (all i))
    (instead_of_fault (h.fallback i)
    (legs_answer plan.legs (record { earlier = numbers_of (all i); table = h.table i })
    (source_walk (all_put_in (all i) (h.sources i))))))
    ∙ ap (λ (a : Answer). unless_unusable (first_unusable named) (instead_of_fault (fallback_of job) a))
    (h.answers (record { earlier = numbers_of named; table = job.table }) (all_put_in named job.sources))

each_answer : (before : List NamedAnswer) (plans : List AbstractPlan) (jobs : List AbstractJob)
    → AreRoutes (names_in before) plans jobs → planned_from (answers_in before) plans ≡ answers_after before jobs
each_answer before [] [] h = refl
each_answer before [] (job ∷ jobs) h = absurd h
each_answer before (plan ∷ plans) [] h = absurd h
each_answer before (plan ∷ plans) (job ∷ jobs) h =
    let here = one_answer before plan job h.0 in
    let next : NamedAnswer = record { name = job.name; answer = answer_after before job } in
    let answers = ap (λ (a : Answer). answers_in before ++ a ∷ []) here ∙ sym (answers_more before next) in
    let later = subst (λ (names : List (List ℕ)). AreRoutes names plans jobs) (sym (names_more before next)) h.1 in
    λ i. here i ∷ (ap (λ (given : List Answer). planned_from given plans) answers
    ∙ each_answer (before ++ next ∷ []) plans jobs later) i

-- routes have the answers of their file
pub planned : (plans : List AbstractPlan) (jobs : List AbstractJob) → AreRoutes [] plans jobs
    → planned_meaning plans ≡ meaning_of jobs
planned plans jobs h = each_answer [] plans jobs h

-- and the names of its jobs
pub route_names : (before : List (List ℕ)) (js : List JobPlan) (jobs : List AbstractJob)
    → AreRoutes before (plans_in js) jobs → plan_names js ≡ names_of jobs
route_names before [] [] h = refl
route_names before [] (job ∷ jobs) h = absurd h
route_names before (j ∷ js) [] h = absurd h
route_names before (j ∷ js) (job ∷ jobs) h = λ i. h.0.name i ∷ route_names (before ++ job.name ∷ []) js jobs h.1 i

-- one route more
pub routes_on : (names : List (List ℕ)) (plan : AbstractPlan) (plans : List AbstractPlan) (job : AbstractJob)
    (jobs : List AbstractJob) → IsRoute names plan job → AreRoutes (names ++ plan.name ∷ []) plans jobs
    → AreRoutes names (plan ∷ plans) (job ∷ jobs)
routes_on names plan plans job jobs is later =
    (is, subst (λ (n : List ℕ). AreRoutes (names ++ n ∷ []) plans jobs) is.name later)

pub length_job_stages : (gs : List JobStage) → length (job_stages_of gs) ≡ length gs
length_job_stages [] = refl
length_job_stages (g ∷ gs) = ap suc (length_job_stages gs)
