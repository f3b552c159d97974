-- Texts of jobs, read one after the other.
use Rattle.std.proofs.Common.{◌≡◌, ℕ, ◌<◌, ◌≤◌, List, [], ◌∷◌, ◌++◌, Result, Ok, Err, IfOk, IfErr, inl, inr, length}
use Rattle.std.proofs.Common.{refl, sym, ap, ◌∙◌, suc, subst}
use Rattle.std.specs.Prelude.{All}
use Rattle.std.proofs.lemmas.List.Elements.{All-append, All-from_recursion}
use Rattle.stream_tokens.specs.declared.job_text.JobText.{JobText}
use Rattle.stream_tokens.specs.TextsLeft.{Texts, HasText}
use Rattle.tables.specs.Table.{NamedColumn}
use Rattle.job_language.specs.declared.fault.Cause.{Cause}
use Rattle.job_language.specs.declared.fault.Cause.TheVariants.{TooLong}
use Rattle.job_language.specs.Verdicts.{IsRead}
use Rattle.stream_tokens.specs.Forms.{IsName}
use Rattle.job_language.specs.declared.fault.JobFault.{JobFault}
use Rattle.job_language.specs.declared.job.Job.{Job}
use Rattle.job_language.specs.Files.{AreJobsLeft, AreJobsRead, IsNext, fault_at, scope_below}
use Rattle.job_language.specs.FileSteps.{IsNextJob, IsNextFault}
use Rattle.job_language.specs.Jobs.{AbstractJob, job_of, jobs_of, names_of}

pub jobs_length : (jobs : List Job) → length (jobs_of jobs) ≡ length jobs
jobs_length [] = refl
jobs_length (j ∷ jobs) = ap suc (jobs_length jobs)

pub jobs_push : (jobs : List Job) (j : Job) → jobs_of (jobs ++ j ∷ []) ≡ jobs_of jobs ++ job_of j ∷ []
jobs_push [] j = refl
jobs_push (k ∷ jobs) j = ap (λ (js : List AbstractJob). job_of k ∷ js) (jobs_push jobs j)

pub names_push : (jobs : List AbstractJob) (j : AbstractJob) → names_of (jobs ++ j ∷ []) ≡ names_of jobs ++ j.name ∷ []
names_push [] j = refl
names_push (k ∷ jobs) j = ap (λ (ns : List (List ℕ)). k.name ∷ ns) (names_push jobs j)

-- these jobs were read, and with the texts that are left they are the file
pub record FileSoFar (version : ℕ) (columns : List NamedColumn) (all left : Texts) (jobs : List AbstractJob) : Type
    0 where
  pub goes : (r : Result (List AbstractJob) JobFault) → AreJobsLeft version columns jobs left r
      → AreJobsLeft version columns [] all r
  pub here : HasText left → HasText all

pub file_more : (version : ℕ) (columns : List NamedColumn) (all left next : Texts) (more : List JobText)
    (jobs js : List AbstractJob) (t : JobText) → left ≡ Ok (t ∷ more) → next ≡ Ok more
    → FileSoFar version columns all left jobs → IsNextJob version columns jobs t js
    → FileSoFar version columns all next js
file_more version columns all left next more jobs js t before after h step = record {
  goes = λ r k.
      let there : AreJobsRead version columns js more r = rw after at k in
      let here : AreJobsRead version columns jobs (t ∷ more) r = inr (step.job, step.read, rw step.put at there) in
      h.goes r (rw before here);
  here = λ _. h.here (t, more, before);
}

pub file_refused : (version : ℕ) (columns : List NamedColumn) (all left : Texts) (more : List JobText)
    (jobs : List AbstractJob) (t : JobText) (fault : JobFault) → left ≡ Ok (t ∷ more)
    → FileSoFar version columns all left jobs → IsNextFault version columns jobs t fault
    → AreJobsLeft version columns [] all (Err fault)
file_refused version columns all left more jobs t fault before h next =
    let same : fault ≡ fault_at t fault.cause = ap (λ (l : ℕ). record { line = l; cause = fault.cause }) next.at in
    let here : AreJobsRead version columns jobs (t ∷ more) (Err fault) =
    inl (fault.cause, next.read, ap (λ (f : JobFault). Err f) same) in
    h.goes (Err fault) (rw before here)

-- ---- one text

pub one_too_many : (version : ℕ) (columns : List NamedColumn) (jobs : List Job) (text : List ℕ) → 256 ≤ length jobs
    → IsNext version columns (jobs_of jobs) text (Err TooLong)
one_too_many version columns jobs text many = inl (subst (λ (n : ℕ). 256 ≤ n) (sym (jobs_length jobs)) many, refl)

pub read_there : (version : ℕ) (columns : List NamedColumn) (jobs : List Job) (text : List ℕ)
    (r : Result AbstractJob Cause) → length jobs < 256 → IsRead (scope_below version columns (jobs_of jobs)) text r
    → IsNext version columns (jobs_of jobs) text r
read_there version columns jobs text r few read = inr (subst (λ (n : ℕ). n < 256) (sym (jobs_length jobs)) few, read)

-- what a text says below jobs that are known by another name
pub text_same : (version : ℕ) (columns : List NamedColumn) (js ks : List Job) (a b : List ℕ)
    (r : Result AbstractJob Cause) → js ≡ ks → a ≡ b → IsNext version columns (jobs_of js) a r
    → IsNext version columns (jobs_of ks) b r
text_same version columns js ks a b r p q h =
    subst (λ (t : List ℕ). IsNext version columns (jobs_of ks) t r) q
    (subst (λ (ls : List Job). IsNext version columns (jobs_of ls) a r) p h)

-- ---- names

pub names_more : (jobs : List AbstractJob) (j : AbstractJob) → All IsName (names_of jobs) → IsName j.name
    → All IsName (names_of (jobs ++ j ∷ []))
names_more jobs j all is = subst (λ (ns : List (List ℕ)). All IsName ns) (sym (names_push jobs j))
    (All-append IsName (names_of jobs) (j.name ∷ []) all (All-from_recursion IsName (j.name ∷ []) (is, tt)))

pub names_after : (before after : List Job) (j : Job) → after ≡ before ++ j ∷ [] → IsName j.name
    → All IsName (names_of (jobs_of before)) → All IsName (names_of (jobs_of after))
names_after before after j put is all =
    subst (λ (js : List AbstractJob). All IsName (names_of js)) (sym (ap jobs_of put ∙ jobs_push before j))
    (names_more (jobs_of before) (job_of j) all is)

-- ---- answers in other words

pub ok_as : {X E : Type 0} (r : Result X E) (P Q : X → Type 0) → ((x : X) → P x → Q x) → IfOk r P → IfOk r Q
ok_as (Ok x) P Q f h = f x h
ok_as (Err e) P Q f h = h

pub err_as : {X E : Type 0} (r : Result X E) (P Q : E → Type 0) → ((e : E) → P e → Q e) → IfErr r P → IfErr r Q
err_as (Ok x) P Q f h = h
err_as (Err e) P Q f h = f e h
