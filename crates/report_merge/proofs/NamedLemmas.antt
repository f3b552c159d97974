-- What a job that names no job over a column finds among the answers above it.
use Rattle.std.proofs.Common.{◌≡◌, ℕ, Bool, true, false, List, [], ◌∷◌, ◌++◌, Some, refl, sym, ap, ◌∙◌}
use Rattle.std.specs.Prelude.{◌&&◌, ◌||◌, if◌then◌else◌}
use Rattle.job_language.specs.Jobs.{AbstractJob}
use Rattle.job_meaning.specs.declared.answer.Answer.{Answer}
use Rattle.job_meaning.specs.FileAnswers.{EarlierJob, NamedAnswer, answer_after, answer_with, found, found_later}
use Rattle.job_meaning.specs.FileAnswers.{job_found, jobs_found}
use Rattle.job_meaning.specs.Names.{names_in_job, same_name}
use Rattle.report_merge.specs.Mergeable.{has_column_job, is_column_job, is_over_column}

-- two answers of one job: equal if it isn't over a column
pub record AlikeOne (job : AbstractJob) (b c : NamedAnswer) : Type 0 where
  pub left : b.name ≡ job.name
  pub right : c.name ≡ job.name
  pub same : is_over_column job ≡ false → b.answer ≡ c.answer

abbrev pub Alike : List AbstractJob → List NamedAnswer → List NamedAnswer → Type 0
Alike [] [] [] = Unit {0}
Alike [] [] (c ∷ cs) = ⊥
Alike [] (b ∷ bs) cs = ⊥
Alike (job ∷ jobs) [] cs = ⊥
Alike (job ∷ jobs) (b ∷ bs) [] = ⊥
Alike (job ∷ jobs) (b ∷ bs) (c ∷ cs) = AlikeOne job b c × Alike jobs bs cs

pub alike_more : (jobs : List AbstractJob) (bs cs : List NamedAnswer) (job : AbstractJob) (b c : NamedAnswer)
    → Alike jobs bs cs → AlikeOne job b c → Alike (jobs ++ job ∷ []) (bs ++ b ∷ []) (cs ++ c ∷ [])
alike_more [] [] [] job b c h one = (one, tt)
alike_more [] [] (d ∷ cs) job b c h one = absurd h
alike_more [] (d ∷ bs) cs job b c h one = absurd h
alike_more (j ∷ jobs) [] cs job b c h one = absurd h
alike_more (j ∷ jobs) (d ∷ bs) [] job b c h one = absurd h
alike_more (j ∷ jobs) (d ∷ bs) (e ∷ cs) job b c h one = (h.0, alike_more jobs bs cs job b c h.1 one)

pub alike_self : (jobs : List AbstractJob) (bs cs : List NamedAnswer) → Alike jobs bs cs → Alike jobs cs cs
alike_self [] [] [] h = tt
alike_self [] [] (d ∷ cs) h = absurd h
alike_self [] (d ∷ bs) cs h = absurd h
alike_self (j ∷ jobs) [] cs h = absurd h
alike_self (j ∷ jobs) (d ∷ bs) [] h = absurd h
alike_self (j ∷ jobs) (d ∷ bs) (e ∷ cs) h =
    (record { left = h.0.right; right = h.0.right; same = λ k. refl }, alike_self jobs bs cs h.1)

-- ---- booleans

impossible : {A : Type 0} → true ≡ false → A
impossible h = absurd (let z : true ≡ false = h in cc)

pub neither : (a b : Bool) → (a || b) ≡ false → (a ≡ false) × (b ≡ false)
neither true b h = impossible h
neither false b h = (refl, h)

other_false : (a b : Bool) → (a && b) ≡ false → b ≡ true → a ≡ false
other_false true b h k = impossible (sym k ∙ h)
other_false false b h k = refl

picked : {A : Type 0} (t : Bool) (x y p q : A) → (t ≡ true → x ≡ y) → p ≡ q
    → (if t then x else p) ≡ (if t then y else q)
picked true x y p q h k = h refl
picked false x y p q h k = k

-- ---- what is found

pub found_alike : (jobs : List AbstractJob) (bs cs : List NamedAnswer) (name : List ℕ) → Alike jobs bs cs
    → is_column_job jobs name ≡ false → found bs name ≡ found cs name
found_alike [] [] [] name h e = refl
found_alike [] [] (d ∷ cs) name h e = absurd h
found_alike [] (d ∷ bs) cs name h e = absurd h
found_alike (j ∷ jobs) [] cs name h e = absurd h
found_alike (j ∷ jobs) (d ∷ bs) [] name h e = absurd h
found_alike (j ∷ jobs) (b ∷ bs) (c ∷ cs) name h e =
    let parts = neither (is_over_column j && same_name j.name name) (is_column_job jobs name) e in
    ap (λ (n : List ℕ). if same_name n name then Some (0, b.answer) else found_later (found bs name)) h.0.left
    ∙ picked (same_name j.name name) (Some (0, b.answer)) (Some (0, c.answer)) (found_later (found bs name))
    (found_later (found cs name))
    (λ k. ap (λ (a : Answer). Some (0, a))
    (h.0.same (other_false (is_over_column j) (same_name j.name name) parts.0 k)))
    (ap found_later (found_alike jobs bs cs name h.1 parts.1))
    ∙ sym (ap (λ (n : List ℕ). if same_name n name then Some (0, c.answer) else found_later (found cs name)) h.0.right)

module _ (jobs : List AbstractJob) (bs cs : List NamedAnswer) (alike : Alike jobs bs cs) where
  pub jobs_alike : (names : List (List ℕ)) → has_column_job jobs names ≡ false
      → jobs_found bs names ≡ jobs_found cs names
  jobs_alike [] e = refl
  jobs_alike (name ∷ names) e =
      let parts = neither (is_column_job jobs name) (has_column_job jobs names) e in
      (λ i. job_found name (found_alike jobs bs cs name alike parts.0 i) ++ jobs_alike names parts.1 i)

  -- a job that names no job over a column has one answer after both
  pub answer_alike : (job : AbstractJob) → has_column_job jobs (names_in_job job) ≡ false
      → answer_after bs job ≡ answer_after cs job
  answer_alike job e = ap (λ (named : List EarlierJob). answer_with named job) (jobs_alike (names_in_job job) e)
