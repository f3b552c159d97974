-- The answers that parts are merged to name jobs that have names, if the parts' answers do.
use Rattle.std.proofs.Common.{◌≡◌, ℕ, zero, suc, ◌<◌, ◌≤◌, true, false, List, [], ◌∷◌, length, Some, arith, ap, refl}
use Rattle.std.specs.Prelude.{All, nat_lt, slice_index_or}
use Rattle.std.proofs.lemmas.Grind.{common_steps}
use Rattle.std.proofs.lemmas.List.Elements.{All-cons, All-head, All-nil, All-tail}
use Rattle.job_language.specs.Jobs.{AbstractJob, jobs_of, names_of}
use Rattle.job_language.specs.declared.job.Job.{Job}
use Rattle.job_meaning.specs.declared.answer.Answer.{Answer}
use Rattle.report.specs.Named.{IsNamed}
use Rattle.report_merge.specs.declared.part.PartAnswers.{PartAnswers}
use Rattle.report_merge.specs.Merging.{merged, parts_of}
use Rattle.merge_run.proofs.MergedLemmas.{Each, EachPart, of_merged}

module _ (names : List (List ℕ)) where
  each : (xs : List Answer) → All (IsNamed names) xs → Each (IsNamed names) xs
  each [] h = tt
  each (x ∷ xs) h = (All-head (IsNamed names) x xs h, each xs (All-tail (IsNamed names) x xs h))

  all : (xs : List Answer) → Each (IsNamed names) xs → All (IsNamed names) xs
  all [] h = All-nil (IsNamed names)
  all (x ∷ xs) h = All-cons (IsNamed names) x xs h.0 (all xs h.1)

  each_part : (ps : List PartAnswers) → All (λ part. All (IsNamed names) part.answers.items) ps
      → EachPart (IsNamed names) (parts_of ps)
  each_part [] h = tt
  each_part (p ∷ ps) h = (
    each p.answers.items (All-head (λ (part : PartAnswers). All (IsNamed names) part.answers.items) p ps h),
    each_part ps (All-tail (λ (part : PartAnswers). All (IsNamed names) part.answers.items) p ps h),
  )

  pub merged_named : (jobs : List AbstractJob) (ps : List PartAnswers) (cs : List Answer)
      → All (λ part. All (IsNamed names) part.answers.items) ps
      → merged jobs (parts_of ps) ≡ Some cs → All (IsNamed names) cs
  merged_named jobs ps cs h e =
      all cs (of_merged (IsNamed names) (λ z i is. absurd cc) (λ b i is. absurd cc) (λ v i is. absurd cc)
      (λ vs i is. absurd cc) (λ f i is. absurd cc) jobs (parts_of ps) cs (each_part ps h) e)

pub length_names : (jobs : List AbstractJob) → length (names_of jobs) ≡ length jobs
length_names [] = refl
length_names (job ∷ jobs) = ap suc (length_names jobs)

within : (a b : ℕ) → true ≡ nat_lt a b → a < b
within a b h = grind (arith, common_steps)

past : (a b : ℕ) → false ≡ nat_lt a b → b ≤ a
past a b h = grind (arith, common_steps)

name_below : (js : List Job) (i : ℕ) (d : Job) → i < length js
    → (slice_index_or js i d).name ≡ slice_index_or (names_of (jobs_of js)) i []
name_below [] i d h = absurd (omega (arith, h))
name_below (j ∷ js) zero d h = refl
name_below (j ∷ js) (suc i) d h = name_below js i d (omega (arith, h))

no_name : (js : List Job) (i : ℕ) → length js ≤ i → slice_index_or (names_of (jobs_of js)) i [] ≡ []
no_name [] i h = refl
no_name (j ∷ js) zero h = absurd (omega (arith, h))
no_name (j ∷ js) (suc i) h = no_name js i (omega (arith, h))

-- the name of the job at a place
pub named_within : (js : List Job) (i : ℕ) (d : Job) → true ≡ nat_lt i (length js)
    → (slice_index_or js i d).name ≡ slice_index_or (names_of (jobs_of js)) i []
named_within js i d h = name_below js i d (within i (length js) h)

-- past the end there is none
pub named_past : (js : List Job) (i : ℕ) → false ≡ nat_lt i (length js)
    → slice_index_or (names_of (jobs_of js)) i [] ≡ []
named_past js i h = no_name js i (past i (length js) h)
