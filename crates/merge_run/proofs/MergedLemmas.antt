-- The answers that parts are merged to: one for each job, and what holds of each answer but of `Unusable` holds of them
-- if it
-- holds of the parts' answers.
use Rattle.std.proofs.Common.{◌≡◌, ℕ, suc, ℤ, Bool, true, false, List, [], ◌∷◌, length, Option, Some, None, refl, sym}
use Rattle.std.proofs.Common.{ap, subst, ◌∙◌}
use Rattle.std.specs.Prelude.{if◌then◌else◌}
use Rattle.trace.specs.declared.item.Fault.{Fault}
use Rattle.reduce_ops.specs.declared.op.Op.{Op}
use Rattle.reduce_ops.specs.declared.op.Op.TheVariants as op
use Rattle.find_ops.specs.Finds.{first, any_match, all_match, none_match}
use Rattle.job_language.specs.Jobs.{AbstractTerminal, sum, count, min, max, to_array, reduce, reduce_from, find}
use Rattle.job_language.specs.Jobs.{exact_sum, AbstractJob}
use Rattle.job_meaning.specs.declared.answer.Answer.{Answer}
use Rattle.job_meaning.specs.declared.answer.Answer.TheVariants as answer
use Rattle.job_meaning.specs.Walks.{fallback_as, fallback_of, instead_of_fault}
use Rattle.report_merge.specs.Mergeable.{is_over_column}
use Rattle.report_merge.specs.Merging.{Part, after, all_as_one, answer_beside, answers_beside, arrays_joined, as_one}
use Rattle.report_merge.specs.Merging.{beside, both, finished, firsts_joined, is_final, is_within, first_part, joined}
use Rattle.report_merge.specs.Merging.{merged, moved, numbers_joined, optionals_joined, part_with, truths_joined}
use Rattle.report_merge.specs.Merging.{same_answer, with_fallback, with_fallbacks}

nothing : {A B : Type 0} {x : A} → None ≡ Some x → B
nothing e = absurd cc

the_same : {A : Type 0} {x y : A} → Some x ≡ Some y → x ≡ y
the_same e = cc

-- each of these answers
abbrev pub Each : (Answer → Type 0) → List Answer → Type 0
Each P [] = Unit {0}
Each P (a ∷ rest) = P a × Each P rest

-- each answer of these parts
abbrev pub EachPart : (Answer → Type 0) → List Part → Type 0
EachPart P [] = Unit {0}
EachPart P (p ∷ ps) = Each P p.answers × EachPart P ps

both_parts : (o : Option Answer) (os : Option (List Answer)) (cs : List Answer) → both o os ≡ Some cs
    → (c : Answer) × (rest : List Answer) × (o ≡ Some c) × (os ≡ Some rest) × (cs ≡ c ∷ rest)
both_parts None os cs e = nothing e
both_parts (Some c) None cs e = nothing e
both_parts (Some c) (Some rest) cs e = (c, rest, refl, refl, sym (the_same e))

module _ (P : Answer → Type 0) (number : (z : ℤ) → P (answer.Number z)) (truth : (b : Bool) → P (answer.Truth b))
    (optional : (v : Option ℤ) → P (answer.Optional v))
    (array : (vs : List ℤ) → P (answer.Array vs)) (fault : (f : Fault) → P (answer.Fault f)) where
  of_numbers : (f : Op) (a b c : Answer) → numbers_joined f a b ≡ Some c → P c
  of_numbers f (answer.Number a) (answer.Number b) c e = subst P (the_same e) (number _)
  of_numbers f (answer.Number a) (answer.Truth b) c e = nothing e
  of_numbers f (answer.Number a) (answer.Optional b) c e = nothing e
  of_numbers f (answer.Number a) (answer.Array b) c e = nothing e
  of_numbers f (answer.Number a) (answer.Fault b) c e = nothing e
  of_numbers f (answer.Number a) (answer.Unusable b) c e = nothing e
  of_numbers f (answer.Truth a) b c e = nothing e
  of_numbers f (answer.Optional a) b c e = nothing e
  of_numbers f (answer.Array a) b c e = nothing e
  of_numbers f (answer.Fault a) b c e = nothing e
  of_numbers f (answer.Unusable a) b c e = nothing e

  of_optionals : (f : Op) (a b c : Answer) → optionals_joined f a b ≡ Some c → P c
  of_optionals f (answer.Optional a) (answer.Optional b) c e = subst P (the_same e) (optional _)
  of_optionals f (answer.Optional a) (answer.Truth b) c e = nothing e
  of_optionals f (answer.Optional a) (answer.Number b) c e = nothing e
  of_optionals f (answer.Optional a) (answer.Array b) c e = nothing e
  of_optionals f (answer.Optional a) (answer.Fault b) c e = nothing e
  of_optionals f (answer.Optional a) (answer.Unusable b) c e = nothing e
  of_optionals f (answer.Truth a) b c e = nothing e
  of_optionals f (answer.Number a) b c e = nothing e
  of_optionals f (answer.Array a) b c e = nothing e
  of_optionals f (answer.Fault a) b c e = nothing e
  of_optionals f (answer.Unusable a) b c e = nothing e

  of_arrays : (a b c : Answer) → arrays_joined a b ≡ Some c → P c
  of_arrays (answer.Array a) (answer.Array b) c e = subst P (the_same e) (array _)
  of_arrays (answer.Array a) (answer.Truth b) c e = nothing e
  of_arrays (answer.Array a) (answer.Number b) c e = nothing e
  of_arrays (answer.Array a) (answer.Optional b) c e = nothing e
  of_arrays (answer.Array a) (answer.Fault b) c e = nothing e
  of_arrays (answer.Array a) (answer.Unusable b) c e = nothing e
  of_arrays (answer.Truth a) b c e = nothing e
  of_arrays (answer.Number a) b c e = nothing e
  of_arrays (answer.Optional a) b c e = nothing e
  of_arrays (answer.Fault a) b c e = nothing e
  of_arrays (answer.Unusable a) b c e = nothing e

  of_firsts : (a b c : Answer) → firsts_joined a b ≡ Some c → P c
  of_firsts (answer.Optional a) (answer.Optional b) c e = subst P (the_same e) (optional _)
  of_firsts (answer.Optional a) (answer.Truth b) c e = nothing e
  of_firsts (answer.Optional a) (answer.Number b) c e = nothing e
  of_firsts (answer.Optional a) (answer.Array b) c e = nothing e
  of_firsts (answer.Optional a) (answer.Fault b) c e = nothing e
  of_firsts (answer.Optional a) (answer.Unusable b) c e = nothing e
  of_firsts (answer.Truth a) b c e = nothing e
  of_firsts (answer.Number a) b c e = nothing e
  of_firsts (answer.Array a) b c e = nothing e
  of_firsts (answer.Fault a) b c e = nothing e
  of_firsts (answer.Unusable a) b c e = nothing e

  of_truths : (a b c : Answer) → truths_joined a b ≡ Some c → P c
  of_truths (answer.Truth a) (answer.Truth b) c e = subst P (the_same e) (truth _)
  of_truths (answer.Truth a) (answer.Optional b) c e = nothing e
  of_truths (answer.Truth a) (answer.Number b) c e = nothing e
  of_truths (answer.Truth a) (answer.Array b) c e = nothing e
  of_truths (answer.Truth a) (answer.Fault b) c e = nothing e
  of_truths (answer.Truth a) (answer.Unusable b) c e = nothing e
  of_truths (answer.Optional a) b c e = nothing e
  of_truths (answer.Number a) b c e = nothing e
  of_truths (answer.Array a) b c e = nothing e
  of_truths (answer.Fault a) b c e = nothing e
  of_truths (answer.Unusable a) b c e = nothing e

  of_joined : (d : AbstractTerminal) (a b c : Answer) → joined d a b ≡ Some c → P c
  of_joined sum a b c e = of_numbers op.Sum a b c e
  of_joined count a b c e = of_numbers op.Sum a b c e
  of_joined min a b c e = of_optionals op.Min a b c e
  of_joined max a b c e = of_optionals op.Max a b c e
  of_joined to_array a b c e = of_arrays a b c e
  of_joined (reduce f) a b c e = of_optionals f a b c e
  of_joined (reduce_from i f) a b c e = of_numbers f a b c e
  of_joined (find first) a b c e = of_firsts a b c e
  of_joined (find (any_match p)) a b c e = of_truths a b c e
  of_joined (find (all_match p)) a b c e = of_truths a b c e
  of_joined (find (none_match p)) a b c e = of_truths a b c e
  of_joined exact_sum a b c e = nothing e

  of_fault : (t : Bool) (g : Fault) (c : Answer) → (if t then Some (answer.Fault g) else None) ≡ Some c → P c
  of_fault true g c e = subst P (the_same e) (fault g)
  of_fault false g c e = nothing e

  of_after : (d : AbstractTerminal) (before rows : ℕ) (a b c : Answer) → after b d before rows a ≡ Some c → P c
  of_after d before rows a (answer.Fault f) c e = of_fault (is_within rows f.origin) (moved before f) c e
  of_after d before rows a (answer.Number z) c e = of_joined d a (answer.Number z) c e
  of_after d before rows a (answer.Truth z) c e = of_joined d a (answer.Truth z) c e
  of_after d before rows a (answer.Optional z) c e = of_joined d a (answer.Optional z) c e
  of_after d before rows a (answer.Array z) c e = of_joined d a (answer.Array z) c e
  of_after d before rows a (answer.Unusable z) c e = of_joined d a (answer.Unusable z) c e

  either : (t : Bool) (a c : Answer) (o : Option Answer) → P a → (o ≡ Some c → P c) → (if t then Some a else o) ≡ Some c
      → P c
  either true a c o p q e = subst P (the_same e) p
  either false a c o p q e = q e

  other_way : (t u : Bool) (a c : Answer) (o : Option Answer) → P a → (o ≡ Some c → P c)
      → (if t then o else if u then Some a else None) ≡ Some c → P c
  other_way true u a c o p q e = q e
  other_way false true a c o p q e = subst P (the_same e) p
  other_way false false a c o p q e = nothing e

  of_beside : (job : AbstractJob) (before rows : ℕ) (a b c : Answer) → P a → answer_beside job before rows a b ≡ Some c
      → P c
  of_beside job before rows a b c p e =
      other_way (is_over_column job) (same_answer a b) a c (beside job.terminal before rows a b) p
      (either (is_final a job.terminal) a c (after b job.terminal before rows a) p
      (of_after job.terminal before rows a b c)) e

  of_all_beside : (jobs : List AbstractJob) (before rows : ℕ) (xs ys cs : List Answer) → Each P xs
      → answers_beside jobs before rows xs ys ≡ Some cs → Each P cs
  of_all_beside [] before rows [] [] cs h e = subst (Each P) (the_same e) tt
  of_all_beside [] before rows [] (y ∷ ys) cs h e = nothing e
  of_all_beside [] before rows (x ∷ xs) ys cs h e = nothing e
  of_all_beside (job ∷ jobs) before rows [] ys cs h e = nothing e
  of_all_beside (job ∷ jobs) before rows (x ∷ xs) [] cs h e = nothing e
  of_all_beside (job ∷ jobs) before rows (x ∷ xs) (y ∷ ys) cs h e =
      let p = both_parts (answer_beside job before rows x y) (answers_beside jobs before rows xs ys) cs e in
      subst (Each P) (sym p.4) (
        of_beside job before rows x y p.0 h.0 p.2,
        of_all_beside jobs before rows xs ys p.1 h.1 p.3,
      )

  of_number_as : (d : AbstractTerminal) (z : Option ℤ) (c : Answer) → fallback_as d z ≡ Some c → P c
  of_number_as d None c e = nothing e
  of_number_as sum (Some z) c e = subst P (the_same e) (number z)
  of_number_as count (Some z) c e = subst P (the_same e) (number z)
  of_number_as (reduce_from a f) (Some z) c e = subst P (the_same e) (number z)
  of_number_as exact_sum (Some z) c e = subst P (the_same e) (number z)
  of_number_as min (Some z) c e = subst P (the_same e) (optional (Some z))
  of_number_as max (Some z) c e = subst P (the_same e) (optional (Some z))
  of_number_as (reduce f) (Some z) c e = subst P (the_same e) (optional (Some z))
  of_number_as (find first) (Some z) c e = subst P (the_same e) (optional (Some z))
  of_number_as (find (any_match p)) (Some z) c e = nothing e
  of_number_as (find (all_match p)) (Some z) c e = nothing e
  of_number_as (find (none_match p)) (Some z) c e = nothing e
  of_number_as to_array (Some z) c e = nothing e

  of_instead : (o : Option Answer) (a : Answer) → P a → ((c : Answer) → o ≡ Some c → P c) → P (instead_of_fault o a)
  of_instead None a p q = p
  of_instead (Some b) (answer.Fault f) p q = q b refl
  of_instead (Some b) (answer.Number z) p q = p
  of_instead (Some b) (answer.Truth z) p q = p
  of_instead (Some b) (answer.Optional z) p q = p
  of_instead (Some b) (answer.Array z) p q = p
  of_instead (Some b) (answer.Unusable z) p q = p

  chosen_one : (t : Bool) (a b : Answer) → P a → P b → P (if t then a else b)
  chosen_one true a b p q = p
  chosen_one false a b p q = q

  of_fallback : (job : AbstractJob) (a : Answer) → P a → P (with_fallback job a)
  of_fallback job a p = chosen_one (is_over_column job) (instead_of_fault (fallback_of job) a) a
      (of_instead (fallback_of job) a p (of_number_as job.terminal job.on_fault)) p

  of_fallbacks : (jobs : List AbstractJob) (xs cs : List Answer) → Each P xs → with_fallbacks jobs xs ≡ Some cs
      → Each P cs
  of_fallbacks [] [] cs h e = subst (Each P) (the_same e) tt
  of_fallbacks [] (x ∷ xs) cs h e = nothing e
  of_fallbacks (job ∷ jobs) [] cs h e = nothing e
  of_fallbacks (job ∷ jobs) (x ∷ xs) cs h e =
      let p = both_parts (Some (with_fallback job x)) (with_fallbacks jobs xs) cs e in
      subst (Each P) (sym p.4) (subst P (the_same p.2) (of_fallback job x h.0), of_fallbacks jobs xs p.1 h.1 p.3)

  of_as_one : (t : Bool) (n : ℕ) (o : Option (List Answer)) (q : Part) → (if t then None else part_with n o) ≡ Some q
      → o ≡ Some q.answers
  of_as_one true n o q e = nothing e
  of_as_one false n None q e = nothing e
  of_as_one false n (Some cs) q e = ap Some (ap (λ (p : Part). p.answers) (the_same e))

  of_one : (jobs : List AbstractJob) (p q r : Part) → Each P p.answers → as_one jobs p q ≡ Some r → Each P r.answers
  of_one jobs p q r h e = of_all_beside jobs p.rows q.rows p.answers q.answers r.answers h
      (of_as_one _ _ (answers_beside jobs p.rows q.rows p.answers q.answers) r e)

  of_all_as_one : (jobs : List AbstractJob) (o : Option Part) (qs : List Part) (r : Part)
      → ((p : Part) → o ≡ Some p → Each P p.answers) → all_as_one jobs o qs ≡ Some r → Each P r.answers
  of_all_as_one jobs None qs r h e = nothing e
  of_all_as_one jobs (Some p) [] r h e = subst (λ (q : Part). Each P q.answers) (the_same e) (h p refl)
  of_all_as_one jobs (Some p) (q ∷ qs) r h e =
      of_all_as_one jobs (as_one jobs p q) qs r (λ s one. of_one jobs p q s (h p refl) one) e

  of_finished : (jobs : List AbstractJob) (o : Option Part) (cs : List Answer)
      → ((p : Part) → o ≡ Some p → Each P p.answers) → finished jobs o ≡ Some cs → Each P cs
  of_finished jobs None cs h e = nothing e
  of_finished jobs (Some p) cs h e = of_fallbacks jobs p.answers cs (h p refl) e

  first_is : (t : Bool) (p r : Part) → (if t then None else Some p) ≡ Some r → p ≡ r
  first_is true p r e = nothing e
  first_is false p r e = the_same e

  pub of_merged : (jobs : List AbstractJob) (ps : List Part) (cs : List Answer) → EachPart P ps
      → merged jobs ps ≡ Some cs → Each P cs
  of_merged jobs [] cs h e = nothing e
  of_merged jobs (p ∷ ps) cs h e =
      of_finished jobs (all_as_one jobs (first_part p) ps) cs
      (λ q one. of_all_as_one jobs (first_part p) ps q
      (λ r is. subst (λ (t : Part). Each P t.answers) (first_is _ p r is) h.0) one) e

with_each : (jobs : List AbstractJob) (xs cs : List Answer) → with_fallbacks jobs xs ≡ Some cs → length cs ≡ length jobs
with_each [] [] cs e = ap length (sym (the_same e))
with_each [] (x ∷ xs) cs e = nothing e
with_each (job ∷ jobs) [] cs e = nothing e
with_each (job ∷ jobs) (x ∷ xs) cs e =
    let p = both_parts (Some (with_fallback job x)) (with_fallbacks jobs xs) cs e in
    ap length p.4 ∙ ap suc (with_each jobs xs p.1 p.3)

-- one answer for each job
pub length_merged : (jobs : List AbstractJob) (ps : List Part) (cs : List Answer) → merged jobs ps ≡ Some cs
    → length cs ≡ length jobs
length_merged jobs [] cs e = nothing e
length_merged jobs (p ∷ ps) cs e = end (all_as_one jobs (first_part p) ps) e
  where
    end : (o : Option Part) → finished jobs o ≡ Some cs → length cs ≡ length jobs
    end None h = nothing h
    end (Some q) h = with_each jobs q.answers cs h
