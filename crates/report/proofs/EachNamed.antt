-- The answers of a file's jobs can be printed.
use Rattle.std.proofs.Common.{◌≡◌, ℕ, ℤ, suc, ◌+◌, ◌<◌, Bool, true, false, List, [], ◌∷◌, ◌++◌, length, length-append}
use Rattle.std.proofs.Common.{Option, Some, None, Result, Ok, Err, ap, refl, All, arith}
use Rattle.std.specs.Prelude.{if◌then◌else◌}
use Rattle.std.specs.List.{AllByRecursion}
use Rattle.std.proofs.lemmas.List.Elements.{All-from_recursion}
use Rattle.lambda_values.specs.Earlier.{Numbers}
use Rattle.trace.specs.declared.item.End.{End}
use Rattle.trace.specs.declared.item.End.TheVariants as end
use Rattle.trace.specs.declared.item.Fault.{Fault}
use Rattle.trace.specs.Trace.{Trace}
use Rattle.find_ops.specs.Finds.{first, any_match, all_match, none_match, find_answer}
use Rattle.find_ops.specs.declared.find_part.Found.{Found}
use Rattle.find_ops.specs.declared.find_part.Found.TheVariants as found
use Rattle.job_language.specs.Jobs.{AbstractTerminal, sum, count, min, max, to_array, reduce, reduce_from, find}
use Rattle.job_language.specs.Jobs.{exact_sum, AbstractJob, names_of}
use Rattle.job_meaning.specs.declared.answer.Answer.{Answer}
use Rattle.job_meaning.specs.declared.answer.Answer.TheVariants.{Unusable}
use Rattle.job_meaning.specs.declared.answer.Answer.TheVariants as answer
use Rattle.job_meaning.specs.Walks.{answer_of, exact_answer, fallback_as, found_answer, instead_of_fault, is_usable}
use Rattle.job_meaning.specs.Walks.{number_as, unless_fault}
use Rattle.job_meaning.specs.FileAnswers.{EarlierJob, NamedAnswer, answer_after, answers_after, first_unusable, found}
use Rattle.job_meaning.specs.FileAnswers.{found_later, job_found, jobs_found, meaning_of, numbers_of, unless_unusable}
use Rattle.job_meaning.specs.Names.{names_in_job, same_name}
use Rattle.report.specs.Named.{IsNamed}

usable_or_fault : (e : End) (a : Answer) → ((i : ℕ) → a ≡ Unusable i → ⊥) → (i : ℕ) → unless_fault e a ≡ Unusable i → ⊥
usable_or_fault end.Done a other i is = other i is
usable_or_fault (end.Fault f) a other i is = cc

usable_find : (r : Result Found Fault) (i : ℕ) → found_answer r ≡ Unusable i → ⊥
usable_find (Ok (found.Value v)) i is = cc
usable_find (Ok (found.Truth b)) i is = cc
usable_find (Err f) i is = cc

usable_exact : (r : Result ℤ Fault) (i : ℕ) → exact_answer r ≡ Unusable i → ⊥
usable_exact (Ok z) i is = cc
usable_exact (Err f) i is = cc

usable : (n : ℕ) (env : Numbers) (terminal : AbstractTerminal) (t : Trace) (i : ℕ)
    → answer_of n env terminal t ≡ Unusable i → ⊥
usable n env (find d) t = usable_find (find_answer d n env t)
usable n env exact_sum t = usable_exact _
usable n env d t = usable_or_fault t.ending _ (λ i is. cc)

-- a number that is given after a fault is no answer of this kind either
usable_number : (d : AbstractTerminal) (z : ℤ) (a : Answer) → number_as d z ≡ Some a → (i : ℕ) → a ≡ Unusable i → ⊥
usable_number (find first) z a gives i is = let e = gives in cc
usable_number (find (any_match p)) z a gives i is = let e = gives in cc
usable_number (find (all_match p)) z a gives i is = let e = gives in cc
usable_number (find (none_match p)) z a gives i is = let e = gives in cc
usable_number sum z a gives i is = let e = gives in cc
usable_number count z a gives i is = let e = gives in cc
usable_number min z a gives i is = let e = gives in cc
usable_number max z a gives i is = let e = gives in cc
usable_number to_array z a gives i is = let e = gives in cc
usable_number (reduce f) z a gives i is = let e = gives in cc
usable_number (reduce_from b f) z a gives i is = let e = gives in cc
usable_number exact_sum z a gives i is = let e = gives in cc

usable_fallback : (d : AbstractTerminal) (o : Option ℤ) (a : Answer) → fallback_as d o ≡ Some a → (i : ℕ)
    → a ≡ Unusable i → ⊥
usable_fallback d None a gives i is = let e = gives in cc
usable_fallback d (Some z) a gives i is = usable_number d z a gives i is

usable_either : (b : Option Answer) (a : Answer) → ((c : Answer) → b ≡ Some c → (i : ℕ) → c ≡ Unusable i → ⊥)
    → ((i : ℕ) → a ≡ Unusable i → ⊥) → (i : ℕ) → instead_of_fault b a ≡ Unusable i → ⊥
usable_either None a one other i is = other i is
usable_either (Some c) (answer.Fault f) one other i is = one c refl i is
usable_either (Some c) a one other i is = other i is

usable_instead : (d : AbstractTerminal) (o : Option ℤ) (a : Answer) → ((i : ℕ) → a ≡ Unusable i → ⊥) → (i : ℕ)
    → instead_of_fault (fallback_as d o) a ≡ Unusable i → ⊥
usable_instead d o a other i is = usable_either (fallback_as d o) a (usable_fallback d o) other i is

-- ---- the place of a job that is named is the place of an earlier one

chosen_low : (b : Bool) (a : Answer) (o : Option (ℕ × Answer)) (n : ℕ) → ((f : ℕ × Answer) → o ≡ Some f → f.0 < n)
    → (f : ℕ × Answer) → (if b then Some (0, a) else found_later o) ≡ Some f → f.0 < suc n
chosen_low true a o n low f is = let e : 0 ≡ f.0 = ap (λ (g : ℕ × Answer). g.0) (let z : (0, a) ≡ f = cc in z) in
    omega arith
chosen_low false a None n low f is = absurd (let z = is in cc)
chosen_low false a (Some g) n low f is =
    let e : suc g.0 ≡ f.0 = ap (λ (h : ℕ × Answer). h.0) (let z : (suc g.0, g.1) ≡ f = cc in z) in
    let l = low g refl in
    omega arith

found_low : (before : List NamedAnswer) (name : List ℕ) (f : ℕ × Answer) → found before name ≡ Some f
    → f.0 < length before
found_low [] name f is = absurd (let z = is in cc)
found_low (a ∷ before) name f is = chosen_low (same_name a.name name) a.answer (found before name) (length before)
    (found_low before name) f is

-- each of these jobs has a place below this one
abbrev AreLow : ℕ → List EarlierJob → Type 0
AreLow n [] = Unit {0}
AreLow n (j ∷ js) = (j.place < n) × AreLow n js

one_low : (n : ℕ) (name : List ℕ) (o : Option (ℕ × Answer)) (js : List EarlierJob)
    → ((f : ℕ × Answer) → o ≡ Some f → f.0 < n) → AreLow n js → AreLow n (job_found name o ++ js)
one_low n name None js low rest = rest
one_low n name (Some f) js low rest = (low f refl, rest)

jobs_low : (before : List NamedAnswer) (names : List (List ℕ)) → AreLow (length before) (jobs_found before names)
jobs_low before [] = tt
jobs_low before (name ∷ names) = one_low (length before) name (found before name) (jobs_found before names)
    (found_low before name) (jobs_low before names)

chosen_unusable : (b : Bool) (place n i : ℕ) (later : Option ℕ) → place < n → (later ≡ Some i → i < n)
    → (if b then later else Some place) ≡ Some i → i < n
chosen_unusable true place n i later low rest is = rest is
chosen_unusable false place n i later low rest is = let e : place ≡ i = cc in omega arith

first_low : (n : ℕ) (js : List EarlierJob) (i : ℕ) → AreLow n js → first_unusable js ≡ Some i → i < n
first_low n [] i low is = absurd (let z = is in cc)
first_low n (j ∷ js) i low is = chosen_unusable (is_usable j.answer) j.place n i (first_unusable js) low.0
    (first_low n js i low.1) is

answer_low : (o : Option ℕ) (a : Answer) (n : ℕ) → ((i : ℕ) → o ≡ Some i → i < n) → ((i : ℕ) → a ≡ Unusable i → ⊥)
    → (i : ℕ) → unless_unusable o a ≡ Unusable i → i < n
answer_low None a n low other i is = absurd (other i is)
answer_low (Some place) a n low other i is = low i (ap (λ (k : ℕ). Some k) (let e : place ≡ i = cc in e))

-- ---- all answers

each_named : (names : List (List ℕ)) (before : List NamedAnswer) (jobs : List AbstractJob)
    → length before + length (names_of jobs) ≡ length names → AllByRecursion (IsNamed names) (answers_after before jobs)
each_named names before [] fits = tt
each_named names before (job ∷ jobs) fits =
    let next : NamedAnswer = record { name = job.name; answer = answer_after before job } in
    let named = jobs_found before (names_in_job job) in
    let l = length-append before (next ∷ []) in (
      (λ i is. let low = answer_low (first_unusable named) _ (length before)
          (λ k. first_low (length before) named k (jobs_low before (names_in_job job)))
          (usable_instead job.terminal job.on_fault _
          (usable (suc (length job.stages)) (record { earlier = numbers_of named; table = job.table }) job.terminal _))
          i is in omega arith),
      each_named names (before ++ next ∷ []) jobs (omega arith),
    )

pub named : (jobs : List AbstractJob) → All (IsNamed (names_of jobs)) (meaning_of jobs)
named jobs = All-from_recursion (IsNamed (names_of jobs)) (meaning_of jobs)
    (each_named (names_of jobs) [] jobs (let e : 0 + length (names_of jobs) ≡ length (names_of jobs) = omega arith in
    e))

each_paired : (before : List NamedAnswer) (jobs : List AbstractJob)
    → length (names_of jobs) ≡ length (answers_after before jobs)
each_paired before [] = refl
each_paired before (job ∷ jobs) = ap suc
    (each_paired (before ++ record { name = job.name; answer = answer_after before job } ∷ []) jobs)

pub paired : (jobs : List AbstractJob) → length (names_of jobs) ≡ length (meaning_of jobs)
paired jobs = each_paired [] jobs
