-- Jobs of 64 bits have answers of 64 bits.
use Rattle.std.proofs.Common.{◌≡◌, ◌≢◌, ℕ, zero, suc, ◌+◌, ◌<◌, ◌≤◌, ◌^◌, ℤ, pos, ◌+ℤ◌, ◌-ℤ◌, Bool, true, false}
use Rattle.std.proofs.Common.{if◌then◌else◌, int_lt, unsigned_abs, List, [], ◌∷◌, ◌++◌, length, Option, Some, None}
use Rattle.std.proofs.Common.{Result, Ok, Err, slice_index_or, w64, refl, sym, ap, ◌∙◌, subst, arith}
use Rattle.std.specs.Prelude.{nat_lt, map as each_of}
use Rattle.std.specs.Cmp.Lexicographic.{other_text, same_text}
use Rattle.std.proofs.lemmas.Grind.{common_steps}
use Rattle.std.proofs.lemmas.Int.{ints}
use borrow.Author.Differences.{fits_out}
use Rattle.lambda_values.specs.declared.env.NamedNumber.{NamedNumber}
use Rattle.lambda_values.specs.declared.item.Item.{Item}
use Rattle.lambda_values.specs.Earlier.{Numbers}
use Rattle.lambda_values.specs.Streams.{counted}
use Rattle.trace.specs.Cover.{placed, too_long}
use Rattle.trace.specs.declared.item.Fault.{Fault}
use Rattle.trace.specs.declared.item.End.{End}
use Rattle.trace.specs.declared.item.End.TheVariants as end
use Rattle.trace.specs.Trace.{Trace, trace}
use Rattle.reduce_ops.specs.declared.op.Op.TheVariants as op
use Rattle.reduce_ops.specs.ExactSums.{exact_sum as exactly_summed}
use Rattle.reduce_ops.specs.Folds.{fold_from, fold_items, total}
use Rattle.reduce_ops.specs.Operators.{value_of}
use Rattle.find_ops.specs.Finds.{first, any_match, all_match, none_match, find_answer}
use Rattle.find_ops.specs.declared.find_part.Found.{Found}
use Rattle.find_ops.specs.declared.find_part.Found.TheVariants as found_part
use Rattle.job_language.specs.Jobs.{names_of, AbstractPlainSource, range, range_closed, values, result}
use Rattle.job_language.specs.Jobs.{AbstractJobStage, item, slice, prefix, sorted, distinct, AbstractTerminal, sum}
use Rattle.job_language.specs.Jobs.{count, min, max, to_array, reduce, reduce_from, find, exact_sum, AbstractJob}
use Rattle.job_meaning.specs.declared.answer.Answer.{Answer}
use Rattle.job_meaning.specs.declared.answer.Answer.TheVariants as answer
use Rattle.job_meaning.specs.FileAnswers.{EarlierJob, NamedAnswer, all_put_in, answer_after, answer_with, answers_after}
use Rattle.job_meaning.specs.FileAnswers.{array_named, first_unusable, found, found_later, job_found, jobs_found}
use Rattle.job_meaning.specs.FileAnswers.{meaning_of, numbered, numbers_of, put_in, unless_unusable}
use Rattle.job_meaning.specs.Longs.{AllFit, AnswerFits, AnswersFit, Fits, IsFirst, JobFits, JobsFit, JobStageFits}
use Rattle.job_meaning.specs.Longs.{OptionFits, SourceFits, SourcesFit, StagesFit, TerminalFits}
use Rattle.job_meaning.specs.Names.{names_in_job, same_name}
use Rattle.job_meaning.specs.Walks.{after_stage, after_stages, answer_of, answer_of_job, answer_of_walk, array_of}
use Rattle.job_meaning.specs.Walks.{exact_answer, fallback_as, fallback_of, found_answer, instead_of_fault, is_usable}
use Rattle.job_meaning.specs.Walks.{number_as, number_of, plain_values, source_walk, unless_fault, values_of}
use Rattle.job_meaning.proofs.LongValues.{as_signed, counted_fit, range_fits, wrap_fits}
use Rattle.job_meaning.proofs.LongParts.{FoundFits, SumFits, distinct_fits, exact_fits, find_fits, fold_fits}
use Rattle.job_meaning.proofs.LongParts.{folded_fits, prefix_fits, slice_fits, sorted_fits, values_fit}
use Rattle.job_meaning.proofs.LongStages.{through_fits}
use Rattle.job_meaning.proofs.LongWalks.{EndFits, EnvFits, ItemsFit, NumbersFit, WalkFits}

-- ---- sources

both_fit : (us vs : List ℤ) → AllFit us → AllFit vs → AllFit (us ++ vs)
both_fit [] vs f g = g
both_fit (u ∷ us) vs f g = (f.0, both_fit us vs f.1 g)

closed_by : (b : Bool) (v w : ℤ) → int_lt v (w +ℤ pos 1) ≡ b → Fits v → Fits w
    → AllFit (counted v (if b then unsigned_abs ((w +ℤ pos 1) -ℤ v) else 0))
closed_by true v w e f g =
    counted_fit v (unsigned_abs ((w +ℤ pos 1) -ℤ v)) (omega (arith, ints, fits_out w64 v (as_signed v f)))
    (omega (arith, ints, fits_out w64 w (as_signed w g), e))
closed_by false v w e f g = tt

plain_fits : (s : AbstractPlainSource) → SourceFits s → AllFit (plain_values s)
plain_fits (range a b) h = range_fits a b h.0 h.1
plain_fits (range_closed a b) h = closed_by (int_lt a (b +ℤ pos 1)) a b refl h.0 h.1
plain_fits (values vs) h = h
plain_fits (result name) h = tt

sources_fit : (ss : List AbstractPlainSource) → SourcesFit ss → AllFit (values_of ss)
sources_fit [] h = tt
sources_fit (s ∷ ss) h = both_fit (plain_values s) (values_of ss) (plain_fits s h.0) (sources_fit ss h.1)

placed_fit : (i : ℕ) (vs : List ℤ) → i + length vs ≤ 2 ^ 62 → AllFit vs → ItemsFit (placed i vs)
placed_fit i [] s f = tt
placed_fit i (v ∷ vs) s f = ((f.0, omega (arith, s)), placed_fit (suc i) vs (omega (arith, s)) f.1)

few : (n : ℕ) → nat_lt (2 ^ 62) n ≡ false → n ≤ 2 ^ 62
few n e = grind (arith, common_steps)

cover_by : (b : Bool) (vs : List ℤ) → nat_lt (2 ^ 62) (length vs) ≡ b → AllFit vs
    → WalkFits (if b then too_long else trace (placed 0 vs) end.Done)
cover_by true vs e f = (tt, (omega arith, tt))
cover_by false vs e f = (placed_fit 0 vs (let short = few (length vs) e in omega (arith, short)) f, tt)

source_fits : (ss : List AbstractPlainSource) → SourcesFit ss → WalkFits (source_walk ss)
source_fits ss h = cover_by (nat_lt (2 ^ 62) (length (values_of ss))) (values_of ss) refl (sources_fit ss h)

-- ---- stages

stage_fits : (n : ℕ) (g : AbstractJobStage) (env : Numbers) (t : Trace) → n < 2 ^ 64 → JobStageFits g → EnvFits env
    → WalkFits t → WalkFits (after_stage n g env t)
stage_fits n (item g) env t s h k w = through_fits n g env t s h k w
stage_fits n (slice d) env t s h k w = slice_fits d n env t s w
stage_fits n (prefix r f) env t s h k w = prefix_fits f r n t s w
stage_fits n sorted env t s h k w = sorted_fits t w
stage_fits n (distinct seen) env t s h k w = distinct_fits seen t w

stages_fit : (n : ℕ) (gs : List AbstractJobStage) (env : Numbers) (t : Trace) → n + length gs < 2 ^ 64 → StagesFit gs
    → EnvFits env → WalkFits t → WalkFits (after_stages n gs env t)
stages_fit n [] env t s h k w = w
stages_fit n (g ∷ gs) env t s h k w = stages_fit (suc n) gs env (after_stage n g env t) (omega (arith, s)) h.1 k
    (stage_fits n g env t (omega (arith, s)) h.0 k w)

-- ---- the first place of a name

abbrev named_in : List NamedAnswer → List (List ℕ)
named_in [] = []
named_in (a ∷ more) = a.name ∷ named_in more

named_next : (before : List NamedAnswer) (a : NamedAnswer) (others : List (List ℕ))
    → named_in (before ++ a ∷ []) ++ others ≡ named_in before ++ a.name ∷ others
named_next [] a others = refl
named_next (b ∷ more) a others = ap (λ (ns : List (List ℕ)). b.name ∷ ns) (named_next more a others)

abbrev IsFirstOf : List (List ℕ) → List ℕ → ℕ → Type 0
IsFirstOf names name place = (place < length names) × (slice_index_or names place [] ≡ name)
    × ((i : ℕ) → i < place → slice_index_or names i [] ≢ name)

abbrev MayBeFirst : List (List ℕ) → List ℕ → Option (ℕ × Answer) → Type 0
MayBeFirst names name None = Unit {0}
MayBeFirst names name (Some p) = IsFirstOf names name p.0

later_first : (other : List ℕ) (names : List (List ℕ)) (name : List ℕ) (o : Option (ℕ × Answer)) → other ≢ name
    → MayBeFirst names name o → MayBeFirst (other ∷ names) name (found_later o)
later_first other names name None differs h = tt
later_first other names name (Some p) differs h = (omega (arith, h.0), h.1, below) where
  below : (i : ℕ) → i < suc p.0 → slice_index_or (other ∷ names) i [] ≢ name
  below zero less = differs
  below (suc i) less = h.2 i (omega (arith, less))

first_by : (b : Bool) (a : NamedAnswer) (more : List NamedAnswer) (name : List ℕ) → same_name a.name name ≡ b
    → MayBeFirst (named_in more) name (found more name)
    → MayBeFirst (a.name ∷ named_in more) name (if b then Some (0, a.answer) else found_later (found more name))
first_by true a more name e h = (omega arith, same_text a.name name (sym e), λ i less. absurd (omega (arith, less)))
first_by false a more name e h = later_first a.name (named_in more) name (found more name)
    (other_text a.name name (sym e)) h

found_first : (before : List NamedAnswer) (name : List ℕ) → MayBeFirst (named_in before) name (found before name)
found_first [] name = tt
found_first (a ∷ more) name = first_by (same_name a.name name) a more name refl (found_first more name)

in_front : (xs ys : List (List ℕ)) (i : ℕ) → i < length xs → slice_index_or (xs ++ ys) i [] ≡ slice_index_or xs i []
in_front [] ys i less = absurd (omega (arith, less))
in_front (x ∷ xs) ys zero less = refl
in_front (x ∷ xs) ys (suc i) less = in_front xs ys i (omega (arith, less))

first_of_all : (xs ys : List (List ℕ)) (name : List ℕ) (place : ℕ) → IsFirstOf xs name place → IsFirst (xs ++ ys) place
first_of_all xs ys name place known i less e =
    known.2 i less (sym (in_front xs ys i (omega (arith, less, known.0))) ∙ e ∙ in_front xs ys place known.0 ∙ known.1)

answered : (before : List NamedAnswer) (jobs : List AbstractJob)
    → length (names_of jobs) ≡ length (answers_after before jobs)
answered before [] = refl
answered before (job ∷ jobs) = ap suc (answered
    (before ++ record { name = job.name; answer = answer_after before job } ∷ []) jobs)

module _ (names : List (List ℕ)) where
  -- ---- terminals

  unless_fits : (e : End) (a : Answer) → EndFits e → AnswerFits names a → AnswerFits names (unless_fault e a)
  unless_fits end.Done a h f = f
  unless_fits (end.Fault g) a h f = h

  found_fits : (r : Result Found Fault) → FoundFits r → AnswerFits names (found_answer r)
  found_fits (Ok (found_part.Value v)) h = h
  found_fits (Ok (found_part.Truth b)) h = tt
  found_fits (Err f) h = h

  exact_answer_fits : (r : Result ℤ Fault) → SumFits r → AnswerFits names (exact_answer r)
  exact_answer_fits (Ok z) h = h
  exact_answer_fits (Err f) h = h

  terminal_fits : (n : ℕ) (env : Numbers) (d : AbstractTerminal) (t : Trace) → n < 2 ^ 64 → TerminalFits d → WalkFits t
      → AnswerFits names (answer_of n env d t)
  terminal_fits n env sum t s h w = unless_fits t.ending _ w.1 (wrap_fits (total t.items))
  terminal_fits n env count t s h w = unless_fits t.ending _ w.1 (wrap_fits (pos (length t.items)))
  terminal_fits n env min t s h w = unless_fits t.ending _ w.1 (folded_fits op.Min t.items w.0)
  terminal_fits n env max t s h w = unless_fits t.ending _ w.1 (folded_fits op.Max t.items w.0)
  terminal_fits n env to_array t s h w =
      unless_fits t.ending (answer.Array (each_of (λ (x : Item). x.value) t.items)) w.1 (values_fit t.items w.0)
  terminal_fits n env (reduce f) t s h w =
      unless_fits t.ending (answer.Optional (fold_items (value_of f) t.items)) w.1 (folded_fits f t.items w.0)
  terminal_fits n env (reduce_from a f) t s h w =
      unless_fits t.ending (answer.Number (fold_from (value_of f) a t.items)) w.1 (fold_fits f a t.items h w.0)
  terminal_fits n env (find d) t s h w = found_fits (find_answer d n env t) (find_fits d n env t s w)
  terminal_fits n env exact_sum t s h w = exact_answer_fits (exactly_summed n t) (exact_fits n t s w)

  abbrev MayFit : Option Answer → Type 0
  MayFit None = Unit {0}
  MayFit (Some a) = AnswerFits names a

  number_as_fits : (d : AbstractTerminal) (z : ℤ) → Fits z → MayFit (number_as d z)
  number_as_fits sum z f = f
  number_as_fits count z f = f
  number_as_fits (reduce_from a g) z f = f
  number_as_fits exact_sum z f = f
  number_as_fits min z f = f
  number_as_fits max z f = f
  number_as_fits (reduce g) z f = f
  number_as_fits (find first) z f = f
  number_as_fits (find (any_match p)) z f = tt
  number_as_fits (find (all_match p)) z f = tt
  number_as_fits (find (none_match p)) z f = tt
  number_as_fits to_array z f = tt

  fallback_fits : (d : AbstractTerminal) (o : Option ℤ) → OptionFits o → MayFit (fallback_as d o)
  fallback_fits d None h = tt
  fallback_fits d (Some z) h = number_as_fits d z h

  instead_fits : (o : Option Answer) (a : Answer) → MayFit o → AnswerFits names a
      → AnswerFits names (instead_of_fault o a)
  instead_fits None a h f = f
  instead_fits (Some b) (answer.Fault g) h f = h
  instead_fits (Some b) (answer.Number z) h f = f
  instead_fits (Some b) (answer.Truth t) h f = f
  instead_fits (Some b) (answer.Optional v) h f = f
  instead_fits (Some b) (answer.Array vs) h f = f
  instead_fits (Some b) (answer.Unusable place) h f = f

  -- ---- one job

  pub job_fits : (env : Numbers) (job : AbstractJob) → EnvFits env → JobFits job
      → AnswerFits names (answer_of_job env job)
  job_fits env job k h =
      let walk = stages_fit 1 job.stages env (source_walk job.sources) (let few = h.count in omega (arith, few))
      h.stages k (source_fits job.sources h.sources) in
      let last = terminal_fits (suc (length job.stages)) env job.terminal
      (after_stages 1 job.stages env (source_walk job.sources)) h.count h.terminal walk in
      instead_fits (fallback_of job) (answer_of_walk env job) (fallback_fits job.terminal job.on_fault h.on_fault) last

  -- ---- jobs that name jobs

  abbrev BeforeFit : List NamedAnswer → Type 0
  BeforeFit [] = Unit {0}
  BeforeFit (a ∷ more) = AnswerFits names a.answer × BeforeFit more

  -- the names of these jobs, and then others, are all names
  abbrev StandsBefore : List NamedAnswer → List (List ℕ) → Type 0
  StandsBefore before others = named_in before ++ others ≡ names

  abbrev EarlierFit : List EarlierJob → Type 0
  EarlierFit [] = Unit {0}
  EarlierFit (j ∷ js) = (AnswerFits names j.answer × IsFirst names j.place) × EarlierFit js

  abbrev MayBePlace : Option ℕ → Type 0
  MayBePlace None = Unit {0}
  MayBePlace (Some place) = IsFirst names place

  abbrev FoundJobFits : Option (ℕ × Answer) → Type 0
  FoundJobFits None = Unit {0}
  FoundJobFits (Some p) = AnswerFits names p.1

  later_fits : (o : Option (ℕ × Answer)) → FoundJobFits o → FoundJobFits (found_later o)
  later_fits None h = tt
  later_fits (Some p) h = h

  found_by : (b : Bool) (a : Answer) (o : Option (ℕ × Answer)) → AnswerFits names a → FoundJobFits o
      → FoundJobFits (if b then Some (0, a) else o)
  found_by true a o f g = f
  found_by false a o f g = g

  found_job_fits : (before : List NamedAnswer) (name : List ℕ) → BeforeFit before → FoundJobFits (found before name)
  found_job_fits [] name h = tt
  found_job_fits (a ∷ more) name h = found_by (same_name a.name name) a.answer (found_later (found more name)) h.0
      (later_fits (found more name) (found_job_fits more name h.1))

  earlier_both : (js ks : List EarlierJob) → EarlierFit js → EarlierFit ks → EarlierFit (js ++ ks)
  earlier_both [] ks f g = g
  earlier_both (j ∷ js) ks f g = (f.0, earlier_both js ks f.1 g)

  job_found_fits : (before : List NamedAnswer) (others : List (List ℕ)) (name : List ℕ) (o : Option (ℕ × Answer))
      → FoundJobFits o → MayBeFirst (named_in before) name o → StandsBefore before others
      → EarlierFit (job_found name o)
  job_found_fits before others name None h place all = tt
  job_found_fits before others name (Some p) h place all = (
    (h, subst (λ (ns : List (List ℕ)). IsFirst ns p.0) all (first_of_all (named_in before) others name p.0 place)),
    tt,
  )

  jobs_found_fit : (before : List NamedAnswer) (others asked : List (List ℕ)) → BeforeFit before
      → StandsBefore before others → EarlierFit (jobs_found before asked)
  jobs_found_fit before others [] h all = tt
  jobs_found_fit before others (name ∷ asked) h all =
      earlier_both (job_found name (found before name)) (jobs_found before asked)
      (job_found_fits before others name (found before name) (found_job_fits before name h) (found_first before name)
      all) (jobs_found_fit before others asked h all)

  number_fits : (a : Answer) → AnswerFits names a → OptionFits (number_of a)
  number_fits (answer.Number z) h = h
  number_fits (answer.Truth b) h = tt
  number_fits (answer.Optional v) h = h
  number_fits (answer.Array vs) h = tt
  number_fits (answer.Fault f) h = tt
  number_fits (answer.Unusable place) h = tt

  array_fits : (a : Answer) → AnswerFits names a → AllFit (array_of a)
  array_fits (answer.Number z) h = tt
  array_fits (answer.Truth b) h = tt
  array_fits (answer.Optional v) h = tt
  array_fits (answer.Array vs) h = h
  array_fits (answer.Fault f) h = tt
  array_fits (answer.Unusable place) h = tt

  numbers_both : (ms ns : List NamedNumber) → NumbersFit ms → NumbersFit ns → NumbersFit (ms ++ ns)
  numbers_both [] ns f g = g
  numbers_both (m ∷ ms) ns f g = (f.0, numbers_both ms ns f.1 g)

  numbered_fits : (name : List ℕ) (o : Option ℤ) → OptionFits o → NumbersFit (numbered name o)
  numbered_fits name None h = tt
  numbered_fits name (Some z) h = (h, tt)

  numbers_fit : (js : List EarlierJob) → EarlierFit js → NumbersFit (numbers_of js)
  numbers_fit [] h = tt
  numbers_fit (j ∷ js) h = numbers_both (numbered j.name (number_of j.answer)) (numbers_of js)
      (numbered_fits j.name (number_of j.answer) (number_fits j.answer h.0.0)) (numbers_fit js h.1)

  chosen_array : (b : Bool) (us vs : List ℤ) → AllFit us → AllFit vs → AllFit (if b then us else vs)
  chosen_array true us vs f g = f
  chosen_array false us vs f g = g

  named_array_fits : (js : List EarlierJob) (name : List ℕ) → EarlierFit js → AllFit (array_named js name)
  named_array_fits [] name h = tt
  named_array_fits (j ∷ js) name h = chosen_array (same_name j.name name) (array_of j.answer) (array_named js name)
      (array_fits j.answer h.0.0) (named_array_fits js name h.1)

  put_in_fits : (js : List EarlierJob) (s : AbstractPlainSource) → EarlierFit js → SourceFits s
      → SourceFits (put_in js s)
  put_in_fits js (range a b) h f = f
  put_in_fits js (range_closed a b) h f = f
  put_in_fits js (values vs) h f = f
  put_in_fits js (result name) h f = named_array_fits js name h

  all_put_in_fit : (js : List EarlierJob) (ss : List AbstractPlainSource) → EarlierFit js → SourcesFit ss
      → SourcesFit (all_put_in js ss)
  all_put_in_fit js [] h f = tt
  all_put_in_fit js (s ∷ ss) h f = (put_in_fits js s h f.0, all_put_in_fit js ss h f.1)

  unusable_place : (b : Bool) (place : ℕ) (o : Option ℕ) → IsFirst names place → MayBePlace o
      → MayBePlace (if b then o else Some place)
  unusable_place true place o f g = g
  unusable_place false place o f g = f

  unusable_fits : (js : List EarlierJob) → EarlierFit js → MayBePlace (first_unusable js)
  unusable_fits [] h = tt
  unusable_fits (j ∷ js) h = unusable_place (is_usable j.answer) j.place (first_unusable js) h.0.1
      (unusable_fits js h.1)

  unless_unusable_fits : (o : Option ℕ) (a : Answer) → MayBePlace o → AnswerFits names a
      → AnswerFits names (unless_unusable o a)
  unless_unusable_fits None a h f = f
  unless_unusable_fits (Some place) a h f = h

  answer_with_fits : (js : List EarlierJob) (job : AbstractJob) → EarlierFit js → JobFits job
      → AnswerFits names (answer_with js job)
  answer_with_fits js job k h =
      let put = record job { sources = all_put_in js job.sources } in
      let env : Numbers = record { earlier = numbers_of js; table = job.table } in
      let fits : JobFits put =
      record {
        sources = all_put_in_fit js job.sources k h.sources;
        stages = h.stages;
        count = h.count;
        terminal = h.terminal;
        on_fault = h.on_fault;
        table = h.table;
      } in
      unless_unusable_fits (first_unusable js) (answer_of_job env put) (unusable_fits js k)
      (job_fits env put (numbers_fit js k, h.table) fits)

  before_and : (before : List NamedAnswer) (a : NamedAnswer) → BeforeFit before → AnswerFits names a.answer
      → BeforeFit (before ++ a ∷ [])
  before_and [] a f g = (g, tt)
  before_and (b ∷ more) a f g = (f.0, before_and more a f.1 g)

  answers_fit : (before : List NamedAnswer) (jobs : List AbstractJob) → BeforeFit before
      → StandsBefore before (names_of jobs) → JobsFit jobs → AnswersFit names (answers_after before jobs)
  answers_fit before [] k all h = tt
  answers_fit before (job ∷ jobs) k all h =
      let fits = answer_with_fits (jobs_found before (names_in_job job)) job
      (jobs_found_fit before (names_of (job ∷ jobs)) (names_in_job job) k all) h.0 in
      let next : NamedAnswer = record { name = job.name; answer = answer_after before job } in (
        fits,
        answers_fit (before ++ next ∷ []) jobs (before_and before next k fits)
            (named_next before next (names_of jobs) ∙ all) h.1,
      )

pub meaning_fits : (jobs : List AbstractJob) → JobsFit jobs → AnswersFit (names_of jobs) (meaning_of jobs)
meaning_fits jobs h = answers_fit (names_of jobs) [] jobs tt refl h

pub each_answered : (jobs : List AbstractJob) → length (names_of jobs) ≡ length (meaning_of jobs)
each_answered jobs = answered [] jobs
