-- The answers of one job over rows, and over the rows after them, as one.
use Rattle.std.proofs.Common.{◌≡◌, ℕ, suc, ◌+◌, ◌≤◌, ◌^◌, ℤ, Bool, true, false, List, [], ◌∷◌, ◌++◌, length}
use Rattle.std.proofs.Common.{length-append, Option, Some, None, refl, sym, ap, subst, ◌∙◌, arith}
use Rattle.std.specs.Prelude.{◌&&◌, ◌||◌, if◌then◌else◌}
use Rattle.std.specs.List.{list_all}
use Rattle.tables.specs.Table.{NamedColumn}
use Rattle.lambda_values.specs.declared.env.NamedNumber.{NamedNumber}
use Rattle.lambda_values.specs.Earlier.{Numbers}
use Rattle.trace.specs.Trace.{Trace, append}
use Rattle.job_language.specs.Jobs.{AbstractPlainSource, range, range_closed, values, result, AbstractJobStage}
use Rattle.job_language.specs.Jobs.{AbstractTerminal, AbstractJob}
use Rattle.job_language.specs.Places.{stage_is_placeless, terminal_is_placeless}
use Rattle.job_meaning.specs.declared.answer.Answer.{Answer}
use Rattle.job_meaning.specs.FileAnswers.{EarlierJob, NamedAnswer, all_put_in, answer_after, first_unusable, jobs_found}
use Rattle.job_meaning.specs.FileAnswers.{numbers_of, unless_unusable}
use Rattle.job_meaning.specs.Names.{names_in_job}
use Rattle.job_meaning.specs.Walks.{after_stages, answer_of, fallback_of, instead_of_fault, plain_values, source_walk}
use Rattle.report_merge.specs.Cuts.{asked_job}
use Rattle.report_merge.specs.declared.unmergeable.Unmergeable.{Unmergeable}
use Rattle.report_merge.specs.declared.unmergeable.Unmergeable.TheVariants as cause
use Rattle.report_merge.specs.Mergeable.{are_items, cause_below, column_cause, first_of_two, has_column_job, is_column}
use Rattle.report_merge.specs.Mergeable.{is_over_column, is_single, job_is_placeless, reads_column, terminal_cause}
use Rattle.report_merge.specs.Mergeable.{unless}
use Rattle.report_merge.specs.Merging.{answer_beside, beside, same_answer, with_fallback}
use Rattle.report_merge.proofs.AnswerLemmas.{answer_over, answers_join}
use Rattle.report_merge.proofs.LaterLemmas.{Within, later, one_source, stages_joined, stages_later, stages_over}
use Rattle.report_merge.proofs.LaterLemmas.{stages_within, walk_joined, walk_over, walk_within}
use Rattle.report_merge.proofs.SameAnswers.{same_self}
use Rattle.report_merge.proofs.NamedLemmas.{Alike, answer_alike, jobs_alike}
use Rattle.report_merge.proofs.Written.{Cells, Named, WrittenJob, WrittenSource, column, literal, filled, filled_source}
use Rattle.report_merge.proofs.Written.{filled_sources, job_names_same, no_cells, no_column, no_table, none_named}

impossible : {A : Type 0} → false ≡ true → A
impossible h = absurd (let z : false ≡ true = h in cc)

-- the cells over the third rows are those over the first ones and then those over the second
pub record AreJoined (k m : ℕ) (gx gy gz : Cells) : Type 0 where
  pub whole : (w : List ℕ) → gz.named w ≡ gx.named w ++ gy.named w
  pub left : (w : List ℕ) → length (gx.named w) ≡ k
  pub right : (w : List ℕ) → length (gy.named w) ≡ m
  pub few : k + m ≤ 2 ^ 62

-- ---- the walk over a column

record SourceJoins (k m : ℕ) (vs ws us : List ℤ) : Type 0 where
  walk : walk_over us ≡ append (walk_over vs) (later k (walk_over ws))
  within : Within m (walk_over ws)
  left : length vs ≤ 2 ^ 62
  right : length ws ≤ 2 ^ 62
  both : length us ≤ 2 ^ 62

column_joins : (k m : ℕ) (vs ws us : List ℤ) → us ≡ vs ++ ws → length vs ≡ k → length ws ≡ m → k + m ≤ 2 ^ 62
    → SourceJoins k m vs ws us
column_joins k m vs ws us whole left right few = record {
  walk = ap walk_over whole ∙ walk_joined vs ws ∙ ap (λ (j : ℕ). append (walk_over vs) (later j (walk_over ws))) left;
  within = subst (λ (j : ℕ). Within j (walk_over ws)) right (walk_within ws);
  left = omega (arith, left, few);
  right = omega (arith, right, few);
  both = let e : length us ≡ length vs + length ws = ap length whole ∙ length-append vs ws in
      omega (arith, e, left, right, few);
}

nothing_joins : (k m : ℕ) → SourceJoins k m [] [] []
nothing_joins k m = record {
  walk = refl;
  within = record { items = tt; ending = tt };
  left = omega arith;
  right = omega arith;
  both = omega arith;
}

module _ (k m : ℕ) (gx gy gz : Cells) (joined : AreJoined k m gx gy gz) where
  source_joins : (s : WrittenSource) → is_column (filled_source none_named s) ≡ true
      → SourceJoins k m (plain_values (filled_source gx.named s)) (plain_values (filled_source gy.named s))
      (plain_values (filled_source gz.named s))
  source_joins (column w) h = column_joins k m (gx.named w) (gy.named w) (gz.named w) (joined.whole w) (joined.left w)
      (joined.right w) joined.few
  source_joins (literal (values [])) h = nothing_joins k m
  source_joins (literal (values (v ∷ vs))) h = impossible h
  source_joins (literal (range a b)) h = impossible h
  source_joins (literal (range_closed a b)) h = impossible h
  source_joins (literal (result name)) h = impossible h

  only : (b : Bool) → (b || false) ≡ true → b ≡ true
  only true h = refl
  only false h = impossible h

  module _ (gs : List AbstractJobStage) (d : AbstractTerminal) (n : ℕ) (env : Numbers) (items : are_items gs ≡ true)
      (placeless : list_all stage_is_placeless gs ≡ true) (ends : terminal_is_placeless d ≡ true)
      (good : terminal_cause d ≡ None) where
    abbrev walked : List ℤ → Trace
    walked vs = after_stages 1 gs env (walk_over vs)

    one_joins : (rx ry rz : AbstractPlainSource) → SourceJoins k m (plain_values rx) (plain_values ry) (plain_values rz)
        → beside d k m (answer_of n env d (after_stages 1 gs env (source_walk (rx ∷ []))))
        (answer_of n env d (after_stages 1 gs env (source_walk (ry ∷ []))))
        ≡ Some (answer_of n env d (after_stages 1 gs env (source_walk (rz ∷ []))))
    one_joins rx ry rz j =
        let vs = plain_values rx in
        let ws = plain_values ry in
        let ex : source_walk (rx ∷ []) ≡ walk_over vs = one_source rx vs refl j.left in
        let ey : source_walk (ry ∷ []) ≡ walk_over ws = one_source ry ws refl j.right in
        let ez : source_walk (rz ∷ []) ≡ walk_over (plain_values rz) = one_source rz (plain_values rz) refl j.both in
        let back : append (walked vs) (later k (walked ws)) ≡ after_stages 1 gs env (source_walk (rz ∷ [])) =
        ap (append (walked vs)) (sym (stages_later k 1 gs env (walk_over ws) items placeless))
        ∙ sym (stages_joined 1 gs env (walk_over vs) (later k (walk_over ws)) items)
        ∙ ap (after_stages 1 gs env) (sym j.walk ∙ sym ez) in
        (λ i. beside d k m (answer_of n env d (after_stages 1 gs env (ex i)))
        (answer_of n env d (after_stages 1 gs env (ey i))))
        ∙ answers_join d n env k m (walked vs) (walked ws) good ends
        (stages_within m 1 gs env (walk_over ws) items j.within)
        ∙ ap (λ (t : Trace). Some (answer_of n env d t)) back

    walks_join : (ss : List WrittenSource) → is_single (filled_sources none_named ss) ≡ true
        → reads_column (filled_sources none_named ss) ≡ true
        → beside d k m (answer_of n env d (after_stages 1 gs env (source_walk (filled_sources gx.named ss))))
        (answer_of n env d (after_stages 1 gs env (source_walk (filled_sources gy.named ss))))
        ≡ Some (answer_of n env d (after_stages 1 gs env (source_walk (filled_sources gz.named ss))))
    walks_join [] h c = impossible h
    walks_join (s ∷ t ∷ ss) h c = impossible h
    walks_join (s ∷ []) h c = one_joins (filled_source gx.named s) (filled_source gy.named s) (filled_source gz.named s)
        (source_joins s (only (is_column (filled_source none_named s)) c))

-- ---- why a job can't be merged

first_none : (a b : Option Unmergeable) → first_of_two a b ≡ None → (a ≡ None) × (b ≡ None)
first_none None b h = (refl, h)
first_none (Some c) b h = absurd cc

unless_none : (t : Bool) (c : Unmergeable) → unless t c ≡ None → t ≡ true
unless_none true c h = refl
unless_none false c h = absurd cc

and_true : (a b : Bool) → (a && b) ≡ true → (a ≡ true) × (b ≡ true)
and_true true b h = (refl, h)
and_true false b h = impossible h

none_below : (t u : Bool) (o : Option Unmergeable)
    → (if t then Some cause.NamesMerged else if u then o else None) ≡ None → (t ≡ false) × (u ≡ true → o ≡ None)
none_below true u o h = absurd cc
none_below false true o h = (refl, λ k. h)
none_below false false o h = (refl, λ k. impossible k)

pub cause_none : (above : List AbstractJob) (job : AbstractJob) → cause_below above job ≡ None
    → (has_column_job above (names_in_job job) ≡ false) × (is_over_column job ≡ true → column_cause job ≡ None)
cause_none above job h = none_below (has_column_job above (names_in_job job)) (is_over_column job) (column_cause job) h

-- ---- the answer after the answers above it

put_same : (ss : List WrittenSource) (g : Named) (b : List EarlierJob) → is_single (filled_sources none_named ss) ≡ true
    → reads_column (filled_sources none_named ss) ≡ true → all_put_in b (filled_sources g ss) ≡ filled_sources g ss
put_same [] g b h c = refl
put_same (s ∷ t ∷ ss) g b h c = impossible h
put_same (column w ∷ []) g b h c = refl
put_same (literal (range x y) ∷ []) g b h c = refl
put_same (literal (range_closed x y) ∷ []) g b h c = refl
put_same (literal (values vs) ∷ []) g b h c = refl
put_same (literal (result name) ∷ []) g b h c = impossible c

usable_joins : (d : AbstractTerminal) (k m : ℕ) (o : Option ℕ) (a b c : Answer) → beside d k m a b ≡ Some c
    → beside d k m (unless_unusable o a) (unless_unusable o b) ≡ Some (unless_unusable o c)
usable_joins d k m None a b c h = h
usable_joins d k m (Some place) a b c h = refl

fallback_usable : (f : Option Answer) (o : Option ℕ) (a : Answer)
    → instead_of_fault f (unless_unusable o a) ≡ unless_unusable o (instead_of_fault f a)
fallback_usable f None a = refl
fallback_usable None (Some place) a = refl
fallback_usable (Some b) (Some place) a = refl

-- a job without its `onFault`
abbrev bare : AbstractJob → AbstractJob
bare job = record job { on_fault = None }

module _ (header : List NamedColumn) (job : WrittenJob) (above : List AbstractJob)
    (mergeable : cause_below above (filled (no_cells header) job) ≡ None) where
  abbrev over_header : AbstractJob
  over_header = filled (no_cells header) job

  abbrev names : List (List ℕ)
  names = names_in_job over_header

  -- why the job can't be merged, its sources aside; and its stages' kinds aside
  abbrev beside_stages : Option Unmergeable
  beside_stages = first_of_two (unless (job_is_placeless over_header) cause.Row) (terminal_cause job.terminal)

  abbrev beside_sources : Option Unmergeable
  beside_sources = first_of_two (unless (are_items job.stages) cause.Stage) beside_stages

  abbrev walk_answer : Numbers → List AbstractPlainSource → Answer
  walk_answer env ss = answer_of (suc (length job.stages)) env job.terminal
      (after_stages 1 job.stages env (source_walk ss))

  -- what is seen beside the items: the numbers of these jobs
  abbrev seen : List EarlierJob → Numbers
  seen named = record { earlier = numbers_of named; table = [] }

  names_none : has_column_job above names ≡ false
  names_none = (cause_none above over_header mergeable).0

  module _ (c : is_over_column over_header ≡ true) where
    single : is_single (filled_sources none_named job.sources) ≡ true
    single = unless_none (is_single (filled_sources none_named job.sources)) cause.Concat
        (first_none (unless (is_single (filled_sources none_named job.sources)) cause.Concat) beside_sources
        ((cause_none above over_header mergeable).1 c)).0

    after_sources : beside_sources ≡ None
    after_sources = (first_none (unless (is_single (filled_sources none_named job.sources)) cause.Concat) beside_sources
        ((cause_none above over_header mergeable).1 c)).1

    items : are_items job.stages ≡ true
    items = unless_none (are_items job.stages) cause.Stage
        (first_none (unless (are_items job.stages) cause.Stage) beside_stages after_sources).0

    after_stages_none : beside_stages ≡ None
    after_stages_none = (first_none (unless (are_items job.stages) cause.Stage) beside_stages after_sources).1

    placeless : (list_all stage_is_placeless job.stages ≡ true) × (terminal_is_placeless job.terminal ≡ true)
    placeless =
        and_true (list_all stage_is_placeless job.stages) (terminal_is_placeless job.terminal)
        (unless_none (job_is_placeless over_header) cause.Row
        (first_none (unless (job_is_placeless over_header) cause.Row) (terminal_cause job.terminal)
        after_stages_none).0)

    good : terminal_cause job.terminal ≡ None
    good = (first_none (unless (job_is_placeless over_header) cause.Row) (terminal_cause job.terminal)
        after_stages_none).1

    -- the answer of a walk doesn't depend on the table
    walk_same : (named : List NamedNumber) (t : List NamedColumn) (ss : List AbstractPlainSource)
        → walk_answer (record { earlier = named; table = t }) ss
        ≡ walk_answer (record { earlier = named; table = [] }) ss
    walk_same named t ss =
        let a : Numbers = record { earlier = named; table = t } in
        let b : Numbers = record { earlier = named; table = [] } in
        answer_over (suc (length job.stages)) a b refl job.terminal (after_stages 1 job.stages a (source_walk ss))
        placeless.1
        ∙ ap (answer_of (suc (length job.stages)) b job.terminal)
        (stages_over a b refl 1 job.stages (source_walk ss) items placeless.0)

    module _ (bs cs : List NamedAnswer) (alike : Alike above bs cs) (g : Cells) where
      same_jobs : jobs_found bs (names_in_job (filled g job)) ≡ jobs_found cs names
      same_jobs = ap (jobs_found bs) (job_names_same g (no_cells header) job)
          ∙ jobs_alike above bs cs alike names names_none

      abbrev seen_with : List EarlierJob → Numbers
      seen_with named = record { earlier = numbers_of named; table = (filled g job).table }

      abbrev sources : List AbstractPlainSource
      sources = filled_sources g.named job.sources

      walk_is : walk_answer (seen_with (jobs_found cs names)) (all_put_in (jobs_found cs names) sources)
          ≡ walk_answer (seen (jobs_found cs names)) sources
      walk_is =
          ap (walk_answer (seen_with (jobs_found cs names)))
          (put_same job.sources g.named (jobs_found cs names) single c)
          ∙ walk_same (numbers_of (jobs_found cs names)) (filled g job).table sources

      -- of a job over a column
      bare_answer : answer_after bs (bare (filled g job))
          ≡ unless_unusable (first_unusable (jobs_found cs names)) (walk_answer (seen (jobs_found cs names)) sources)
      bare_answer =
          (λ i. unless_unusable (first_unusable (same_jobs i))
          (walk_answer (seen_with (same_jobs i)) (all_put_in (same_jobs i) sources)))
          ∙ ap (unless_unusable (first_unusable (jobs_found cs names))) walk_is

      full_answer : answer_after bs (filled g job)
          ≡ unless_unusable (first_unusable (jobs_found cs names))
          (instead_of_fault (fallback_of over_header) (walk_answer (seen (jobs_found cs names)) sources))
      full_answer =
          (λ i. unless_unusable (first_unusable (same_jobs i))
          (instead_of_fault (fallback_of over_header)
          (walk_answer (seen_with (same_jobs i)) (all_put_in (same_jobs i) sources))))
          ∙ ap (λ (a : Answer). unless_unusable (first_unusable (jobs_found cs names))
          (instead_of_fault (fallback_of over_header) a)) walk_is

  -- of a job that reads no column
  plain_answer : is_over_column over_header ≡ false → (bs cs : List NamedAnswer) → Alike above bs cs → (g h : Cells)
      → answer_after bs (filled g job) ≡ answer_after cs (filled h job)
  plain_answer c bs cs alike g h =
      answer_alike above bs cs alike (filled g job)
      (ap (has_column_job above) (job_names_same g (no_cells header) job) ∙ names_none)
      ∙ (λ i. answer_after cs (record {
        name = job.name;
        sources = no_column g.named h.named job.sources c i;
        stages = job.stages;
        terminal = job.terminal;
        on_fault = job.on_fault;
        table = no_table g h job c i;
      }))

  -- helper: the job that is asked
  abbrev when_over : Bool → AbstractJob → AbstractJob
  when_over t j = if t then bare j else j

  pub plain_asked : (bs cs : List NamedAnswer) → Alike above bs cs → (g h : Cells) → is_over_column over_header ≡ false
      → answer_after bs (asked_job over_header (filled g job)) ≡ answer_after cs (asked_job over_header (filled h job))
  plain_asked bs cs alike g h c =
      ap (λ (t : Bool). answer_after bs (when_over t (filled g job))) c ∙ plain_answer c bs cs alike g h
      ∙ sym (ap (λ (t : Bool). answer_after cs (when_over t (filled h job))) c)

  pub plain_full : (bs cs : List NamedAnswer) → Alike above bs cs → (g h : Cells) → is_over_column over_header ≡ false
      → answer_after bs (asked_job over_header (filled g job)) ≡ answer_after cs (filled h job)
  plain_full bs cs alike g h c = ap (λ (t : Bool). answer_after bs (when_over t (filled g job))) c
      ∙ plain_answer c bs cs alike g h

  module _ (k m : ℕ) (gx gy gz : Cells) (joined : AreJoined k m gx gy gz) (bx by bz : List NamedAnswer)
      (left : Alike above bx bz) (right : Alike above by bz) (self : Alike above bz bz) where
    by_kind : (t : Bool) → is_over_column over_header ≡ t
        → (if t then beside job.terminal k m (answer_after bx (when_over t (filled gx job)))
        (answer_after by (when_over t (filled gy job)))
        else if same_answer (answer_after bx (when_over t (filled gx job)))
        (answer_after by (when_over t (filled gy job))) then Some (answer_after bx (when_over t (filled gx job)))
        else None) ≡ Some (answer_after bz (when_over t (filled gz job)))
    by_kind true c =
        let named = jobs_found bz names in
        let env = seen named in
        (λ i. beside job.terminal k m (bare_answer c bx bz left gx i) (bare_answer c by bz right gy i))
        ∙ usable_joins job.terminal k m (first_unusable named) (walk_answer env (filled_sources gx.named job.sources))
        (walk_answer env (filled_sources gy.named job.sources))
        (walk_answer env (filled_sources gz.named job.sources))
        (walks_join k m gx gy gz joined job.stages job.terminal (suc (length job.stages)) env (items c) (placeless c).0
        (placeless c).1 (good c) job.sources (single c) c)
        ∙ ap Some (sym (bare_answer c bz bz self gz))
    by_kind false c =
        (λ i. if same_answer (plain_answer c bx bz left gx gz i) (plain_answer c by bz right gy gz i)
        then Some (plain_answer c bx bz left gx gz i) else None)
        ∙ ap (λ (t : Bool). if t then Some (answer_after bz (filled gz job)) else None)
        (same_self (answer_after bz (filled gz job)))

    -- what is answered over both parts is what is answered over all their rows
    pub asked_joins : answer_beside over_header k m (answer_after bx (asked_job over_header (filled gx job)))
        (answer_after by (asked_job over_header (filled gy job)))
        ≡ Some (answer_after bz (asked_job over_header (filled gz job)))
    asked_joins = by_kind (is_over_column over_header) refl

  -- what is asked, and then its `onFault`
  pub fallback_answer : (bs cs : List NamedAnswer) → Alike above bs cs → Alike above cs cs → (g : Cells)
      → with_fallback over_header (answer_after bs (asked_job over_header (filled g job)))
      ≡ answer_after cs (filled g job)
  fallback_answer bs cs alike self g = by_column (is_over_column over_header) refl
    where
      by_column : (t : Bool) → is_over_column over_header ≡ t
          → (if t then instead_of_fault (fallback_of over_header) (answer_after bs (when_over t (filled g job)))
          else answer_after bs (when_over t (filled g job))) ≡ answer_after cs (filled g job)
      by_column true c =
          ap (instead_of_fault (fallback_of over_header)) (bare_answer c bs cs alike g)
          ∙ fallback_usable (fallback_of over_header) (first_unusable (jobs_found cs names))
          (walk_answer (seen (jobs_found cs names)) (filled_sources g.named job.sources))
          ∙ sym (full_answer c cs cs self g)
      by_column false c = plain_answer c bs cs alike g g
