-- The answers of the jobs of a file over parts of a table, as one.
use Rattle.std.proofs.Common.{◌≡◌, ℕ, ◌+◌, Bool, true, false, List, [], ◌∷◌, ◌++◌, Option, Some, None, refl}
use Rattle.std.specs.Prelude.{if◌then◌else◌}
use Rattle.tables.specs.Table.{NamedColumn}
use Rattle.job_language.specs.Jobs.{AbstractJob}
use Rattle.job_meaning.specs.FileAnswers.{NamedAnswer, answer_after, answers_after, meaning_of}
use Rattle.report_merge.specs.Cuts.{asked, asked_job}
use Rattle.report_merge.specs.declared.unmergeable.Unmergeable.{Unmergeable}
use Rattle.report_merge.specs.Mergeable.{cause_below, cause_or, first_unmergeable, is_over_column, unmergeable_below}
use Rattle.report_merge.specs.Merging.{answers_beside, both, with_fallbacks}
use Rattle.report_merge.proofs.JobLemmas.{AreJoined, asked_joins, fallback_answer, plain_asked, plain_full}
use Rattle.report_merge.proofs.NamedLemmas.{Alike, AlikeOne, alike_more, alike_self}
use Rattle.report_merge.proofs.Written.{Cells, WrittenJob, all_filled, filled, no_cells}

cause_split : (place : ℕ) (o : Option Unmergeable) (later : Option (ℕ × Unmergeable)) → cause_or place o later ≡ None
    → (o ≡ None) × (later ≡ None)
cause_split place None later h = (refl, h)
cause_split place (Some c) later h = absurd cc

asked_name : (h job : AbstractJob) (t : Bool) → (if t then record job { on_fault = None } else job).name ≡ job.name
asked_name h job true = refl
asked_name h job false = refl

abbrev named_after : List NamedAnswer → AbstractJob → NamedAnswer
named_after before job = record { name = job.name; answer = answer_after before job }

module _ (header : List NamedColumn) (job : WrittenJob) (above : List AbstractJob)
    (mergeable : cause_below above (filled (no_cells header) job) ≡ None) where
  abbrev head : AbstractJob
  head = filled (no_cells header) job

  -- the next answers of runs over two tables are alike
  next_alike : (bs cs : List NamedAnswer) → Alike above bs cs → (g h : Cells)
      → AlikeOne head (named_after bs (asked_job head (filled g job))) (named_after cs (asked_job head (filled h job)))
  next_alike bs cs alike g h = record {
    left = asked_name head (filled g job) (is_over_column head);
    right = asked_name head (filled h job) (is_over_column head);
    same = plain_asked header job above mergeable bs cs alike g h;
  }

  next_full : (bs cs : List NamedAnswer) → Alike above bs cs → (g : Cells)
      → AlikeOne head (named_after bs (asked_job head (filled g job))) (named_after cs (filled g job))
  next_full bs cs alike g = record {
    left = asked_name head (filled g job) (is_over_column head);
    right = refl;
    same = plain_full header job above mergeable bs cs alike g g;
  }

module _ (header : List NamedColumn) (k m : ℕ) (gx gy gz : Cells) (joined : AreJoined k m gx gy gz) where
  file_joins : (jobs : List WrittenJob) (place : ℕ) (above : List AbstractJob) (bx by bz : List NamedAnswer)
      → Alike above bx bz → Alike above by bz
      → unmergeable_below place above (all_filled (no_cells header) jobs) ≡ None
      → answers_beside (all_filled (no_cells header) jobs) k m
      (answers_after bx (asked (all_filled (no_cells header) jobs) (all_filled gx jobs)))
      (answers_after by (asked (all_filled (no_cells header) jobs) (all_filled gy jobs)))
      ≡ Some (answers_after bz (asked (all_filled (no_cells header) jobs) (all_filled gz jobs)))
  file_joins [] place above bx by bz left right h = refl
  file_joins (job ∷ jobs) place above bx by bz left right h =
      let head = filled (no_cells header) job in
      let none = cause_split place (cause_below above head)
      (unmergeable_below (place + 1) (above ++ head ∷ []) (all_filled (no_cells header) jobs)) h in
      let self = alike_self above bx bz left in
      let nx = named_after bx (asked_job head (filled gx job)) in
      let ny = named_after by (asked_job head (filled gy job)) in
      let nz = named_after bz (asked_job head (filled gz job)) in
      (λ i. both (asked_joins header job above none.0 k m gx gy gz joined bx by bz left right self i)
      (file_joins jobs (place + 1) (above ++ head ∷ []) (bx ++ nx ∷ []) (by ++ ny ∷ []) (bz ++ nz ∷ [])
      (alike_more above bx bz head nx nz left (next_alike header job above none.0 bx bz left gx gz))
      (alike_more above by bz head ny nz right (next_alike header job above none.0 by bz right gy gz)) none.1 i))

  -- the answers over both parts
  pub meanings_join : (jobs : List WrittenJob) → first_unmergeable (all_filled (no_cells header) jobs) ≡ None
      → answers_beside (all_filled (no_cells header) jobs) k m
      (meaning_of (asked (all_filled (no_cells header) jobs) (all_filled gx jobs)))
      (meaning_of (asked (all_filled (no_cells header) jobs) (all_filled gy jobs)))
      ≡ Some (meaning_of (asked (all_filled (no_cells header) jobs) (all_filled gz jobs)))
  meanings_join jobs h = file_joins jobs 0 [] [] [] [] tt tt h

fallbacks_below : (header : List NamedColumn) (g : Cells) (jobs : List WrittenJob) (place : ℕ)
    (above : List AbstractJob) (bs cs : List NamedAnswer) → Alike above bs cs
    → unmergeable_below place above (all_filled (no_cells header) jobs) ≡ None
    → with_fallbacks (all_filled (no_cells header) jobs)
    (answers_after bs (asked (all_filled (no_cells header) jobs) (all_filled g jobs)))
    ≡ Some (answers_after cs (all_filled g jobs))
fallbacks_below header g [] place above bs cs alike h = refl
fallbacks_below header g (job ∷ jobs) place above bs cs alike h =
    let head = filled (no_cells header) job in
    let none = cause_split place (cause_below above head)
    (unmergeable_below (place + 1) (above ++ head ∷ []) (all_filled (no_cells header) jobs)) h in
    let nb = named_after bs (asked_job head (filled g job)) in
    let nc = named_after cs (filled g job) in
    (λ i. both (Some (fallback_answer header job above none.0 bs cs alike (alike_self above bs cs alike) g i))
    (fallbacks_below header g jobs (place + 1) (above ++ head ∷ []) (bs ++ nb ∷ []) (cs ++ nc ∷ [])
    (alike_more above bs cs head nb nc alike (next_full header job above none.0 bs cs alike g)) none.1 i))

-- what is asked, and then each `onFault`
pub fallbacks_join : (header : List NamedColumn) (g : Cells) (jobs : List WrittenJob)
    → first_unmergeable (all_filled (no_cells header) jobs) ≡ None
    → with_fallbacks (all_filled (no_cells header) jobs)
    (meaning_of (asked (all_filled (no_cells header) jobs) (all_filled g jobs)))
    ≡ Some (meaning_of (all_filled g jobs))
fallbacks_join header g jobs h = fallbacks_below header g jobs 0 [] [] [] tt h
