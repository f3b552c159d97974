-- The reports of parts, read one after the other from their files.
use Rattle.std.proofs.Common.{◌≡◌, ℕ, ◌+◌, ◌<◌, ◌≤◌, List, [], ◌∷◌, ◌++◌, length, map, drop, get_or, set, Option}
use Rattle.std.proofs.Common.{append_assoc, append-nil, refl, sym, ap, subst, ◌∙◌, arith}
use Rattle.std.proofs.lemmas.Grind.{get_or-set_at}
use Rattle.std.proofs.lemmas.List.{drop_all, drop_more, get_or-map, get_or-set_other, length-set}
use Rattle.counted_io.specs.FailureCounts.{HasRisen}
use Rattle.merge_run.specs.declared.part_report.PartReport.{PartReport}
use Rattle.merge_run.specs.declared.running.PartFile.{PartFile}
use Rattle.merge_run.specs.Run.{AreReports, IsWhole}

module _ {R : Type 0} (remaining : R → Option (List ℕ)) where
  -- the first files, this many, are read; the later ones are as they were
  pub record ReadSoFar (old now : List (PartFile R)) (at : ℕ) (reports : List PartReport) : Type 0 where
    pub sized : length now ≡ length old
    pub within : at ≤ length old
    pub later : (i : ℕ) (d : PartFile R) → at ≤ i → get_or now i d ≡ get_or old i d
    pub read : (rest : List PartReport) → AreReports remaining (drop at old) rest
        → AreReports remaining old (reports ++ rest)

  pub none_read : (old : List (PartFile R)) (reports : List PartReport) → reports ≡ [] → ReadSoFar old old 0 reports
  none_read old reports none = record {
    sized = refl;
    within = omega arith;
    later = λ i d h. refl;
    read = λ rest h. subst (λ (rs : List PartReport). AreReports remaining old (rs ++ rest)) (sym none) h;
  }

  pub one_read : (old now : List (PartFile R)) (at : ℕ) (reports more : List PartReport) (d p : PartFile R)
      (r : PartReport) → at < length old → r.rows ≡ (get_or now at d).rows
      → IsWhole (remaining (get_or now at d).file) r.bytes.items → more ≡ reports ++ r ∷ []
      → ReadSoFar old now at reports → ReadSoFar old (set now at p) (at + 1) more
  one_read old now at reports more d p r within rows whole grown so_far =
      let same : get_or now at d ≡ get_or old at d = so_far.later at d (omega arith) in
      record {
        sized = length-set now at p ∙ so_far.sized;
        within = omega (arith, within);
        later = λ i e h. get_or-set_other now at i p e (λ at_it. omega (arith, h, at_it))
            ∙ so_far.later i e (omega (arith, h));
        read = λ rest h.
            subst (AreReports remaining old)
            (sym (ap (λ (rs : List PartReport). rs ++ rest) grown ∙ append_assoc reports (r ∷ []) rest))
            (so_far.read (r ∷ rest) (subst (λ (fs : List (PartFile R)). AreReports remaining fs (r ∷ rest))
            (sym (drop_more old at d within)) (
              rows ∙ ap (λ (f : PartFile R). f.rows) same,
              subst (λ (f : PartFile R). IsWhole (remaining f.file) r.bytes.items) same whole,
              h,
            )));
      }

  pub all_read : (old now : List (PartFile R)) (at : ℕ) (reports : List PartReport) → length old ≤ at
      → ReadSoFar old now at reports → AreReports remaining old reports
  all_read old now at reports past so_far =
      subst (AreReports remaining old) (append-nil reports)
      (so_far.read [] (subst (λ (fs : List (PartFile R)). AreReports remaining fs []) (sym (drop_all at old past)) tt))

  -- the file whose reading failed is the one that was to be read
  pub failed_at : (failures : R → ℕ) (old now : List (PartFile R)) (at : ℕ) (reports : List PartReport)
      (d p : PartFile R) → at < length old → ReadSoFar old now at reports
      → HasRisen (failures (get_or now at d).file) (failures p.file)
      → HasRisen (get_or (map (λ (part : PartFile R). failures part.file) old) at 0)
      (get_or (map (λ (part : PartFile R). failures part.file) (set now at p)) at 0)
  failed_at failures old now at reports d p within so_far risen =
      let count : PartFile R → ℕ = λ part. failures part.file in
      let long : at < length (set now at p) = omega (arith, within, so_far.sized, length-set now at p) in
      let before : get_or (map count old) at 0 ≡ failures (get_or now at d).file =
      get_or-map count old at d 0 within ∙ ap count (sym (so_far.later at d (omega arith))) in
      let after : get_or (map count (set now at p)) at 0 ≡ failures p.file =
      get_or-map count (set now at p) at d 0 long
      ∙ ap count (get_or-set_at now at at p d refl (omega (arith, within, so_far.sized))) in
      subst (λ (n : ℕ). HasRisen n (get_or (map count (set now at p)) at 0)) (sym before)
      (subst (HasRisen (failures (get_or now at d).file)) (sym after) risen)
